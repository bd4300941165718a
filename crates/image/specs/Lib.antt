pub mod Image
pub mod Memory
