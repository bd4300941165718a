pub mod State
pub mod Takes
pub mod Rules
pub mod Handed
pub mod Claims
