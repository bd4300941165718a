pub mod State
pub mod Stage
pub mod Waiting
pub mod Calls
pub mod Ready
pub mod History
pub mod Claims
