pub mod State
pub mod Rules
pub mod Runs
pub mod Claims
