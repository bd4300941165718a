pub mod State
pub mod Listed
pub mod Takes
pub mod Rules
pub mod Runs
pub mod Claims
