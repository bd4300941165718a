pub mod State
pub mod Calls
pub mod Payable
pub mod History
pub mod Claims
