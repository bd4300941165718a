pub mod Numbers
pub mod Lent
pub mod Calls
pub mod Claims
