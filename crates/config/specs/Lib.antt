pub mod Limits
pub mod Answers
pub mod Codes
pub mod Bounds
pub mod Leader
pub mod Claims
