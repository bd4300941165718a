pub mod Faults
pub mod Stands
pub mod Kept
pub mod Newer
pub mod Whole
pub mod Claims
