pub mod Decimal
pub mod Lines
pub mod Output
pub mod Machine
pub mod Claims
