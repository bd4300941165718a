pub mod Message
pub mod Table
pub mod Kinds
pub mod Encode
pub mod Decode
pub mod Range
pub mod Check
pub mod Claims
