pub mod Deviation
pub mod Median
pub mod Due
pub mod Limbs
