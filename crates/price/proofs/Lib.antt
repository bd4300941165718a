pub mod Magnitudes
pub mod Limbs
