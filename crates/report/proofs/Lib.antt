-- The laws of reports that the proofs of this crate and of others cite, and the claims.
pub mod Values
pub mod Members
pub mod Whole
pub mod Bodies
pub mod Faults
pub mod Stands
pub mod Order
pub mod Kept
pub mod Listed
pub mod Claims
