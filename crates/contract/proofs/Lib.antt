-- What the checks tell and how fees are paid, for the proofs of this crate, and the claims a reader may quote.
pub mod Bodies
pub mod Facts
pub mod Fees
pub mod Moves
pub mod Shares
pub mod Listed
pub mod Claims
