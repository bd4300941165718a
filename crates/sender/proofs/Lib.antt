-- What the proofs of this crate share, the laws that the claims rest on, and the claims a reader may quote.
pub mod Slots
pub mod Stages
pub mod Ready
pub mod Places
pub mod Facts
pub mod Queue
pub mod Writes
pub mod Outcomes
pub mod Moves
pub mod Handed
pub mod Runs
pub mod Listed
pub mod Claims
