-- Laws of a configuration that the proofs of this crate and of others cite, and the claim a reader may quote.
pub mod Stages
pub mod Facts
pub mod Passed
pub mod Claims
