-- The laws of a leader's list, tables and states that the proofs of this crate and of others cite, and the claims.
pub mod Cases
pub mod Taken
pub mod Orders
pub mod Inserted
pub mod Marked
pub mod Lines
pub mod Tables
pub mod States
pub mod Claims
