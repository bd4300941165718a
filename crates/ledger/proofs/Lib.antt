-- Laws of a ledger's sums and of an account that is lent, which the proofs of this crate cite, and the claims a reader may quote.
pub mod Sums
pub mod Lent
pub mod Claims
