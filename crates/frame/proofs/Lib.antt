-- The laws of frames that the proofs of this crate and of others cite, and the claims.
pub mod Ranges
pub mod Numbers
pub mod Messages
pub mod Entries
pub mod Access
pub mod Readable
pub mod RoundTrip
pub mod Fronts
pub mod Framed
pub mod Checks
pub mod Checked
pub mod Claims
