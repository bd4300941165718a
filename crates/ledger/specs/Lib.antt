pub mod Ledger
pub mod History
pub mod Claims
