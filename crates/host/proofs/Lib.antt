-- The claims, proved.
pub mod Claims
