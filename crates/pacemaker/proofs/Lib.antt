-- Laws of the pacemaker that other crates cite: what a run comes to, what holds of every state that is reached, and the claims of specs/Claims.antt.
pub mod Settle
pub mod Reachable
pub mod Claims
