-- The laws of a follower's state, rules and findings; `Claims` answers specs/Claims.antt.
pub mod State
pub mod Rules
pub mod Taken
pub mod Findings
pub mod Rounds
pub mod Bodies
pub mod Claims
