-- What is defined.
pub mod FourLists
pub mod Replays
-- What is stated.
pub mod AllCallsClaims
