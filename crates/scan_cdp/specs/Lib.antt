pub mod Answers
pub mod Outcomes
pub mod Steps
pub mod Windows
pub mod Loads
pub mod SkipDistanceClaims
pub mod Scans
pub mod Messages
