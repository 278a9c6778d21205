pub mod MarkedCases
pub mod MarkedCasesClaims
pub mod Demand3Claims
pub mod Example
pub mod FilterExample
