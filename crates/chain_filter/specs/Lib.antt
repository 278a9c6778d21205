-- What is defined.
pub mod Scanned
-- What is stated.
pub mod FilterThinsClaims
pub mod LinkThinnedClaims
