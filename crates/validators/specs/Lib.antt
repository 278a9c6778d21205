pub mod Lent
pub mod Verdict
pub mod Verdicts
pub mod VerdictsClaims
pub mod VerdictTextsClaims
