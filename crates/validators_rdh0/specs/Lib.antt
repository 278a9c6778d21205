pub mod Rdh0Verdict
pub mod Rdh0VerdictLaws
