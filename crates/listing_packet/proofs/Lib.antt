pub mod Owned
pub mod VerdictLines
