-- What is defined.
pub mod OneCall
