pub mod Numbers
pub mod NumberGrammar
pub mod Parsing
pub mod NumberLaws
