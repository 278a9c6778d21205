pub mod StaveNames
pub mod StaveNameGrammar
pub mod StaveNameLaws
pub mod Parsing
pub mod Messages
