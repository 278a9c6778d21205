pub mod Plain
pub mod PlainLaws
