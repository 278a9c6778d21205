pub mod Filter
pub mod FilterLaws
