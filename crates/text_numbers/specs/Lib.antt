pub mod Numerals
pub mod NumeralLaws
pub mod FillLaws
