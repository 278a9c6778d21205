pub mod Example
pub mod ListingTextLaws
