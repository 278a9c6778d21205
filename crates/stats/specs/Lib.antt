pub mod Counts
pub mod CountsLaws
pub mod Lists
pub mod ListsLaws
