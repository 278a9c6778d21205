pub mod ApartLaws
pub mod ArraysLaws
pub mod Example
pub mod InOrderLaws
pub mod LinkLaws
