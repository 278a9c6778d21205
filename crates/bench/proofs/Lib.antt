pub mod CountedLaws
pub mod TurnsLaws
