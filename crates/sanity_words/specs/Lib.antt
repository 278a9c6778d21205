pub mod TestsLaws
