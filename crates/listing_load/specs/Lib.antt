pub mod LoadLines
pub mod LoadLinesLaws
