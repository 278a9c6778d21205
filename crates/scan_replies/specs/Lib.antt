pub mod Examinations
pub mod ExaminationsLaws
