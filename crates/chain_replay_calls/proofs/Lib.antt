-- Why it holds.
pub mod OneCallLaws
