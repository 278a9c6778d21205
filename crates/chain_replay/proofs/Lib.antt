-- Why it holds.
pub mod AllCallsLaws
pub mod FourListsLaws
pub mod FourListsReplays
pub mod ReplaysLaws
pub mod StandsLaws
