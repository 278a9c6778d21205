pub mod Runs
pub mod Elsewhere
pub mod LoadReplies
pub mod LoadRepliesClaims
pub mod RefusalRowsClaims
