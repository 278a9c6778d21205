pub mod Plain
pub mod PlainLaws
pub mod Replies
pub mod RepliesLaws
