pub mod Replies
pub mod Doors
pub mod ReplyLaws
pub mod DoorLaws
