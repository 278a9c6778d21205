pub mod FeeIds
pub mod FeeIdLaws
