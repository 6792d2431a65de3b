pub mod Replies
pub mod Verdicts
pub mod Histories
pub mod Held
