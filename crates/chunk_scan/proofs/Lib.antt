pub mod Runs
pub mod Cuts
pub mod Answering
pub mod Replies
