pub mod Answers
pub mod Completeness
pub mod Counts
pub mod Entries
pub mod Followed
pub mod Lists
pub mod Same
pub mod Verdicts
