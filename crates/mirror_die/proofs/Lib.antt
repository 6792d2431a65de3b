pub mod Counting
pub mod Lists
pub mod Made
pub mod Reading
pub mod Rebuilding
pub mod Restoring
pub mod Steps
pub mod Writing
