pub mod Changes
pub mod Loaded
pub mod Moving
pub mod Went
pub mod Wholeness
