pub mod Paired
pub mod Changes
pub mod Agree
