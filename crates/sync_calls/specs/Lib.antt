pub mod Writes
pub mod Stages
pub mod Sync
