pub mod Loaded
pub mod Objects
