pub mod Outputs
pub mod Keeping
pub mod Listing
pub mod Steps
pub mod Loaded
