pub mod Passages
pub mod Turning
