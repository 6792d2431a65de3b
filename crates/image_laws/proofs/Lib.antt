pub mod Steps
pub mod Readings
pub mod Cutting
pub mod Whole
pub mod Again
