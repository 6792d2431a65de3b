pub mod Fits
pub mod Drives
pub mod Tables
pub mod Opened
pub mod Spelled
