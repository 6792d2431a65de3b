pub mod Cut
pub mod Mirrors
pub mod Parts
pub mod Reads
pub mod Shares
