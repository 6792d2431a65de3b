pub mod EarlyParts
pub mod Places
pub mod Puts
pub mod Stores
pub mod Flat
pub mod Runs
pub mod Ordered
