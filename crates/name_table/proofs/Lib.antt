pub mod Padded
pub mod Classes
pub mod Places
pub mod Slots
pub mod Tables
pub mod Indexes
pub mod Kept
