pub mod Words
pub mod Places
pub mod Reading
pub mod Turns
