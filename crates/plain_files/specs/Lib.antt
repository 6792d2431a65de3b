pub mod Steps
pub mod Lists
pub mod Plain
pub mod History
pub mod Allowed
