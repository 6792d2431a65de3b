pub mod Orders
pub mod Stored
pub mod Imaging
pub mod Begun
pub mod Made
pub mod Moved
