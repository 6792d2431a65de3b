pub mod Numbers
pub mod Places
pub mod Lanes
pub mod Posts
pub mod Served
pub mod Begins
