pub mod Ftl
pub mod Laws
pub mod Layouts
pub mod Places
pub mod Stored
