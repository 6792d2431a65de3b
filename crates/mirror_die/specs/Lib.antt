pub mod Calls
pub mod Freshness
pub mod Laws
pub mod Mirror
pub mod Rebuild
pub mod Views
