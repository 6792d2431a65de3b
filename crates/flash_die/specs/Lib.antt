pub mod Dies
pub mod Failures
pub mod Laws
pub mod Memory
