pub mod Blocks
pub mod Calls
pub mod Limits
pub mod Awaits
pub mod Scripts
pub mod Order
pub mod Building
pub mod Outcomes
