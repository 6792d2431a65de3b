pub mod Answers
pub mod Regions
pub mod Order
