pub mod Counting
pub mod Erased
pub mod Went
