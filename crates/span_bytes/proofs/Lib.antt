pub mod Pointwise
pub mod Running
