pub mod Cuts
pub mod Few
pub mod Turns
