pub mod Failing
pub mod Lines
pub mod Gathering
pub mod Running
