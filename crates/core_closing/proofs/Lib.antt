pub mod Shut
pub mod Keeps
pub mod Writing
pub mod Failing
