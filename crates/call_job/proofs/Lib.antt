pub mod Pools
pub mod Executed
pub mod Endings
pub mod Putting
pub mod Cuts
pub mod Written
pub mod Ended
pub mod Kept
