pub mod Counts
pub mod Neighbours
pub mod Puts
pub mod Paths
pub mod Ringed
pub mod Several
