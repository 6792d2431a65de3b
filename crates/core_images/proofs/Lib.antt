pub mod Encodes
pub mod Files
pub mod Wholes
pub mod Mounts
pub mod Openings
pub mod States
pub mod Runs
