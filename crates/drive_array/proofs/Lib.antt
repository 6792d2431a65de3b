pub mod Cutting
pub mod Dealing
pub mod InOrder
pub mod Pairs
pub mod Told
pub mod Loaded
