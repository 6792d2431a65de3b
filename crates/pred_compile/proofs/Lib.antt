pub mod Places
pub mod Lands
pub mod Moves
pub mod Memory
pub mod Turns
pub mod Kept
pub mod Emitted
