pub mod Steps
pub mod Firsts
pub mod Locked
pub mod Moves
pub mod Conflicts
