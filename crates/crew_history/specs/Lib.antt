pub mod Begun
pub mod Worked
