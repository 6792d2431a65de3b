pub mod Dealt
pub mod Gathered
