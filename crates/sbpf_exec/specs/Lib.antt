pub mod Buffers
pub mod Parts
pub mod Lending
pub mod Frames
pub mod Steps
pub mod Outcomes
pub mod Inside
pub mod FlatCells
