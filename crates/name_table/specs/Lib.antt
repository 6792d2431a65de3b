pub mod Name
pub mod Hashes
pub mod Files
pub mod Inside
