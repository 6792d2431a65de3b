pub mod Found
pub mod Wholes
pub mod Reaches
pub mod Replies
pub mod Stored
pub mod Cutting
