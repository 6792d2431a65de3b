pub mod Numbers
pub mod Replies
pub mod Faults
pub mod Awaits
pub mod Leaving
