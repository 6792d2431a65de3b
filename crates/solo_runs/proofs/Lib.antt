pub mod Ends
pub mod Between
pub mod LinesTold
pub mod Lining
pub mod Running
pub mod Whole
