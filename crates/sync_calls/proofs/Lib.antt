pub mod InSync
pub mod Nexts
pub mod Begins
pub mod Homing
pub mod Stepping
pub mod Looping
