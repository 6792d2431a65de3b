pub mod Moves
pub mod Ready
pub mod Turning
pub mod Homing
pub mod Stepping
pub mod Looping
