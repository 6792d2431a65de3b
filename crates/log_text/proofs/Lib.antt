pub mod Told
pub mod Noting
pub mod Lining
pub mod Lanes
