pub mod Seats
pub mod Calls
pub mod Lanes
pub mod Acts
pub mod Posts
pub mod Crews
pub use Rattle.page_steps.specs.JobTurns
