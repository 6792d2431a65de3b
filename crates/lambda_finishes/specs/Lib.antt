pub mod Finishing
pub mod Waiting
pub use Rattle.call_finishes.specs.Finishing as Ends
pub use Rattle.call_finishes.specs.Gathering
