pub mod Rooming
pub mod Looping
pub use Rattle.call_begins.proofs.FlushSteps
pub use Rattle.call_begins.proofs.Ending
