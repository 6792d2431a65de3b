pub mod Stepping
pub use Rattle.quick_calls.proofs.Frees
pub use Rattle.quick_calls.proofs.Ending
pub use Rattle.quick_calls.proofs.FlushSteps
pub use Rattle.quick_calls.proofs.Wanting
