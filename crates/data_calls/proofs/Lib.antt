pub mod Whole
pub use Rattle.call_starts.proofs.Ending
pub use Rattle.call_starts.proofs.FlushSteps
pub use Rattle.call_starts.proofs.Rooming
pub use Rattle.lambda_finishes.proofs.Marks
pub use Rattle.lambda_finishes.proofs.Serving
