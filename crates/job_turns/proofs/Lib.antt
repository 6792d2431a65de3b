pub mod Starts
pub mod Finishes
pub mod Collects
pub use Rattle.job_events.proofs.FlushSteps
pub use Rattle.job_events.proofs.Keeping
