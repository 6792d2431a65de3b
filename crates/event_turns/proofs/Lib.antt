pub mod Taking
pub mod Keeping
pub mod Numbering
pub mod Answering
pub mod Errands
pub mod Nexts
pub mod Waiting
pub use Rattle.flushes.proofs.Turning as FlushTurning
pub use Rattle.flushes.proofs.Steps as FlushSteps
pub use Rattle.flushes.proofs.Hands as FlushHands
pub use Rattle.flushes.proofs.Known as FlushKnown
