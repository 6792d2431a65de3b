pub mod Found
pub mod Arming
pub mod Begins
pub mod InUse
pub mod Ends
pub use Rattle.call_turns.proofs.Begins as TurnBegins
pub use Rattle.call_turns.proofs.FlushSteps
pub use Rattle.call_turns.proofs.FlushTurning
pub use Rattle.call_turns.proofs.Keeping
pub use Rattle.call_turns.proofs.Numbering
pub use Rattle.call_turns.proofs.Taking
pub use Rattle.call_turns.proofs.Waiting
