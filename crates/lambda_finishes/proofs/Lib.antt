pub mod Running
pub mod Asking
pub mod Sending
pub mod Serving
pub use Rattle.call_finishes.proofs.Marks
