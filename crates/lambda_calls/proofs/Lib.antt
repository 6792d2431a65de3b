pub mod Whole
pub use Rattle.data_calls.proofs.Whole as DataWhole
