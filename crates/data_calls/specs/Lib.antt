pub mod Kinds
pub mod Answers
pub use Rattle.call_starts.specs.Armed
pub use Rattle.call_starts.specs.BeginStage
pub use Rattle.call_starts.specs.Books
pub use Rattle.call_starts.specs.Calls
pub use Rattle.call_starts.specs.Cut
pub use Rattle.call_starts.specs.Flushing
pub use Rattle.call_starts.specs.Making
pub use Rattle.call_starts.specs.Starting
pub use Rattle.call_starts.specs.Steps
pub use Rattle.call_starts.specs.Words
pub use Rattle.call_starts.specs.declared.start.Beginning as BeginAnswer
pub use Rattle.lambda_finishes.specs.Ends
pub use Rattle.lambda_finishes.specs.Finishing
pub use Rattle.lambda_finishes.specs.Gathering
