pub mod Sorting
pub mod Starting
pub use Rattle.call_begins.specs.Steps
pub use Rattle.call_begins.specs.declared.step.Stage as BeginStage
pub use Rattle.call_begins.specs.Cut
pub use Rattle.call_begins.specs.Calls
pub use Rattle.call_begins.specs.Flushing
pub use Rattle.call_begins.specs.Armed
pub use Rattle.call_begins.specs.Making
pub use Rattle.call_begins.specs.Words
pub use Rattle.call_begins.specs.Books
