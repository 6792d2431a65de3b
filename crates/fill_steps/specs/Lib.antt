pub mod Gathering
pub mod Pages
pub mod Spans
pub use Rattle.event_turns.specs.Words
pub use Rattle.event_turns.specs.JobTurns
pub use Rattle.event_turns.specs.Books
pub use Rattle.event_turns.specs.Flushing
pub use Rattle.event_turns.specs.Cut
