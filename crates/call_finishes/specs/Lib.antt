pub mod Finishing
pub use Rattle.fill_steps.specs.Gathering
pub use Rattle.fill_steps.specs.Spans
pub use Rattle.job_turns.specs.Armed
pub use Rattle.job_turns.specs.Books
pub use Rattle.job_turns.specs.Collecting
pub use Rattle.job_turns.specs.Ended
pub use Rattle.job_turns.specs.Finishing as Endings
pub use Rattle.job_turns.specs.Flushing
pub use Rattle.job_turns.specs.JobTurns
pub use Rattle.job_turns.specs.Making
pub use Rattle.job_turns.specs.Words
pub use Rattle.fill_steps.specs.Cut
