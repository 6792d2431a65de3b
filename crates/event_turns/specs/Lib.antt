pub mod Words
pub mod LaneTurns
pub mod MetaTurns
pub mod PageTurns
pub mod JobTurns
pub mod Cut
pub use Rattle.flushes.specs.Ways
pub use Rattle.flushes.specs.Begun
pub use Rattle.flushes.specs.BegunAnswer
pub use Rattle.flushes.specs.QuickTables
pub use Rattle.flushes.specs.QuickWaits
pub use Rattle.flushes.specs.LoadingOf
pub use Rattle.flushes.specs.SystemOf
pub use Rattle.flushes.specs.Books
pub use Rattle.flushes.specs.Flushing
pub use Rattle.flushes.specs.declared.flush.Flushed as FlushedAnswer
