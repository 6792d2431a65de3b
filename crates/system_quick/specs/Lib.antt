pub mod Replied
pub mod Tables
pub mod Rows
pub mod Waits
pub use Rattle.system_begin.specs.Ways
pub use Rattle.system_begin.specs.Begun
pub use Rattle.system_begin.specs.declared.attempt.Begun as BegunAnswer
