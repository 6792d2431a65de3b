pub mod Books
pub mod Events
pub use Rattle.system_quick.specs.Ways
pub use Rattle.system_quick.specs.Begun
pub use Rattle.system_quick.specs.BegunAnswer
pub use Rattle.system_quick.specs.Tables as QuickTables
pub use Rattle.system_quick.specs.Waits as QuickWaits
pub use Rattle.system_quick.specs.declared.functions.Loading as LoadingOf
