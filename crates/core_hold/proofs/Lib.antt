pub mod Actors
pub mod Views
pub mod Dies
pub mod Lanes
pub mod Phases
pub mod Outward
pub mod Copies
pub mod Homeward
pub mod Seeing
pub mod Moves
pub mod Quicks
pub mod Endings
pub mod Outputs
pub mod Reaches
pub mod Lengths
pub mod Rests
pub mod Stores
pub mod Spanning
pub mod Others
pub mod Changes
pub mod Storing
pub mod Ends
pub mod All
pub use Rattle.core_quick.proofs.Seen
pub use Rattle.core_quick.proofs.Named
pub use Rattle.core_quick.proofs.Released
pub use Rattle.core_quick.proofs.Unchanged
pub use Rattle.core_quick.proofs.Sealed
pub use Rattle.core_quick.proofs.Quick
pub use Rattle.core_quick.proofs.Moves as CoreQuickMoves
pub use Rattle.core_quick.proofs.Flying
pub use Rattle.core_quick.proofs.Phases as CoreLanesPhases
pub use Rattle.core_quick.proofs.Beginning
pub use Rattle.core_quick.proofs.Idle
pub use Rattle.core_quick.proofs.Metas
pub use Rattle.core_quick.proofs.Outward as CoreLanesOutward
pub use Rattle.core_quick.proofs.Views as CoreLemmasViews
pub use Rattle.core_quick.proofs.Words
pub use Rattle.core_quick.proofs.Spans
pub use Rattle.core_quick.proofs.Calls
