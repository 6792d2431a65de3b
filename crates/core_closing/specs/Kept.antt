-- What a core keeps in which every lane has left and no call is in flight. This project's own.
use Rattle.std.specs.Prelude.{◌≡◌, ℕ, ◌<◌, ◌≤◌, false, []}
use Rattle.page_base.specs.Drive.{meta_pages}
use Rattle.core_state.specs.declared.actor.Actor.TheVariants.{Closer}
use Rattle.core_state.specs.declared.event.Event.{Event}
use Rattle.core_state.specs.declared.event.Event.TheVariants.{FlushIn, MetaIn}
use Rattle.core_state.specs.State.{Page, Core}
use Rattle.core_state.specs.Happens.{HoldsNone, IsClosing}

-- The closer may go on with the last sync: every lane has left and no call is in flight, it holds no die, and it has written no more pages of
-- the meta data than there are.
pub record MaySettle (c : Core) : Type 0 where
  pub closing : IsClosing c
  pub none : HoldsNone c Closer
  pub most : c.closer ≤ meta_pages c.shape.blocks

-- Geometry, files, places, the flags of the blocks and the pages of the meta data that the closer had written are the same. It may have
-- written more of these.
pub record KeepsStored (c d : Core) : Type 0 where
  pub shape : d.shape ≡ c.shape
  pub names : d.names ≡ c.names
  pub places : d.places ≡ c.places
  pub written : (b : ℕ) → (d.blocks b).written ≡ (c.blocks b).written
  pub clean : (b : ℕ) → (d.blocks b).clean ≡ (c.blocks b).clean
  pub unclean : d.unclean ≡ c.unclean
  pub closer : c.closer ≤ d.closer
  pub meta : (number : ℕ) → number < c.closer → d.meta number ≡ c.meta number

-- the pages of the meta data that the closer has written are those of this core, and it has written none while a block is unclean
pub record IsStoredSoFar (encode : Core → ℕ → Page) (c : Core) : Type 0 where
  pub meta : (number : ℕ) → number < c.closer → c.meta number ≡ encode c number
  pub clean : 0 < c.closer → c.unclean ≡ []

-- a write of the closer comes home, and had failed
abbrev pub IsFailedWrite : Event → Type 0
IsFailedWrite (FlushIn Closer die false left) = Unit {0}
IsFailedWrite (MetaIn Closer die false left) = Unit {0}
IsFailedWrite _ = ⊥
