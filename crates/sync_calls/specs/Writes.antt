-- Writes of a `sync`: a die goes out, and comes home. This project's own.
use Rattle.std.specs.Prelude.{◌≡◌, ℕ, Bool, List, [], ◌∷◌}
use Rattle.core_state.specs.declared.actor.Actor.TheVariants.{Lane}
use Rattle.core_state.specs.declared.event.Event.{Event}
use Rattle.core_state.specs.declared.event.Event.TheVariants.{FlushIn, MetaIn}
use Rattle.core_state.specs.State.{Page, Core}
use Rattle.system_state.specs.declared.errand.Errand.{Errand}

module _ {D : Type 0} where
  -- the lane's die comes home that was used to write a block, or a page of the meta data
  abbrev pub BlockBack : ℕ → Errand D → Bool → Core → List Event → Type 0
  BlockBack lane e good c es = (left : Page) × (es ≡ FlushIn (Lane lane) e.number good left ∷ [])

  abbrev pub PageBack : ℕ → Errand D → Bool → Core → List Event → Type 0
  PageBack lane e good c es = (left : Page) × (es ≡ MetaIn (Lane lane) e.number good left ∷ [])
