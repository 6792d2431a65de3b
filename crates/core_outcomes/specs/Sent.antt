-- Who sent a die that is out. This project's own.
use Rattle.std.specs.Prelude.{◌≡◌, ◌≢◌, ℕ, List, ◌∷◌, ◌++◌, Option, Some, None}
use Rattle.std.specs.List.{Contains}
use Rattle.core_state.specs.declared.event.Event.{Event}
use Rattle.core_state.specs.declared.event.Event.TheVariants.{DieOut, FillIn, FlushOut, FlushIn, MetaIn}
use Rattle.core_state.specs.State.{Out, Core}
use Rattle.core_state.specs.Happens.{actor_of}
use Rattle.core_state.specs.Happens.{after_all}

-- the die that an event sends out
abbrev pub sent_by : Event → Option ℕ
sent_by (DieOut actor die purpose) = Some die
sent_by (FlushOut actor die block) = Some die
sent_by _ = None

-- the die that an event brings home
abbrev pub brought_by : Event → Option ℕ
brought_by (FillIn actor die good) = Some die
brought_by (FlushIn actor die good left) = Some die
brought_by (MetaIn actor die good left) = Some die
brought_by _ = None

-- An event of the list, by the holder, sent the die from home. In every core from then on it is out for the same, and no event brought it
-- home.
pub record WasSent (c : Core) (events : List Event) (die : ℕ) (out : Out) : Type 0 where
  pub before : List Event
  pub event : Event
  pub rest : List Event
  pub split : events ≡ before ++ event ∷ rest
  pub sends : sent_by event ≡ Some die
  pub holder : actor_of event ≡ out.holder
  pub home : ((after_all c before).dies die).out ≡ None
  pub since : (gone left : List Event) → rest ≡ gone ++ left → ((after_all c (before ++ event ∷ gone)).dies die).out ≡ Some out
  pub stays : (e : Event) → Contains rest e → brought_by e ≢ Some die
