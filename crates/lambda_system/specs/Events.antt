-- What a method that makes an event says of the histories that a system stands for. This project's own.
use Rattle.std.specs.Prelude.{ℕ, List, [], ◌∷◌, ◌++◌, Option, Some, None, IfSome}
use Rattle.flash_die.specs.Dies.{DieView}
use Rattle.turn_cell.specs.declared.book.Entry.{Entry}
use Rattle.turn_cell.specs.Events.{events_of}
use Rattle.turn_cell.specs.History.{entry}
use Rattle.core_state.specs.declared.event.Event.{Event}
use Rattle.system_state.specs.Jobs.{JobView}
use Rattle.system_state.specs.Slots.{die_at}
use Rattle.system_state.specs.Stands.{Stands, DieStands, tally}
use Rattle.system_state.specs.declared.state.State.{State}
use Rattle.system_state.specs.declared.errand.Errand.{Errand}
use Rattle.lambda_system.specs.declared.pages.Step.{Step}
use Rattle.lambda_system.specs.declared.pages.Step.TheVariants.{Page, Errand as Sent}

module _ {D : Type 0} where
  -- the errand of a step, if its page wants a die
  abbrev pub errand_in : Step D → Option (Errand D)
  errand_in Page = None
  errand_in (Sent e) = Some e

module _ {D J : Type 0} (seen : D → DieView) where
  -- the die told, as it went out, what it told at the opening, and what has counted for it in this history
  abbrev pub HasTold : State D J → List (Entry Event) → Errand D → Type 0
  HasTold o h e = DieStands (die_at seen o.rack.slots.items e.number) (tally e.number (events_of h)) (seen e.left.value)

module _ {D J : Type 0} (seen : D → DieView) (suits : J → JobView → Type 0) where
  -- what stood for a history stands for it with this event
  abbrev pub Extends : State D J → Event → State D J → Type 0
  Extends s e t = (o : State D J) (h : List (Entry Event)) (n : ℕ) → Stands seen suits s o h → Stands seen suits t o (h ++ entry n e ∷ [])

  -- and the die that goes out by it told what counts for it
  abbrev pub ExtendsOut : State D J → Event → State D J → Errand D → Type 0
  ExtendsOut s e t errand = (o : State D J) (h : List (Entry Event)) (n : ℕ) → Stands seen suits s o h →
      Stands seen suits t o (h ++ entry n e ∷ []) × HasTold seen o h errand

  -- the same where a page came without a die, or a die goes out for it
  abbrev pub ExtendsMaybeOut : State D J → Event → State D J → Option (Errand D) → Type 0
  ExtendsMaybeOut s e t errand = (o : State D J) (h : List (Entry Event)) (n : ℕ) → Stands seen suits s o h →
      Stands seen suits t o (h ++ entry n e ∷ []) × IfSome errand (HasTold seen o h)

  -- where a die comes home by it that told, as it went out, what counts for it in the history
  abbrev pub ExtendsHome : State D J → Event → State D J → Errand D → Type 0
  ExtendsHome s e t errand = (o : State D J) (h : List (Entry Event)) (n : ℕ) → Stands seen suits s o h → HasTold seen o h errand →
      Stands seen suits t o (h ++ entry n e ∷ [])
