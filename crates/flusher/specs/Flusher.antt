-- The work of a flusher over a desk. This project's own.
use Rattle.std.specs.Prelude.{◌≡◌, ◌⊎◌, ℕ, List, [], Result, Ok, Err}
use Rattle.std.specs.declared.snapshot.Snapshot.{Snapshot}
use Rattle.turn_cell.specs.declared.view.View.{View}
use Rattle.turn_cell.specs.declared.pass.Worn.{Worn}
use Rattle.flash_die.specs.Dies.{DieView}
use Rattle.core_state.specs.declared.actor.Actor.TheVariants.{Flusher}
use Rattle.core_state.specs.declared.event.Event.{Event}
use Rattle.core_state.specs.Happens.{HoldsNone, IsClosing}
use Rattle.system_state.specs.Cores.{core_of}
use Rattle.system_state.specs.declared.state.State.{State}
use Rattle.desk_turns.specs.Making.{AreOf}
use Rattle.desk_turns.specs.Passing.{core_seen}
use Rattle.event_turns.specs.Flushing.{IsClean, IsBusy}
use Rattle.event_turns.specs.FlushedAnswer.{Flushed}
use Rattle.event_turns.specs.FlushedAnswer.TheVariants.{Wrote, Failed, Nothing, Busy}
use Rattle.core_state.specs.State.{Core}
use Rattle.flusher.specs.declared.step.FlusherStep.{FlusherStep}
use Rattle.flusher.specs.declared.step.FlusherStep.TheVariants.{On, Waits, Closing}

-- no block is unclean, or some are and the dies of all of them are out
abbrev pub IsIdle : Core → Type 0
IsIdle c = IsClean c ⊎ ((die : ℕ) × IsBusy die c)

module _ {D J : Type 0} (seen : D → DieView) where
  -- The flusher made these events, and holds no die; and this is so of the core as it was last seen.
  pub record HasFlushed (o : Snapshot (State D J)) (w : View (Snapshot (State D J)) Event) (flusher : ℕ) (P : Core → Type 0) (es : List Event) : Type 0 where
    pub of : AreOf (Flusher flusher) es
    pub none : HoldsNone (core_seen (core_of seen) o w) (Flusher flusher)
    pub says : P (core_seen (core_of seen) o w)

  -- what a step answers, and its events
  abbrev pub StepSays : Snapshot (State D J) → View (Snapshot (State D J)) Event → View (Snapshot (State D J)) Event → ℕ → Result FlusherStep Worn → List Event → Type 0
  StepSays o v w flusher (Err x) es = AreOf (Flusher flusher) es
  StepSays o v w flusher (Ok On) es = HasFlushed o w flusher (λ c. Unit {0}) es
  StepSays o v w flusher (Ok Waits) es = (es ≡ []) × HasFlushed o w flusher IsIdle es
  StepSays o v w flusher (Ok Closing) es = (es ≡ []) × HasFlushed o w flusher IsClosing es

  -- what the flusher's work comes to, and its events
  abbrev pub LoopSays : Snapshot (State D J) → View (Snapshot (State D J)) Event → ℕ → Result (Unit {0}) Worn → List Event → Type 0
  LoopSays o w flusher (Err x) es = AreOf (Flusher flusher) es
  LoopSays o w flusher (Ok x) es = HasFlushed o w flusher IsClosing es

-- the answer where a flush came home, and where none could begin
abbrev pub flushed_step : Flushed → FlusherStep
flushed_step (Wrote block) = On
flushed_step (Failed block) = On
flushed_step Nothing = Waits
flushed_step (Busy die) = Waits
