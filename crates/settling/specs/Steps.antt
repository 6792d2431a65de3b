-- One step of the last sync over a desk: one write, or none yet, or none any more. This project's own.
use Rattle.std.specs.Prelude.{◌≡◌, ◌≤◌, ℕ, Bool, true, false, not, List, [], ◌∷◌, ◌++◌, length, Result, Ok, Err}
use Rattle.std.specs.declared.snapshot.Snapshot.{Snapshot}
use Rattle.turn_cell.specs.declared.book.Entry.{Entry}
use Rattle.turn_cell.specs.declared.view.View.{View}
use Rattle.turn_cell.specs.declared.pass.Worn.{Worn}
use Rattle.turn_cell.specs.History.{entry}
use Rattle.flash_die.specs.Dies.{DieView}
use Rattle.core_state.specs.declared.actor.Actor.TheVariants.{Closer}
use Rattle.core_state.specs.declared.event.Event.{Event}
use Rattle.core_state.specs.State.{Core}
use Rattle.core_state.specs.Coherent.{Coherent}
use Rattle.core_state.specs.Happens.{HoldsNone, CoreRun, after}
use Rattle.core_state.specs.History.{is_failure}
use Rattle.core_solo.specs.Solo.{IsSyncStep, IsSyncNext, IsStored}
use Rattle.core_closing.specs.Kept.{MaySettle, IsStoredSoFar, IsFailedWrite}
use Rattle.system_state.specs.Cores.{core_of}
use Rattle.system_state.specs.declared.state.State.{State}
use Rattle.system_metas.specs.Encode.{encode}
use Rattle.desk_turns.specs.Making.{AreOf}
use Rattle.desk_turns.specs.Passing.{core_seen, FoundAt}
use Rattle.page_steps.specs.Flushing.{HasFailed}
use Rattle.settling.specs.Next.{IsNextWrite, IsStopped}
use Rattle.settling.specs.declared.step.SettleStep.{SettleStep}
use Rattle.settling.specs.declared.step.SettleStep.TheVariants.{On, Done, Failed, Waits}

-- the last entry of the history is a write of the closer that had failed
abbrev pub EndsInFailure : List (Entry Event) → Type 0
EndsInFailure h = (before : List (Entry Event)) × (last : Entry Event) × (h ≡ before ++ last ∷ []) × IsFailedWrite last.event

module _ {D J : Type 0} (seen : D → DieView) where
  -- From one view to a later one all that the closer has written of the meta data is still the core's.
  abbrev pub StaysStored : Snapshot (State D J) → View (Snapshot (State D J)) Event → View (Snapshot (State D J)) Event → Type 0
  StaysStored o v w = IsStoredSoFar encode (core_seen (core_of seen) o v) → IsStoredSoFar encode (core_seen (core_of seen) o w)

  -- The next write of the last sync went out, and came home. Where the pass is alone, both are the next events of the run of one thread.
  pub record WroteNext (o : Snapshot (State D J)) (v w : View (Snapshot (State D J)) Event) (good : Bool) (es : List Event) : Type 0 where
    pub out : Event
    pub home : Event
    pub are : es ≡ out ∷ home ∷ []
    pub next : FoundAt (core_of seen) o v w out (IsNextWrite out)
    pub of : AreOf Closer es
    pub fails : is_failure home ≡ not good
    pub failed : good ≡ false → EndsInFailure w.seen × ((die : ℕ) × HasFailed seen o v w die)
    pub begins : Coherent (core_seen (core_of seen) o v)
    pub ready : MaySettle (core_seen (core_of seen) o w)
    pub coherent : Coherent (core_seen (core_of seen) o w)
    pub stays : StaysStored o v w
    pub run : v.alone ≡ true → CoreRun (core_seen (core_of seen) o v) es (core_seen (core_of seen) o w)
    pub solo : v.alone ≡ true → IsSyncStep encode (core_seen (core_of seen) o v) out × IsSyncNext encode (after (core_seen (core_of seen) o v) out) home

  -- No event was made: that is why, of the core as it was last seen.
  pub record WroteNone (o : Snapshot (State D J)) (v w : View (Snapshot (State D J)) Event) (why : Core → Type 0) (es : List Event) : Type 0 where
    pub are : es ≡ []
    pub because : why (core_seen (core_of seen) o w)
    pub ready : MaySettle (core_seen (core_of seen) o w)
    pub coherent : Coherent (core_seen (core_of seen) o w)
    pub stays : StaysStored o v w
    pub same : v.alone ≡ true → core_seen (core_of seen) o w ≡ core_seen (core_of seen) o v

  -- Where the closer held no die at the opening, the last entry of the history that was seen is no failed write of the closer.
  abbrev pub IsUnfailed : Snapshot (State D J) → View (Snapshot (State D J)) Event → Type 0
  IsUnfailed o w = HoldsNone (core_of seen o.value) Closer → EndsInFailure w.seen → ⊥

  -- what a step answers, and its events
  abbrev pub StepSays : Snapshot (State D J) → View (Snapshot (State D J)) Event → View (Snapshot (State D J)) Event → Result SettleStep Worn → List Event → Type 0
  StepSays o v w (Err x) es = AreOf Closer es × (length es ≤ 1)
  StepSays o v w (Ok On) es = WroteNext o v w true es
  StepSays o v w (Ok Failed) es = WroteNext o v w false es
  StepSays o v w (Ok Done) es = WroteNone o v w IsStored es × IsUnfailed o w
  StepSays o v w (Ok Waits) es = WroteNone o v w (λ c. (die : ℕ) × IsStopped die c) es

-- the answer where a write came home
abbrev pub stepped : Bool → SettleStep
stepped true = On
stepped false = Failed
