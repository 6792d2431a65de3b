-- All lanes enter, and all lanes leave, by the only pass. This project's own.
use Rattle.std.specs.Prelude.{◌≡◌, ◌<◌, ◌≤◌, ℕ, false, List, None, Result, Ok, Err}
use Rattle.std.specs.declared.snapshot.Snapshot.{Snapshot}
use Rattle.page_base.specs.Drive.{meta_pages}
use Rattle.turn_cell.specs.declared.view.View.{View}
use Rattle.turn_cell.specs.declared.pass.Worn.{Worn}
use Rattle.flash_die.specs.Dies.{DieView}
use Rattle.core_state.specs.declared.event.Event.{Event}
use Rattle.core_state.specs.State.{Outside, Core}
use Rattle.core_state.specs.Happens.{IsClosing, CoreRun}
use Rattle.core_solo.specs.Solo.{enters, leaves}
use Rattle.core_solo.specs.Alone.{IsAtRest}
use Rattle.core_closing.specs.Kept.{MaySettle}
use Rattle.system_state.specs.Cores.{core_of}
use Rattle.system_state.specs.declared.state.State.{State}
use Rattle.desk_turns.specs.Passing.{core_seen}

-- all dies are at home
abbrev pub AreHome : Core → Type 0
AreHome c = (die : ℕ) → (c.dies die).out ≡ None

-- no lane has entered, no call is in flight, and all dies are at home
pub record IsUnentered (c : Core) : Type 0 where
  pub outside : (l : ℕ) → l < c.shape.lanes → (c.lanes l).stage ≡ Outside
  pub still : (l : ℕ) → c.calls l ≡ None
  pub home : AreHome c

-- it is at rest, and no lane has a mark
pub record MayAllLeave (c : Core) : Type 0 where
  pub rest : IsAtRest c
  pub unmarked : (l : ℕ) → l < c.shape.lanes → (c.lanes l).mark ≡ false

-- each lane has its mark and its number of ended calls as before
pub record KeepsLanes (c d : Core) : Type 0 where
  pub mark : (l : ℕ) → (d.lanes l).mark ≡ (c.lanes l).mark
  pub ended : (l : ℕ) → (d.lanes l).ended ≡ (c.lanes l).ended

module _ {D J : Type 0} (seen : D → DieView) where
  -- just these events were made, and they lead from the core as it was seen first to the one that is seen then
  pub record AreMade (o : Snapshot (State D J)) (v w : View (Snapshot (State D J)) Event) (these es : List Event) : Type 0 where
    pub are : es ≡ these
    pub run : CoreRun (core_seen (core_of seen) o v) es (core_seen (core_of seen) o w)

  -- all lanes entered, in their order, and the core that is seen then is at rest
  pub record HaveEntered (o : Snapshot (State D J)) (v w : View (Snapshot (State D J)) Event) (lanes : ℕ) (es : List Event) : Type 0 where
    pub made : AreMade o v w (enters lanes) es
    pub rest : IsAtRest (core_seen (core_of seen) o w)
    pub keeps : KeepsLanes (core_seen (core_of seen) o v) (core_seen (core_of seen) o w)

  -- All lanes left, in their order. The system is closing, with all dies at home, and the last sync may begin.
  pub record HaveLeft (o : Snapshot (State D J)) (v w : View (Snapshot (State D J)) Event) (lanes : ℕ) (es : List Event) : Type 0 where
    pub made : AreMade o v w (leaves lanes) es
    pub closing : IsClosing (core_seen (core_of seen) o w)
    pub home : AreHome (core_seen (core_of seen) o w)
    pub ready : (core_seen (core_of seen) o v).closer ≤ meta_pages (core_seen (core_of seen) o v).shape.blocks → MaySettle (core_seen (core_of seen) o w)

  -- some lanes made it, from 0 on, and not all
  abbrev pub AreSome : (ℕ → List Event) → Snapshot (State D J) → View (Snapshot (State D J)) Event → View (Snapshot (State D J)) Event → ℕ → List Event → Type 0
  AreSome these o v w lanes es = (count : ℕ) × (count < lanes) × AreMade o v w (these count) es

  -- what is answered when all lanes are to enter
  abbrev pub EnterSays : Snapshot (State D J) → View (Snapshot (State D J)) Event → View (Snapshot (State D J)) Event → ℕ → Result (Unit {0}) Worn → List Event → Type 0
  EnterSays o v w lanes (Ok x) es = HaveEntered o v w lanes es
  EnterSays o v w lanes (Err x) es = AreSome enters o v w lanes es

  -- and when all are to leave
  abbrev pub LeaveSays : Snapshot (State D J) → View (Snapshot (State D J)) Event → View (Snapshot (State D J)) Event → ℕ → Result (Unit {0}) Worn → List Event → Type 0
  LeaveSays o v w lanes (Ok x) es = HaveLeft o v w lanes es
  LeaveSays o v w lanes (Err x) es = AreSome leaves o v w lanes es
