-- The last sync over a desk. This project's own.
use Rattle.std.specs.Prelude.{◌≡◌, ◌≤◌, ℕ, true, List, length, Result, Ok, Err}
use Rattle.std.specs.declared.snapshot.Snapshot.{Snapshot}
use Rattle.turn_cell.specs.declared.view.View.{View}
use Rattle.turn_cell.specs.declared.pass.Worn.{Worn}
use Rattle.flash_die.specs.Dies.{DieView}
use Rattle.core_state.specs.declared.actor.Actor.TheVariants.{Closer}
use Rattle.core_state.specs.declared.event.Event.{Event}
use Rattle.core_state.specs.State.{Core}
use Rattle.core_state.specs.Coherent.{Coherent}
use Rattle.core_solo.specs.Solo.{IsStored, SyncEnds, SyncFails}
use Rattle.core_solo.specs.Alone.{OpeningFrames}
use Rattle.core_solo.specs.Settling.{IsSettling}
use Rattle.core_solo.specs.Stored.{IsAllStored}
use Rattle.core_closing.specs.Kept.{MaySettle, IsStoredSoFar}
use Rattle.system_state.specs.Cores.{core_of}
use Rattle.system_state.specs.declared.state.State.{State}
use Rattle.system_metas.specs.Encode.{encode}
use Rattle.desk_turns.specs.Making.{AreOf}
use Rattle.desk_turns.specs.Passing.{core_seen}
use Rattle.page_steps.specs.Flushing.{HasFailed}
use Rattle.settling.specs.Steps.{EndsInFailure, IsUnfailed}
use Rattle.settling.specs.declared.last_sync.Settled.{Settled}
use Rattle.settling.specs.declared.last_sync.Settled.TheVariants.{NotAsked, Done, Failed}

-- No more events were made than a whole last sync has, from a core with the frames of an opening in which the closer was alone.
abbrev pub IsShort : Core → List Event → Type 0
IsShort c es = OpeningFrames c.shape → Coherent c → IsSettling c → length es ≤ 4096

module _ {D J : Type 0} (seen : D → DieView) where
  -- All is stored, of the core as it was last seen. Where the pass is alone, its events are the last sync of the run of one thread, to its end.
  pub record HasSettled (o : Snapshot (State D J)) (v w : View (Snapshot (State D J)) Event) (es : List Event) : Type 0 where
    pub of : AreOf Closer es
    pub stored : IsStored (core_seen (core_of seen) o w)
    pub unfailed : IsUnfailed seen o w
    pub all : IsStoredSoFar encode (core_seen (core_of seen) o v) → IsAllStored encode (core_seen (core_of seen) o w)
    pub ready : MaySettle (core_seen (core_of seen) o w)
    pub solo : v.alone ≡ true → SyncEnds encode (core_seen (core_of seen) o v) es

  -- The last event of the history that was seen is a write of the closer that had failed: that die's count of faults rose. Where the pass is
  -- alone, its events are the last sync of the run of one thread, up to its failure.
  pub record HasNotSettled (o : Snapshot (State D J)) (v w : View (Snapshot (State D J)) Event) (es : List Event) : Type 0 where
    pub of : AreOf Closer es
    pub last : EndsInFailure w.seen
    pub failed : (die : ℕ) × HasFailed seen o v w die
    pub ready : MaySettle (core_seen (core_of seen) o w)
    pub solo : v.alone ≡ true → SyncFails encode (core_seen (core_of seen) o v) es

  -- what the last sync answers, and its events
  abbrev pub SettleSays : Snapshot (State D J) → View (Snapshot (State D J)) Event → View (Snapshot (State D J)) Event → Result Settled Worn → List Event → Type 0
  SettleSays o v w (Err x) es = AreOf Closer es × (v.alone ≡ true → IsShort (core_seen (core_of seen) o v) es)
  SettleSays o v w (Ok NotAsked) es = ⊥
  SettleSays o v w (Ok Done) es = HasSettled o v w es
  SettleSays o v w (Ok Failed) es = HasNotSettled o v w es
