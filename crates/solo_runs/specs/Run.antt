-- The run of one thread by the only pass. This project's own.
use Rattle.std.specs.Prelude.{◌≡◌, ◌≤◌, ℕ, ◌+◌, ◌*◌, Bool, true, false, List, ◌++◌, length, None, Result, Ok, Err}
use Rattle.std.specs.declared.snapshot.Snapshot.{Snapshot}
use Rattle.turn_cell.specs.declared.view.View.{View}
use Rattle.turn_cell.specs.declared.pass.Worn.{Worn}
use Rattle.flash_die.specs.Dies.{DieView}
use Rattle.core_state.specs.declared.event.Event.{Event}
use Rattle.core_state.specs.State.{Core}
use Rattle.core_state.specs.Opening.{new_lane}
use Rattle.core_state.specs.Coherent.{Coherent}
use Rattle.core_state.specs.Happens.{CoreRun, after_all}
use Rattle.core_solo.specs.Solo.{Script, SoloLines, SoloEnd, enters, leaves}
use Rattle.core_solo.specs.Alone.{OpeningFrames}
use Rattle.core_solo.specs.Settling.{IsFresh, IsSettling}
use Rattle.core_solo.specs.Stored.{IsAllStored}
use Rattle.core_closing.specs.Kept.{MaySettle}
use Rattle.system_state.specs.Cores.{core_of}
use Rattle.system_state.specs.declared.state.State.{State}
use Rattle.system_metas.specs.Encode.{encode}
use Rattle.desk_turns.specs.Passing.{core_seen}
use Rattle.settling.specs.Steps.{EndsInFailure}
use Rattle.settling.specs.declared.last_sync.Settled.{Settled}
use Rattle.settling.specs.declared.last_sync.Settled.TheVariants.{NotAsked, Done, Failed}
use Rattle.solo_lanes.specs.Lanes.{AreHome}
use Rattle.solo_runs.specs.Lines.{IsOrdered}

-- A core in which the run of a script may begin: a drive that was just started, with as many lanes as the script has.
pub record MayRun (script : Script) (c : Core) : Type 0 where
  pub coherent : Coherent c
  pub frames : OpeningFrames c.shape
  pub wide : length script.lanes ≡ c.shape.lanes
  pub new : (l : ℕ) → c.lanes l ≡ new_lane
  pub fresh : IsFresh c
  pub closer : c.closer ≡ 0

-- the lines of a script are at most 10,000, in order
pub record IsRunnable (script : Script) : Type 0 where
  pub ordered : IsOrdered script
  pub few : length script.order ≤ 10000
  pub lanes : length script.lanes ≤ 32

module _ {D J : Type 0} (seen : D → DieView) where
  -- all lanes entered, the lines were answered, and all lanes left; the last sync may begin
  pub record HasRunScript (o : Snapshot (State D J)) (v w : View (Snapshot (State D J)) Event) (script : Script) (es : List Event) : Type 0 where
    pub lines : List Event
    pub parts : es ≡ enters (length script.lanes) ++ (lines ++ leaves (length script.lanes))
    pub calls : SoloLines encode (after_all (core_seen (core_of seen) o v) (enters (length script.lanes))) script script.order lines
    pub run : CoreRun (core_seen (core_of seen) o v) es (core_seen (core_of seen) o w)
    pub ready : MaySettle (core_seen (core_of seen) o w)
    pub home : AreHome (core_seen (core_of seen) o w)
    pub closer : (core_seen (core_of seen) o w).closer ≡ 0
    pub settling : IsSettling (core_seen (core_of seen) o w)
    pub coherent : Coherent (core_seen (core_of seen) o w)
    pub frames : OpeningFrames (core_seen (core_of seen) o w).shape

  abbrev pub ScriptSays : Snapshot (State D J) → View (Snapshot (State D J)) Event → View (Snapshot (State D J)) Event → Script → Result (Unit {0}) Worn → List Event → Type 0
  ScriptSays o v w script (Ok x) es = HasRunScript o v w script es
  ScriptSays o v w script (Err x) es = length es ≤ 4096 * length script.order + 2 * length script.lanes

  -- how the run ended, with a last sync where it was asked for: that is, what the last event is, and whether all is stored
  abbrev pub EndsAs : Snapshot (State D J) → View (Snapshot (State D J)) Event → Bool → Settled → Type 0
  EndsAs o w last NotAsked = (last ≡ false) × (EndsInFailure w.seen → ⊥)
  EndsAs o w last Done = (last ≡ true) × (EndsInFailure w.seen → ⊥) × IsAllStored encode (core_seen (core_of seen) o w)
  EndsAs o w last Failed = (last ≡ true) × EndsInFailure w.seen

  -- the whole run was made, however it ended; no call is in flight, and all dies are at home
  pub record HasRun (o : Snapshot (State D J)) (v w : View (Snapshot (State D J)) Event) (script : Script) (last : Bool) (settled : Settled) (es : List Event) : Type 0 where
    pub lines : List Event
    pub settling : List Event
    pub parts : es ≡ (enters (length script.lanes) ++ (lines ++ leaves (length script.lanes))) ++ settling
    pub calls : SoloLines encode (after_all (core_seen (core_of seen) o v) (enters (length script.lanes))) script script.order lines
    pub ending : SoloEnd encode last (after_all (core_seen (core_of seen) o v) (enters (length script.lanes) ++ (lines ++ leaves (length script.lanes)))) settling
    pub ends : EndsAs o w last settled
    pub idle : (lane : ℕ) → (core_seen (core_of seen) o w).calls lane ≡ None
    pub home : AreHome (core_seen (core_of seen) o w)

  abbrev pub RunSays : Snapshot (State D J) → View (Snapshot (State D J)) Event → View (Snapshot (State D J)) Event → Script → Bool → Result Settled Worn → List Event → Type 0
  RunSays o v w script last (Ok s) es = HasRun o v w script last s es
  RunSays o v w script last (Err x) es = length es ≤ 4096 * (length script.order + 1) + 2 * length script.lanes
