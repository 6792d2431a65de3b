-- The lines of a script by the only pass, one after the other. This project's own.
use Rattle.std.specs.Prelude.{◌≡◌, ◌≤◌, ℕ, ◌*◌, false, List, [], ◌∷◌, ◌++◌, length, Result, Ok, Err}
use Rattle.std.specs.declared.snapshot.Snapshot.{Snapshot}
use Rattle.turn_cell.specs.declared.view.View.{View}
use Rattle.turn_cell.specs.declared.pass.Worn.{Worn}
use Rattle.flash_die.specs.Dies.{DieView}
use Rattle.plain_files.specs.History.{Entry}
use Rattle.script_words.specs.declared.script.Script.{Script as ScriptLines}
use Rattle.script_words.specs.Lanes.{requests}
use Rattle.core_state.specs.declared.event.Event.{Event}
use Rattle.core_state.specs.State.{Core}
use Rattle.core_state.specs.Coherent.{Coherent}
use Rattle.core_state.specs.Happens.{CoreRun}
use Rattle.core_solo.specs.Solo.{Script, SoloLine, SoloLines}
use Rattle.core_solo.specs.Alone.{OpeningFrames, IsAtRest}
use Rattle.core_solo.specs.Settling.{lines_of, AreInOrder}
use Rattle.core_solo.specs.Served.{IsScript}
use Rattle.system_state.specs.Cores.{core_of}
use Rattle.system_state.specs.declared.state.State.{State}
use Rattle.system_metas.specs.Encode.{encode}
use Rattle.desk_turns.specs.Passing.{core_seen}
use Rattle.lane_logs.specs.Logs.{replies_to}

-- the requests of each lane, and the order of the lines
abbrev pub script_of : ScriptLines → Script
script_of s = record { lanes = requests s; order = s.order }

-- each lane's requests stand in the lines once, in their order, and behind the calls that they await
pub record IsOrdered (script : Script) : Type 0 where
  pub whole : IsScript script
  pub waits : AreInOrder script

-- The core between two lines of a script: those before have been answered, no call is in flight, no die is out, and no lane has a mark.
pub record IsBetween (script : Script) (before : List (ℕ × ℕ)) (c : Core) : Type 0 where
  pub coherent : Coherent c
  pub frames : OpeningFrames c.shape
  pub wide : length script.lanes ≡ c.shape.lanes
  pub rest : IsAtRest c
  pub clear : (l : ℕ) → (c.lanes l).mark ≡ false
  pub ended : (l : ℕ) → (c.lanes l).ended ≡ lines_of l before

-- there is a call for each of the lines, of its lane
pub record AreCallsOf (last : ℕ) (before : List (ℕ × ℕ)) (calls : List Entry) : Type 0 where
  pub many : length calls ≡ length before
  pub each : (l : ℕ) → length (replies_to l last calls) ≡ lines_of l before

module _ {D J : Type 0} (seen : D → DieView) where
  -- a line was answered
  pub record HasMadeLine (o : Snapshot (State D J)) (v w : View (Snapshot (State D J)) Event) (script : Script) (before : List (ℕ × ℕ)) (line : ℕ × ℕ) (es : List Event) : Type 0 where
    pub answered : SoloLine encode (core_seen (core_of seen) o v) script line es
    pub run : CoreRun (core_seen (core_of seen) o v) es (core_seen (core_of seen) o w)
    pub between : IsBetween script (before ++ line ∷ []) (core_seen (core_of seen) o w)

  -- these lines were answered, one after the other
  pub record HaveMade (o : Snapshot (State D J)) (v w : View (Snapshot (State D J)) Event) (script : Script) (lines : List (ℕ × ℕ)) (es : List Event) : Type 0 where
    pub answered : SoloLines encode (core_seen (core_of seen) o v) script lines es
    pub run : CoreRun (core_seen (core_of seen) o v) es (core_seen (core_of seen) o w)
    pub between : IsBetween script lines (core_seen (core_of seen) o w)

  -- what is answered of one line, and of all; at `Worn` there are no more events than a run of one thread has
  abbrev pub OneSays : Snapshot (State D J) → View (Snapshot (State D J)) Event → View (Snapshot (State D J)) Event → Script → List (ℕ × ℕ) → ℕ × ℕ → Result (Unit {0}) Worn → List Event → Type 0
  OneSays o v w script before line (Ok x) es = HasMadeLine o v w script before line es
  OneSays o v w script before line (Err x) es = length es ≤ 4096

  abbrev pub LinesSay : Snapshot (State D J) → View (Snapshot (State D J)) Event → View (Snapshot (State D J)) Event → Script → Result (Unit {0}) Worn → List Event → Type 0
  LinesSay o v w script (Ok x) es = HaveMade o v w script script.order es
  LinesSay o v w script (Err x) es = length es ≤ 4096 * length script.order
