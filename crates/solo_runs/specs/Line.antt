-- One line of a script by the only pass. This project's own.
use Rattle.std.specs.Prelude.{◌≡◌, ◌<◌, ◌≤◌, ℕ, false, List, [], ◌∷◌, length, Result, Ok, Err}
use Rattle.std.specs.declared.snapshot.Snapshot.{Snapshot}
use Rattle.turn_cell.specs.declared.view.View.{View}
use Rattle.turn_cell.specs.declared.pass.Worn.{Worn}
use Rattle.flash_die.specs.Dies.{DieView}
use Rattle.plain_files.specs.declared.calls.Numbered.{Numbered}
use Rattle.plain_files.specs.declared.calls.Request.{Request}
use Rattle.core_state.specs.declared.event.Event.{Event}
use Rattle.core_state.specs.State.{Core}
use Rattle.core_state.specs.Coherent.{Coherent}
use Rattle.core_state.specs.Happens.{CoreRun}
use Rattle.core_state.specs.History.{calls_of}
use Rattle.core_state.specs.LaneEvents.{HasAwaited}
use Rattle.core_solo.specs.Solo.{SoloAnswer}
use Rattle.core_solo.specs.Alone.{OpeningFrames, IsAtRest}
use Rattle.system_state.specs.Cores.{core_of}
use Rattle.system_state.specs.declared.state.State.{State}
use Rattle.system_metas.specs.Encode.{encode}
use Rattle.desk_turns.specs.Passing.{core_seen}

-- The lane's request may be answered next: no call is in flight and no die is out, the lane has no mark, and what the request awaits has ended.
pub record MayAnswer (c : Core) (lane : ℕ) (request : Request) : Type 0 where
  pub coherent : Coherent c
  pub frames : OpeningFrames c.shape
  pub rest : IsAtRest c
  pub within : lane < c.shape.lanes
  pub unmarked : (c.lanes lane).mark ≡ false
  pub awaited : HasAwaited c.lanes request

module _ {D J : Type 0} (seen : D → DieView) where
  -- It was answered so: the events are the answer in the run of one thread, they lead from the core as it was seen first to the one that is
  -- seen then, and the one call that they end is the lane's, with this reply.
  pub record HasAnswered (o : Snapshot (State D J)) (v w : View (Snapshot (State D J)) Event) (lane : ℕ) (request : Request) (n : Numbered) (es : List Event) : Type 0 where
    pub solo : SoloAnswer encode (core_seen (core_of seen) o v) lane request es
    pub run : CoreRun (core_seen (core_of seen) o v) es (core_seen (core_of seen) o w)
    pub one : calls_of es ≡ record { lane = lane; call = request.call; reply = n.reply } ∷ []

  -- what is answered; at `Worn` no more events were made than a whole call has
  abbrev pub LineSays : Snapshot (State D J) → View (Snapshot (State D J)) Event → View (Snapshot (State D J)) Event → ℕ → Request → Result Numbered Worn → List Event → Type 0
  LineSays o v w lane request (Ok n) es = HasAnswered o v w lane request n es
  LineSays o v w lane request (Err x) es = length es ≤ 4096
