-- What a call of a lane comes to, and the work of a worker, over a desk of one pass among others. This project's own.
use Rattle.std.specs.Prelude.{◌≡◌, ℕ, List, [], ◌∷◌, Result, Ok, Err}
use Rattle.std.specs.declared.snapshot.Snapshot.{Snapshot}
use Rattle.turn_cell.specs.declared.view.View.{View}
use Rattle.turn_cell.specs.declared.pass.Worn.{Worn}
use Rattle.plain_files.specs.declared.calls.Numbered.{Numbered}
use Rattle.plain_files.specs.declared.calls.Reply.{Reply}
use Rattle.plain_files.specs.declared.calls.Request.{Request}
use Rattle.core_state.specs.declared.actor.Actor.TheVariants.{Lane, Worker}
use Rattle.core_state.specs.declared.event.Event.{Event}
use Rattle.core_state.specs.State.{Core}
use Rattle.core_state.specs.Happens.{HoldsNone}
use Rattle.core_state.specs.History.{calls_of}
use Rattle.desk_turns.specs.Making.{AreOf}
use Rattle.desk_turns.specs.Passing.{core_seen}
use Rattle.page_steps.specs.Making.{IsFree}
use Rattle.lane_history.specs.Lanes.{requests_in}

module _ {S : Type 0} (core : S → Core) where
  -- the lane ended this request with this reply, and no other, and can begin a call again
  pub record HasReplied (o : Snapshot S) (w : View (Snapshot S) Event) (lane : ℕ) (request : Request) (reply : Reply) (es : List Event) : Type 0 where
    pub of : AreOf (Lane lane) es
    pub asked : requests_in lane es ≡ request ∷ []
    pub calls : calls_of es ≡ record { lane = lane; call = request.call; reply = reply } ∷ []
    pub after : IsFree (core_seen core o w) lane

  -- what a call answers, and its events; where the turn is worn it hasn't ended
  abbrev pub CallSays : Snapshot S → View (Snapshot S) Event → ℕ → Request → Result Numbered Worn → List Event → Type 0
  CallSays o w lane request (Ok n) es = HasReplied o w lane request n.reply es
  CallSays o w lane request (Err x) es = AreOf (Lane lane) es × (requests_in lane es ≡ [])

  -- what a worker's work comes to, and its events
  abbrev pub WorkSays : Snapshot S → View (Snapshot S) Event → ℕ → Result (Unit {0}) Worn → List Event → Type 0
  WorkSays o w worker (Ok x) es = AreOf (Worker worker) es × HoldsNone (core_seen core o w) (Worker worker)
  WorkSays o w worker (Err x) es = AreOf (Worker worker) es
