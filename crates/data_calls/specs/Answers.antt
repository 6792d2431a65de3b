-- A data call without a function over a desk, from its request to its reply. This project's own.
use Rattle.std.specs.Prelude.{◌≡◌, ◌⊎◌, ℕ, Bool, true, false, if◌then◌else◌, List, [], ◌∷◌, ◌++◌, Some, Result, Ok, Err}
use Rattle.std.specs.declared.snapshot.Snapshot.{Snapshot}
use Rattle.turn_cell.specs.declared.view.View.{View}
use Rattle.turn_cell.specs.declared.pass.Worn.{Worn}
use Rattle.flash_die.specs.Dies.{DieView}
use Rattle.plain_files.specs.declared.calls.Numbered.{Numbered}
use Rattle.plain_files.specs.declared.calls.Reply.TheVariants.{Fault, NoMemory}
use Rattle.plain_files.specs.declared.calls.Request.{Request}
use Rattle.plain_files.specs.Plain.{answer}
use Rattle.core_state.specs.declared.actor.Actor.TheVariants.{Lane}
use Rattle.core_state.specs.declared.event.Event.{Event}
use Rattle.core_state.specs.declared.event.Event.TheVariants.{Skip}
use Rattle.core_state.specs.State.{Page, Core}
use Rattle.core_state.specs.PlainOf.{plain}
use Rattle.core_state.specs.Coherent.{Coherent}
use Rattle.core_state.specs.Happens.{May, CoreRun}
use Rattle.core_state.specs.History.{request_of, entry_of, calls_of}
use Rattle.core_solo.specs.Solo.{SoloCall}
use Rattle.system_state.specs.Cores.{core_of}
use Rattle.system_state.specs.declared.state.State.{State}
use Rattle.desk_turns.specs.Making.{AreOf}
use Rattle.desk_turns.specs.Passing.{core_seen, FoundAt}
use Rattle.call_starts.specs.Calls.{IsEndedBy}
use Rattle.call_starts.specs.Cut.{IsCutOff}
use Rattle.call_starts.specs.Flushing.{HasFailed}
use Rattle.call_starts.specs.Making.{IsFree}

-- In core c the event may end the lane's call for this request, with this reply: `fault` where a write or a read for the call has failed, and else the one of
-- the plain machine.
pub record Replies (failed : Bool) (lane : ℕ) (request : Request) (n : Numbered) (last : Event) (c : Core) : Type 0 where
  pub may : May c last
  pub asked : request_of last ≡ Some request
  pub entry_is : entry_of last ≡ Some (record { lane = lane; call = request.call; reply = n.reply })
  pub reply_is : n.reply ≡ (if failed then Fault else (answer (plain c) request.call).reply)

module _ {D J : Type 0} (seen : D → DieView) where
  -- The call has ended, and its lane is free. All events are the lane's, and the last one is the only one that ends a call. Where a write or a
  -- read for it has failed, the count of faults of a die has risen. Where the pass is alone the events are the whole call of the run of one
  -- thread.
  pub record HasReplied (o : Snapshot (State D J)) (v w : View (Snapshot (State D J)) Event) (lane : ℕ) (request : Request) (n : Numbered) (es : List Event) : Type 0 where
    pub before : List Event
    pub last : Event
    pub are : es ≡ before ++ last ∷ []
    pub of : AreOf (Lane lane) es
    pub open_still : calls_of before ≡ []
    pub failed : Bool
    pub fault : failed ≡ true → (die : ℕ) × HasFailed seen o v w die
    pub found : FoundAt (core_of seen) o v w last (Replies failed lane request n last)
    pub after : IsFree (core_seen (core_of seen) o w) lane
    pub coherent : Coherent (core_seen (core_of seen) o w)
    pub run : v.alone ≡ true → CoreRun (core_seen (core_of seen) o v) es (core_seen (core_of seen) o w)
    pub solo : v.alone ≡ true → (encode : Core → ℕ → Page) → SoloCall encode (core_seen (core_of seen) o v) lane request es

  -- At Worn the call hasn't ended: the events are the lane's, and none ends a call. Where the pass is alone they are those of the call in the
  -- run of one thread, cut short.
  pub record HasNotReplied (o : Snapshot (State D J)) (v : View (Snapshot (State D J)) Event) (lane : ℕ) (request : Request) (es : List Event) : Type 0 where
    pub of : AreOf (Lane lane) es
    pub open_still : calls_of es ≡ []
    pub cut : v.alone ≡ true → (encode : Core → ℕ → Page) → IsCutOff encode (core_seen (core_of seen) o v) lane request es

  -- what a call for which memory was found answers, and its events
  abbrev pub PreparedSays : Snapshot (State D J) → View (Snapshot (State D J)) Event → View (Snapshot (State D J)) Event → ℕ → Request → Result Numbered Worn → List Event → Type 0
  PreparedSays o v w lane request (Ok n) es = HasReplied o v w lane request n es
  PreparedSays o v w lane request (Err x) es = HasNotReplied o v lane request es

  -- what a data call answers, and its events: where memory ran out before it began, its one event is a Skip and its reply `nomemory`
  abbrev pub DataSays : Snapshot (State D J) → View (Snapshot (State D J)) Event → View (Snapshot (State D J)) Event → ℕ → Request → Result Numbered Worn → List Event → Type 0
  DataSays o v w lane request (Ok n) es = (IsEndedBy seen o v w lane (Skip lane request false) es × (n.reply ≡ NoMemory)) ⊎ HasReplied o v w lane request n es
  DataSays o v w lane request (Err x) es = HasNotReplied o v lane request es
