-- A call with a function over a desk, from its request to its reply. This project's own.
use Rattle.std.specs.Prelude.{◌≡◌, ◌⊎◌, ℕ, Bool, true, false, List, [], ◌∷◌, ◌++◌, Result, Ok, Err}
use Rattle.std.specs.declared.snapshot.Snapshot.{Snapshot}
use Rattle.turn_cell.specs.declared.view.View.{View}
use Rattle.turn_cell.specs.declared.pass.Worn.{Worn}
use Rattle.flash_die.specs.Dies.{DieView}
use Rattle.plain_files.specs.declared.calls.Numbered.{Numbered}
use Rattle.plain_files.specs.declared.calls.Reply.TheVariants.{NoMemory}
use Rattle.plain_files.specs.declared.calls.Request.{Request}
use Rattle.core_state.specs.declared.event.Event.{Event}
use Rattle.core_state.specs.declared.event.Event.TheVariants.{Skip}
use Rattle.core_state.specs.State.{Page, Core}
use Rattle.core_state.specs.Coherent.{Coherent}
use Rattle.core_state.specs.Happens.{CoreRun}
use Rattle.core_state.specs.History.{calls_of}
use Rattle.core_solo.specs.Solo.{SoloCall}
use Rattle.system_state.specs.Cores.{core_of}
use Rattle.system_state.specs.declared.state.State.{State}
use Rattle.desk_turns.specs.Passing.{core_seen, FoundAt}
use Rattle.data_calls.specs.Calls.{IsEndedBy}
use Rattle.data_calls.specs.Cut.{IsCutOff}
use Rattle.data_calls.specs.Flushing.{HasFailed}
use Rattle.data_calls.specs.Making.{IsFree}
use Rattle.data_calls.specs.Answers.{Replies}
use Rattle.data_calls.specs.Ends.{SawFailure}

module _ {D J : Type 0} (seen : D → DieView) where
  -- from one view to a later one a die has failed: its count of faults has risen, or the history has the failure
  abbrev pub HasFaulted : Snapshot (State D J) → View (Snapshot (State D J)) Event → View (Snapshot (State D J)) Event → Type 0
  HasFaulted o v w = ((die : ℕ) × HasFailed seen o v w die) ⊎ SawFailure v w

  -- The call has ended, and its lane is free: the last event is the only one that ends a call. The reply is a fault only where a die has
  -- failed. Where the pass is alone the events are the whole call of the run of one thread.
  pub record HasReplied (o : Snapshot (State D J)) (v w : View (Snapshot (State D J)) Event) (lane : ℕ) (request : Request) (n : Numbered) (es : List Event) : Type 0 where
    pub before : List Event
    pub last : Event
    pub are : es ≡ before ++ last ∷ []
    pub open_still : calls_of before ≡ []
    pub failed : Bool
    pub fault : failed ≡ true → HasFaulted o v w
    pub found : FoundAt (core_of seen) o v w last (Replies failed lane request n last)
    pub after : IsFree (core_seen (core_of seen) o w) lane
    pub coherent : Coherent (core_seen (core_of seen) o w)
    pub run : v.alone ≡ true → CoreRun (core_seen (core_of seen) o v) es (core_seen (core_of seen) o w)
    pub solo : v.alone ≡ true → (encode : Core → ℕ → Page) → SoloCall encode (core_seen (core_of seen) o v) lane request es

  -- At Worn the call hasn't ended: none of the events ends a call, and where the pass is alone they are those of the call in the run of one
  -- thread, cut short.
  pub record HasNotReplied (o : Snapshot (State D J)) (v : View (Snapshot (State D J)) Event) (lane : ℕ) (request : Request) (es : List Event) : Type 0 where
    pub open_still : calls_of es ≡ []
    pub cut : v.alone ≡ true → (encode : Core → ℕ → Page) → IsCutOff encode (core_seen (core_of seen) o v) lane request es

  -- what a call for which memory was found answers; the events are of this kind
  abbrev pub PreparedSays : (List Event → Type 0) → Snapshot (State D J) → View (Snapshot (State D J)) Event → View (Snapshot (State D J)) Event → ℕ → Request → Result Numbered Worn → List Event → Type 0
  PreparedSays AreMine o v w lane request (Ok n) es = AreMine es × HasReplied o v w lane request n es
  PreparedSays AreMine o v w lane request (Err x) es = AreMine es × HasNotReplied o v lane request es

  -- what a call with a function answers: where memory ran out before it began, its one event is a Skip and its reply `nomemory`
  abbrev pub CallSays : (List Event → Type 0) → Snapshot (State D J) → View (Snapshot (State D J)) Event → View (Snapshot (State D J)) Event → ℕ → Request → Result Numbered Worn → List Event → Type 0
  CallSays AreMine o v w lane request (Ok n) es =
      AreMine es × ((IsEndedBy seen o v w lane (Skip lane request false) es × (n.reply ≡ NoMemory)) ⊎ HasReplied o v w lane request n es)
  CallSays AreMine o v w lane request (Err x) es = AreMine es × HasNotReplied o v lane request es
