-- A call that is in the drive's hands ends, once it is reported. This project's own.
use Rattle.std.specs.Prelude.{◌≡◌, ℕ, Bool, true, false, List, [], ◌∷◌, Option, Some, None, Result, Ok, Err}
use Rattle.std.specs.declared.snapshot.Snapshot.{Snapshot}
use Rattle.turn_cell.specs.declared.view.View.{View}
use Rattle.turn_cell.specs.declared.pass.Worn.{Worn}
use Rattle.turn_cell.specs.Events.{events_of}
use Rattle.flash_die.specs.Dies.{DieView}
use Rattle.plain_files.specs.declared.calls.Numbered.{Numbered}
use Rattle.plain_files.specs.declared.calls.Request.{Request}
use Rattle.core_state.specs.declared.actor.Actor.TheVariants.{Lane}
use Rattle.core_state.specs.declared.event.Event.{Event}
use Rattle.core_state.specs.declared.event.Event.TheVariants.{End}
use Rattle.core_state.specs.State.{Core}
use Rattle.core_state.specs.EndEvent.{is_reported}
use Rattle.core_state.specs.Coherent.{Coherent}
use Rattle.core_state.specs.Happens.{HoldsNone, CoreRun}
use Rattle.system_ends.specs.Landed.{IsAway}
use Rattle.system_state.specs.Cores.{core_of}
use Rattle.system_state.specs.declared.state.State.{State}
use Rattle.desk_turns.specs.Passing.{core_after, core_seen, FoundAt}
use Rattle.call_finishes.specs.Making.{IsFree}
use Rattle.call_finishes.specs.Gathering.{call_at}
use Rattle.call_finishes.specs.Finishing.{EndsIn}

-- The lane's call for this request is queued, running or reported, and the lane holds no die.
pub record IsOut (c : Core) (lane : ℕ) (request : Request) : Type 0 where
  pub away : IsAway c lane
  pub none : HoldsNone c (Lane lane)
  pub request_is : (call_at c lane).claim.request ≡ request

module _ {D J : Type 0} (seen : D → DieView) where
  abbrev C : State D J → Core
  C = core_of seen

  -- The call has ended by this one event, and its lane is free. The core in which it ended is one that the history before led to.
  pub record IsCollected (o : Snapshot (State D J)) (v w : View (Snapshot (State D J)) Event) (lane : ℕ) (request : Request) (n : Numbered) (es : List Event) : Type 0 where
    pub are : es ≡ End lane request n.reply ∷ []
    pub failed : Bool
    pub found : FoundAt C o v w (End lane request n.reply) (EndsIn failed lane request n)
    pub begins : CoreRun (C o.value) (events_of found.before) (core_after C o found.before)
    pub after : IsFree (core_seen C o w) lane
    pub coherent : Coherent (core_seen C o w)
    pub here : v.alone ≡ true → EndsIn failed lane request n (core_seen C o v)
    pub run : v.alone ≡ true → CoreRun (core_seen C o v) es (core_seen C o w)

  -- it has ended, or at Worn it hasn't
  abbrev pub CollectedSays : Snapshot (State D J) → View (Snapshot (State D J)) Event → View (Snapshot (State D J)) Event → ℕ → Request → Result Numbered Worn → List Event → Type 0
  CollectedSays o v w lane request (Ok n) es = IsCollected o v w lane request n es
  CollectedSays o v w lane request (Err x) es = es ≡ []

  -- once it was asked for: it has ended, or is queued or running
  abbrev pub AskedSays : Snapshot (State D J) → View (Snapshot (State D J)) Event → View (Snapshot (State D J)) Event → ℕ → Request → Result (Option Numbered) Worn → List Event → Type 0
  AskedSays o v w lane request (Ok (Some n)) es = IsCollected o v w lane request n es
  AskedSays o v w lane request (Ok None) es =
      (es ≡ []) × IsOut (core_seen C o w) lane request × (is_reported (call_at (core_seen C o w) lane).phase ≡ false)
      × (v.alone ≡ true → core_seen C o w ≡ core_seen C o v)
  AskedSays o v w lane request (Err x) es = es ≡ []
