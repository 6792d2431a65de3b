-- A data call without a function gathers its pages and ends, over a desk. This project's own.
use Rattle.std.specs.Prelude.{◌≡◌, ℕ, ◌<◌, Bool, true, false, if◌then◌else◌, List, [], ◌∷◌, ◌++◌, Result, Ok, Err}
use Rattle.std.specs.declared.snapshot.Snapshot.{Snapshot}
use Rattle.turn_cell.specs.declared.view.View.{View}
use Rattle.turn_cell.specs.declared.pass.Worn.{Worn}
use Rattle.turn_cell.specs.Events.{events_of}
use Rattle.flash_die.specs.Dies.{DieView}
use Rattle.dispatcher.specs.declared.side.Side.TheVariants.{Host}
use Rattle.plain_files.specs.declared.calls.Numbered.{Numbered}
use Rattle.plain_files.specs.declared.calls.Reply.TheVariants.{Fault}
use Rattle.plain_files.specs.declared.calls.Request.{Request}
use Rattle.plain_files.specs.Plain.{answer}
use Rattle.core_state.specs.declared.actor.Actor.TheVariants.{Lane}
use Rattle.core_state.specs.declared.event.Event.{Event}
use Rattle.core_state.specs.declared.event.Event.TheVariants.{End}
use Rattle.core_state.specs.State.{Page, Held, Core}
use Rattle.core_state.specs.Reach.{is_data, is_lambda}
use Rattle.core_state.specs.PlainOf.{plain}
use Rattle.core_state.specs.EndEvent.{MayEnd}
use Rattle.core_state.specs.Coherent.{Coherent}
use Rattle.core_state.specs.Happens.{CoreRun}
use Rattle.core_state.specs.History.{calls_of, failures}
use Rattle.core_solo.specs.Solo.{SoloCall}
use Rattle.system_state.specs.Cores.{core_of}
use Rattle.system_state.specs.declared.state.State.{State}
use Rattle.desk_turns.specs.Making.{AreOf}
use Rattle.desk_turns.specs.Passing.{core_seen, FoundAt}
use Rattle.job_turns.specs.Flushing.{HasFailed}
use Rattle.job_turns.specs.Making.{IsFree}
use Rattle.call_job.specs.declared.job.Job.{Job}
use Rattle.fill_steps.specs.Gathering.{call_at, IsGathering}
use Rattle.fill_steps.specs.Cut.{IsCutOff}

-- The lane's call is a `read`, `write`, `append` or `trunc` that is held at the host, with no page gathered and no mark, and this is its
-- job. The lane holds no die.
pub record IsBegun (c : Core) (lane : ℕ) (job : Job) : Type 0 where
  pub gathering : IsGathering c (Lane lane) lane 0 job
  pub held : (call_at c lane).phase ≡ Held
  pub host : (call_at c lane).claim.side ≡ Host
  pub is_on_file : is_data (call_at c lane).claim.request.call ≡ true
  pub runs_not : is_lambda (call_at c lane).claim.request.call ≡ false

-- The lane's call may end in core c: with a fault where a read for it has failed, so that the lane has a mark, and else with the reply of
-- the plain machine.
pub record EndsIn (failed : Bool) (lane : ℕ) (request : Request) (n : Numbered) (c : Core) : Type 0 where
  pub may : MayEnd c lane request n.reply
  pub mark : (c.lanes lane).mark ≡ failed
  pub reply_is : n.reply ≡ (if failed then Fault else (answer (plain c) request.call).reply)

-- from one view to a later one a read or write of a die has failed
abbrev pub SawFailure : {S : Type 0} → View (Snapshot S) Event → View (Snapshot S) Event → Type 0
SawFailure v w = failures (events_of v.seen) < failures (events_of w.seen)

module _ {D J : Type 0} (seen : D → DieView) where
  abbrev C : State D J → Core
  C = core_of seen

  -- The call has ended, and its lane is free: all events are the lane's, and the last one is the only one that ends a call. Where a read for
  -- it failed, the count of faults of a die has risen. Where the pass is alone the events are the rest of the call in the run of one thread.
  pub record IsFinished (o : Snapshot (State D J)) (v w : View (Snapshot (State D J)) Event) (lane : ℕ) (request : Request) (n : Numbered) (es : List Event) : Type 0 where
    pub before : List Event
    pub are : es ≡ before ++ End lane request n.reply ∷ []
    pub of : AreOf (Lane lane) es
    pub open_still : calls_of before ≡ []
    pub failed : Bool
    pub fault : failed ≡ true → (die : ℕ) × HasFailed seen o v w die
    pub rose : failed ≡ true → SawFailure v w
    pub found : FoundAt C o v w (End lane request n.reply) (EndsIn failed lane request n)
    pub after : IsFree (core_seen C o w) lane
    pub coherent : Coherent (core_seen C o w)
    pub run : v.alone ≡ true → CoreRun (core_seen C o v) es (core_seen C o w)
    pub solo : v.alone ≡ true → (encode : Core → ℕ → Page) → SoloCall encode (core_seen C o v) lane request es

  -- It has ended, or at Worn it hasn't; where the pass is alone it was cut short then.
  abbrev pub FinishSays : Snapshot (State D J) → View (Snapshot (State D J)) Event → View (Snapshot (State D J)) Event → ℕ → Request → Result Numbered Worn → List Event → Type 0
  FinishSays o v w lane request (Ok n) es = IsFinished o v w lane request n es
  FinishSays o v w lane request (Err x) es =
      AreOf (Lane lane) es × (calls_of es ≡ [])
      × (v.alone ≡ true → (encode : Core → ℕ → Page) → IsCutOff encode (core_seen C o v) lane request es)
