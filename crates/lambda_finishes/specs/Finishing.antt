-- A call with a function, once it has begun, gathers its pages, runs and ends, over a desk. This project's own.
use Rattle.std.specs.Prelude.{◌≡◌, ◌⊎◌, ℕ, Bool, true, List, [], ◌∷◌, ◌++◌, Result, Ok, Err}
use Rattle.std.specs.declared.snapshot.Snapshot.{Snapshot}
use Rattle.turn_cell.specs.declared.view.View.{View}
use Rattle.turn_cell.specs.declared.pass.Worn.{Worn}
use Rattle.flash_die.specs.Dies.{DieView}
use Rattle.dispatcher.specs.declared.side.Side.{Side}
use Rattle.plain_files.specs.declared.calls.Numbered.{Numbered}
use Rattle.plain_files.specs.declared.calls.Request.{Request}
use Rattle.core_state.specs.declared.actor.Actor.TheVariants.{Lane, Worker}
use Rattle.core_state.specs.declared.event.Event.{Event}
use Rattle.core_state.specs.declared.event.Event.TheVariants.{End}
use Rattle.core_state.specs.State.{Page, Held, Core}
use Rattle.core_state.specs.Reach.{is_lambda}
use Rattle.core_state.specs.Coherent.{Coherent}
use Rattle.core_state.specs.Happens.{CoreRun, actor_of}
use Rattle.core_state.specs.History.{calls_of}
use Rattle.core_solo.specs.Solo.{SoloCall}
use Rattle.system_state.specs.Cores.{core_of}
use Rattle.system_state.specs.declared.state.State.{State}
use Rattle.desk_turns.specs.Passing.{core_seen, FoundAt}
use Rattle.call_job.specs.declared.job.Job.{Job}
use Rattle.call_finishes.specs.Making.{IsFree}
use Rattle.call_finishes.specs.Gathering.{call_at, IsGathering}
use Rattle.call_finishes.specs.Cut.{IsCutOff}
use Rattle.call_finishes.specs.Finishing.{EndsIn, SawFailure}

-- The lane's call is a `readl` or `writel` that is held at this side, with no page gathered and no mark, and this is its job, whose function
-- hasn't run. The lane holds no die.
pub record IsBegunAt (side : Side) (c : Core) (lane : ℕ) (job : Job) : Type 0 where
  pub gathering : IsGathering c (Lane lane) lane 0 job
  pub held : (call_at c lane).phase ≡ Held
  pub side_is : (call_at c lane).claim.side ≡ side
  pub runs : is_lambda (call_at c lane).claim.request.call ≡ true

-- each event is the lane's, or one of worker 0, which serves the call of the lane where the pass is alone
abbrev pub AreOfCall : ℕ → List Event → Type 0
AreOfCall lane [] = Unit {0}
AreOfCall lane (e ∷ es) = ((actor_of e ≡ Lane lane) ⊎ (actor_of e ≡ Worker 0)) × AreOfCall lane es

module _ {D J : Type 0} (seen : D → DieView) where
  abbrev C : State D J → Core
  C = core_of seen

  -- The call has ended, and its lane is free: the last event is its End, and the only one that ends a call. The reply is a fault only where a
  -- read or write of a die has failed since, and else the plain machine's in the core found. Where the pass is alone the events are the
  -- rest of the call in the run of one thread.
  pub record HasEnded (o : Snapshot (State D J)) (v w : View (Snapshot (State D J)) Event) (lane : ℕ) (request : Request) (n : Numbered) (es : List Event) : Type 0 where
    pub before : List Event
    pub are : es ≡ before ++ End lane request n.reply ∷ []
    pub open_still : calls_of before ≡ []
    pub failed : Bool
    pub rose : failed ≡ true → SawFailure v w
    pub found : FoundAt C o v w (End lane request n.reply) (EndsIn failed lane request n)
    pub after : IsFree (core_seen C o w) lane
    pub coherent : Coherent (core_seen C o w)
    pub run : v.alone ≡ true → CoreRun (core_seen C o v) es (core_seen C o w)
    pub solo : v.alone ≡ true → (encode : Core → ℕ → Page) → SoloCall encode (core_seen C o v) lane request es

  -- The pass made these events and the call has ended, or at Worn it hasn't; where the pass is alone it was cut short then.
  abbrev pub LambdaSays : (List Event → Type 0) → Snapshot (State D J) → View (Snapshot (State D J)) Event → View (Snapshot (State D J)) Event → ℕ → Request → Result Numbered Worn → List Event → Type 0
  LambdaSays AreMine o v w lane request (Ok n) es = AreMine es × HasEnded o v w lane request n es
  LambdaSays AreMine o v w lane request (Err x) es =
      AreMine es × (calls_of es ≡ []) × (v.alone ≡ true → (encode : Core → ℕ → Page) → IsCutOff encode (core_seen C o v) lane request es)
