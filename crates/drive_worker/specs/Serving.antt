-- A worker of the drive serves calls of the queue, over a desk. This project's own.
use Rattle.std.specs.Prelude.{◌≡◌, ℕ, Bool, true, false, List, [], ◌∷◌, ◌++◌, Some, Result, Ok, Err}
use Rattle.std.specs.declared.snapshot.Snapshot.{Snapshot}
use Rattle.index_lists.specs.Words.{first}
use Rattle.turn_cell.specs.declared.view.View.{View}
use Rattle.turn_cell.specs.declared.pass.Worn.{Worn}
use Rattle.flash_die.specs.Dies.{DieView}
use Rattle.core_state.specs.declared.actor.Actor.TheVariants.{Worker}
use Rattle.core_state.specs.declared.event.Event.{Event}
use Rattle.core_state.specs.declared.event.Event.TheVariants.{Fetch, Report}
use Rattle.core_state.specs.State.{Page, Running, Core}
use Rattle.core_state.specs.Reach.{is_lambda}
use Rattle.core_state.specs.LaneEvents.{HasGathered, MayReport, result_of}
use Rattle.core_state.specs.Coherent.{Coherent}
use Rattle.core_state.specs.Happens.{HoldsNone, IsClosing, CoreRun}
use Rattle.core_state.specs.History.{calls_of}
use Rattle.core_solo.specs.Solo.{Steps, IsStep}
use Rattle.system_state.specs.Cores.{core_of}
use Rattle.system_state.specs.declared.not_yet.NotYet.{NotYet}
use Rattle.system_state.specs.declared.not_yet.NotYet.TheVariants.{QueueEmpty}
use Rattle.system_state.specs.declared.state.State.{State}
use Rattle.system_lanes.specs.Leaving.{have_left}
use Rattle.call_job.specs.declared.job.Job.{Job}
use Rattle.desk_turns.specs.Making.{AreOf}
use Rattle.desk_turns.specs.Passing.{core_seen, FoundAt}
use Rattle.fill_steps.specs.Cut.{IsCutOff}
use Rattle.fill_steps.specs.Flushing.{HasFailed}
use Rattle.fill_steps.specs.JobTurns.{IsUnbusy}
use Rattle.fill_steps.specs.Gathering.{call_at, IsGathering}
use Rattle.fill_steps.specs.Pages.{AreNext}
use Rattle.drive_worker.specs.declared.serve.Served.{Served}
use Rattle.drive_worker.specs.declared.serve.Served.TheVariants.{One, Empty}

-- no call is with the worker, and it holds no die
pub record IsFreeWorker (c : Core) (worker : ℕ) : Type 0 where
  pub unbusy : IsUnbusy c worker
  pub none : HoldsNone c (Worker worker)

-- The lane's call, which has a function, is with the worker, with no page gathered and no mark, and this is its job: the function hasn't
-- run. The worker holds no die.
pub record IsWith (c : Core) (worker lane : ℕ) (job : Job) : Type 0 where
  pub gathering : IsGathering c (Worker worker) lane 0 job
  pub runs : (call_at c lane).phase ≡ Running worker
  pub lambda : is_lambda (call_at c lane).claim.request.call ≡ true

-- it is the first call of the queue
abbrev pub IsFront : ℕ → Core → Type 0
IsFront lane c = first c.queue ≡ Some lane

-- the worker may report the lane's call in core c: with all its pages, or with a mark where a read for it has failed
pub record ReportsIn (failed : Bool) (worker lane : ℕ) (c : Core) : Type 0 where
  pub may : MayReport c worker lane
  pub mark : (c.lanes lane).mark ≡ failed

-- The lane's call is reported: with the result of its function on the plain files, or with none and a mark where a read for it has failed.
pub record IsReported (failed : Bool) (lane : ℕ) (c : Core) : Type 0 where
  pub flies : c.calls lane ≡ Some (call_at c lane)
  pub phase : (call_at c lane).phase ≡ result_of c lane
  pub mark : (c.lanes lane).mark ≡ failed
  pub all : failed ≡ false → HasGathered (call_at c lane)

module _ {D J : Type 0} (seen : D → DieView) where
  abbrev C : State D J → Core
  C = core_of seen

  -- The worker gathered the pages of the lane's call and reported it: each event but the last is one of a page, the lowest first. Where a
  -- read failed, the count of faults of a die has risen. The call is the same still, and the worker is free. Where the pass is alone the
  -- events are the call's next ones in the run of one thread.
  pub record HandedBack (o : Snapshot (State D J)) (v w : View (Snapshot (State D J)) Event) (worker lane : ℕ) (es : List Event) : Type 0 where
    pub pages : List Event
    pub are : es ≡ pages ++ Report worker lane ∷ []
    pub of : AreOf (Worker worker) es
    pub open_still : calls_of es ≡ []
    pub next : AreNext seen o v w (Worker worker) lane pages
    pub failed : Bool
    pub fault : failed ≡ true → (die : ℕ) × HasFailed seen o v w die
    pub report : FoundAt C o v w (Report worker lane) (ReportsIn failed worker lane)
    pub reported : IsReported failed lane (core_seen C o w)
    pub claim : (call_at (core_seen C o w) lane).claim ≡ (call_at (core_seen C o v) lane).claim
    pub after : IsFreeWorker (core_seen C o w) worker
    pub coherent : Coherent (core_seen C o w)
    pub run : v.alone ≡ true → CoreRun (core_seen C o v) es (core_seen C o w)
    pub solo : v.alone ≡ true → (encode : Core → ℕ → Page) → Steps (IsStep encode lane (call_at (core_seen C o v) lane).claim.request) (core_seen C o v) es

  -- The worker served the first call of the queue: it was fetched, its pages were gathered, the lowest first, and it was reported. Where a
  -- read failed, the count of faults of a die has risen. The worker is free. Where the pass is alone the call is the same still, and the
  -- events of worker 0 are its next ones in the run of one thread.
  pub record HasServed (o : Snapshot (State D J)) (v w : View (Snapshot (State D J)) Event) (worker lane : ℕ) (es : List Event) : Type 0 where
    pub pages : List Event
    pub are : es ≡ Fetch worker lane ∷ (pages ++ Report worker lane ∷ [])
    pub of : AreOf (Worker worker) es
    pub open_still : calls_of es ≡ []
    pub fetch : FoundAt C o v w (Fetch worker lane) (IsFront lane)
    pub next : AreNext seen o v w (Worker worker) lane pages
    pub failed : Bool
    pub fault : failed ≡ true → (die : ℕ) × HasFailed seen o v w die
    pub report : FoundAt C o v w (Report worker lane) (ReportsIn failed worker lane)
    pub reported : IsReported failed lane (core_seen C o w)
    pub after : IsFreeWorker (core_seen C o w) worker
    pub coherent : Coherent (core_seen C o w)
    pub run : v.alone ≡ true → CoreRun (core_seen C o v) es (core_seen C o w)
    pub claim : v.alone ≡ true → (call_at (core_seen C o w) lane).claim ≡ (call_at (core_seen C o v) lane).claim
    pub solo : v.alone ≡ true → worker ≡ 0 → (encode : Core → ℕ → Page) → Steps (IsStep encode lane (call_at (core_seen C o v) lane).claim.request) (core_seen C o v) es

  -- No event was made: the queue is empty in the core as it was last seen, and this is whether every lane has left.
  pub record FoundNone (o : Snapshot (State D J)) (v w : View (Snapshot (State D J)) Event) (worker : ℕ) (closing : Bool) (es : List Event) : Type 0 where
    pub are : es ≡ []
    pub empty : (core_seen C o w).queue ≡ []
    pub closes : closing ≡ have_left (core_seen C o w)
    pub after : IsFreeWorker (core_seen C o w) worker
    pub coherent : Coherent (core_seen C o w)
    pub run : v.alone ≡ true → CoreRun (core_seen C o v) es (core_seen C o w)

  -- the rest of a call that is with the worker; at Worn it has not ended, and where the pass is alone it was cut short
  abbrev pub BackSays : Snapshot (State D J) → View (Snapshot (State D J)) Event → View (Snapshot (State D J)) Event → ℕ → ℕ → Result (Unit {0}) Worn → List Event → Type 0
  BackSays o v w worker lane (Ok x) es = HandedBack o v w worker lane es
  BackSays o v w worker lane (Err x) es =
      AreOf (Worker worker) es × (calls_of es ≡ [])
      × (v.alone ≡ true → (encode : Core → ℕ → Page) → IsCutOff encode (core_seen C o v) lane (call_at (core_seen C o v) lane).claim.request es)

  -- What a worker's try to serve a call answers, and its events. At Worn they are the worker's, and end no call; where the pass is alone, and
  -- the worker is worker 0, the first call of the queue was cut short.
  abbrev pub ServeSays : Snapshot (State D J) → View (Snapshot (State D J)) Event → View (Snapshot (State D J)) Event → ℕ → Result Served Worn → List Event → Type 0
  ServeSays o v w worker (Ok (One lane)) es = HasServed o v w worker lane es
  ServeSays o v w worker (Ok (Empty closing)) es = FoundNone o v w worker closing es
  ServeSays o v w worker (Err x) es =
      AreOf (Worker worker) es × (calls_of es ≡ [])
      × (v.alone ≡ true → worker ≡ 0 → (lane : ℕ) → IsFront lane (core_seen C o v) → (encode : Core → ℕ → Page) → IsCutOff encode (core_seen C o v) lane (call_at (core_seen C o v) lane).claim.request es)

  -- The worker made these events, and they end no call. It is free, and P holds of the core as it was last seen.
  pub record HasWorked (o : Snapshot (State D J)) (w : View (Snapshot (State D J)) Event) (worker : ℕ) (P : Core → Type 0) (es : List Event) : Type 0 where
    pub of : AreOf (Worker worker) es
    pub open_still : calls_of es ≡ []
    pub after : IsFreeWorker (core_seen C o w) worker
    pub says : P (core_seen C o w)

  -- What a worker's work comes to, and its events: in the core as it was last seen the queue is empty, every lane has left, and no call is in
  -- flight. At Worn the events are the worker's, and end no call.
  abbrev pub LoopSays : Snapshot (State D J) → View (Snapshot (State D J)) Event → ℕ → Result (Unit {0}) Worn → List Event → Type 0
  LoopSays o w worker (Ok x) es = HasWorked o w worker (λ c. (c.queue ≡ []) × IsClosing c) es
  LoopSays o w worker (Err x) es = AreOf (Worker worker) es × (calls_of es ≡ [])

-- whether every lane has left, as a refused fetch tells it
abbrev pub closes : NotYet → Bool
closes (QueueEmpty closing) = closing
closes _ = false
