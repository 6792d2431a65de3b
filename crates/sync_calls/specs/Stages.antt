-- One step of a `sync` over a desk. This project's own.
use Rattle.std.specs.Prelude.{◌≡◌, ◌≢◌, ◌⊎◌, ◌<◌, ◌≤◌, ℕ, Bool, true, false, List, [], length, Some, Result, Ok, Err}
use Rattle.std.specs.declared.snapshot.Snapshot.{Snapshot}
use Rattle.turn_cell.specs.declared.view.View.{View}
use Rattle.turn_cell.specs.declared.pass.Worn.{Worn}
use Rattle.page_base.specs.Drive.{meta_pages}
use Rattle.flash_die.specs.Dies.{DieView}
use Rattle.index_lists.specs.Words.{one_if}
use Rattle.plain_files.specs.declared.calls.Numbered.{Numbered}
use Rattle.plain_files.specs.declared.calls.Request.{Request}
use Rattle.core_state.specs.declared.actor.Actor.TheVariants.{Lane}
use Rattle.core_state.specs.declared.event.Event.{Event}
use Rattle.core_state.specs.declared.event.Event.TheVariants.{End}
use Rattle.core_state.specs.State.{Inside, Held, Flight, Core}
use Rattle.core_state.specs.Reach.{is_sync}
use Rattle.core_state.specs.Coherent.{Coherent}
use Rattle.core_state.specs.Happens.{HoldsNone, CoreRun}
use Rattle.core_state.specs.History.{calls_of, failures}
use Rattle.core_solo.specs.Solo.{Steps, IsStep, IsNext}
use Rattle.core_solo.specs.Alone.{IsAlone}
use Rattle.system_state.specs.Cores.{core_of}
use Rattle.system_state.specs.declared.not_yet.NotYet.{NotYet}
use Rattle.system_state.specs.declared.not_yet.NotYet.TheVariants.{DieBusy}
use Rattle.system_state.specs.declared.state.State.{State}
use Rattle.system_metas.specs.Encode.{encode}
use Rattle.desk_turns.specs.Making.{AreOf}
use Rattle.desk_turns.specs.Passing.{core_seen}
use Rattle.quick_calls.specs.Flushing.{HasFailed}
use Rattle.quick_calls.specs.Ending.{sync_reply}
use Rattle.quick_calls.specs.Making.{IsFree}
use Rattle.quick_calls.specs.Calls.{IsEndedBy}
use Rattle.sync_calls.specs.declared.stages.Stage.{Stage}
use Rattle.sync_calls.specs.declared.stages.Stage.TheVariants.{Idle, Flush, Store, Failed}
use Rattle.sync_calls.specs.declared.stages.SyncStep.{SyncStep}
use Rattle.sync_calls.specs.declared.stages.SyncStep.TheVariants.{On, Replied, Waits}

-- The lane's call is this `sync`, and is held, its lane has a mark or not, and it has written so many pages of the meta data.
pub record IsInSync (marked : Bool) (c : Core) (lane : ℕ) (request : Request) (number : ℕ) : Type 0 where
  pub sync : is_sync request.call ≡ true
  pub call : Flight
  pub flies : c.calls lane ≡ Some call
  pub held : call.phase ≡ Held
  pub request_is : request ≡ call.claim.request
  pub number_is : call.meta ≡ number
  pub mark : (c.lanes lane).mark ≡ marked
  pub within : lane < c.shape.lanes
  pub inside : (c.lanes lane).stage ≡ Inside

-- What holds at a stage of a `sync` that has to write `count` pages of the meta data: the lane holds no die and is free, or the call is so
-- far. Where the pass is alone, no block is unclean once pages are written.
abbrev pub AtStage : Bool → Core → ℕ → Request → ℕ → Stage → Type 0
AtStage alone c lane request count Idle = IsFree c lane
AtStage alone c lane request count Flush = HoldsNone c (Lane lane) × IsInSync false c lane request 0
AtStage alone c lane request count (Store number) =
    HoldsNone c (Lane lane) × IsInSync false c lane request number × (number ≤ count) × (alone ≡ true → c.unclean ≡ [])
AtStage alone c lane request count Failed = HoldsNone c (Lane lane) × ((number : ℕ) × IsInSync true c lane request number)

-- A `sync` may end with `fault`, where its lane has a mark, or with `done`, where all pages of the meta data are written. Its lane holds no die.
pub record IsAtEnd (alone : Bool) (c : Core) (lane : ℕ) (request : Request) (fault : Bool) : Type 0 where
  pub none : HoldsNone c (Lane lane)
  pub number : ℕ
  pub call : IsInSync fault c lane request number
  pub all : fault ≡ false → number ≡ meta_pages c.shape.blocks
  pub clean : alone ≡ true → fault ≡ false → c.unclean ≡ []

abbrev pub is_failed : Stage → Bool
is_failed Failed = true
is_failed _ = false

-- how many steps without an event may follow
abbrev pub quiet_left : Stage → ℕ
quiet_left Flush = 1
quiet_left _ = 0

-- events of the lane that end no call
abbrev pub AreSilent : ℕ → List Event → Type 0
AreSilent lane es = AreOf (Lane lane) es × (calls_of es ≡ [])

module _ {D J : Type 0} (seen : D → DieView) where
  -- The call, which had not failed, has gone on, by events of its lane that end none. A die event failed exactly where the next stage says
  -- so. Where the pass is alone they are the next steps of the run of one thread, and there are some, or fewer quiet steps may follow.
  pub record HasGoneOn (o : Snapshot (State D J)) (v w : View (Snapshot (State D J)) Event) (lane : ℕ) (request : Request) (count : ℕ) (stage next : Stage) (es : List Event) : Type 0 where
    pub of : AreOf (Lane lane) es
    pub silent : calls_of es ≡ []
    pub unfailed : is_failed stage ≡ false
    pub failures_are : failures es ≡ one_if (is_failed next)
    pub failed : is_failed next ≡ true → (die : ℕ) × HasFailed seen o v w die
    pub at : AtStage v.alone (core_seen (core_of seen) o w) lane request count next
    pub coherent : Coherent (core_seen (core_of seen) o w)
    pub steps : v.alone ≡ true → Steps (IsStep encode lane request) (core_seen (core_of seen) o v) es
    pub run : v.alone ≡ true → CoreRun (core_seen (core_of seen) o v) es (core_seen (core_of seen) o w)
    pub goes : v.alone ≡ true → (es ≢ []) ⊎ (quiet_left next < quiet_left stage)

  -- No event could be made. Where the pass is alone the call isn't.
  pub record HasWaited (o : Snapshot (State D J)) (v w : View (Snapshot (State D J)) Event) (lane : ℕ) (request : Request) (count : ℕ) (stage : Stage) (es : List Event) : Type 0 where
    pub are : es ≡ []
    pub at : AtStage v.alone (core_seen (core_of seen) o w) lane request count stage
    pub coherent : Coherent (core_seen (core_of seen) o w)
    pub same : v.alone ≡ true → core_seen (core_of seen) o w ≡ core_seen (core_of seen) o v
    pub never : v.alone ≡ true → IsAlone (core_seen (core_of seen) o v) lane request → ⊥

  -- the call has ended, with `fault` or with `done`
  pub record HasReplied (o : Snapshot (State D J)) (v w : View (Snapshot (State D J)) Event) (lane : ℕ) (request : Request) (fault : Bool) (n : Numbered) (es : List Event) : Type 0 where
    pub ended : IsEndedBy seen o v w lane (End lane request n.reply) es
    pub reply_is : n.reply ≡ sync_reply fault
    pub next : v.alone ≡ true → IsNext encode lane request (core_seen (core_of seen) o v) (End lane request n.reply)

  -- what the end of a call answers, and its events
  abbrev pub EndedSays : Snapshot (State D J) → View (Snapshot (State D J)) Event → View (Snapshot (State D J)) Event → ℕ → Request → Bool → Result Numbered Worn → List Event → Type 0
  EndedSays o v w lane request fault (Err x) es = es ≡ []
  EndedSays o v w lane request fault (Ok n) es = HasReplied o v w lane request fault n es

  -- what a step answers, and its events
  abbrev pub StepSays : Snapshot (State D J) → View (Snapshot (State D J)) Event → View (Snapshot (State D J)) Event → ℕ → Request → ℕ → Stage → Result SyncStep Worn → List Event → Type 0
  StepSays o v w lane request count stage (Err x) es = AreSilent lane es × (length es ≤ 1)
  StepSays o v w lane request count stage (Ok (On next)) es = HasGoneOn o v w lane request count stage next es
  StepSays o v w lane request count stage (Ok (Replied n)) es = HasReplied o v w lane request (is_failed stage) n es
  StepSays o v w lane request count stage (Ok Waits) es = HasWaited o v w lane request count stage es

-- the answer where a block came home, or a page of the meta data
abbrev pub flushed : Bool → SyncStep
flushed true = On Flush
flushed false = On Failed

-- where no block could go out: one waits, or none is unclean
abbrev pub refused : NotYet → SyncStep
refused (DieBusy die) = Waits
refused _ = On (Store 0)

abbrev pub stored : Bool → ℕ → SyncStep
stored true number = On (Store number)
stored false number = On Failed
