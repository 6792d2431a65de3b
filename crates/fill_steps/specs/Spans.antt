-- The pages of a call, gathered over a desk. This project's own.
use Rattle.std.specs.Prelude.{◌≡◌, ℕ, ◌+◌, ◌≤◌, Bool, true, false, List, [], length, Result, Ok, Err}
use Rattle.std.specs.declared.snapshot.Snapshot.{Snapshot}
use Rattle.turn_cell.specs.declared.view.View.{View}
use Rattle.turn_cell.specs.declared.pass.Worn.{Worn}
use Rattle.flash_die.specs.Dies.{DieView}
use Rattle.core_state.specs.declared.actor.Actor.{Actor}
use Rattle.core_state.specs.declared.event.Event.{Event}
use Rattle.core_state.specs.State.{Page, Core}
use Rattle.core_state.specs.Happens.{CoreRun}
use Rattle.core_state.specs.History.{calls_of}
use Rattle.core_solo.specs.Solo.{Steps, IsStep}
use Rattle.system_state.specs.Cores.{core_of}
use Rattle.system_state.specs.declared.state.State.{State}
use Rattle.system_pages.specs.Ways.{way}
use Rattle.system_pages.specs.declared.ways.Way.TheVariants.{Busy}
use Rattle.call_job.specs.declared.job.Job.{Job}
use Rattle.desk_turns.specs.Making.{AreOf}
use Rattle.desk_turns.specs.Passing.{core_seen}
use Rattle.event_turns.specs.Cut.{IsCutOff}
use Rattle.event_turns.specs.Flushing.{HasFailed}
use Rattle.fill_steps.specs.Gathering.{call_at, IsBetween, IsGathering, HasSpan, IsSameCall, IsInTurn}
use Rattle.fill_steps.specs.Pages.{AreNext, IsPutIn}
use Rattle.fill_steps.specs.declared.page.FillStep.{FillStep}
use Rattle.fill_steps.specs.declared.page.FillStep.TheVariants.{Next, Again, Failed, Waits}

-- but for its pages the job is as it was
abbrev pub IsSameButPages : Job → Job → Type 0
IsSameButPages old new = new ≡ record old { pages = new.pages }

module _ {D J : Type 0} (seen : D → DieView) where
  abbrev C : State D J → Core
  C = core_of seen

  -- The events are the actor's and end no call, each is the next one that gathers a page of the call, the call is the same, and P holds of the core as it was last seen. Where the pass is alone
  -- the events are the call's next ones in the run of one thread.
  pub record Gathers (o : Snapshot (State D J)) (v w : View (Snapshot (State D J)) Event) (actor : Actor) (lane : ℕ) (P : Core → Type 0) (es : List Event) : Type 0 where
    pub of : AreOf actor es
    pub open_still : calls_of es ≡ []
    pub next : AreNext seen o v w actor lane es
    pub call : IsSameCall (call_at (core_seen C o v) lane) (call_at (core_seen C o w) lane)
    pub says : P (core_seen C o w)
    pub run : v.alone ≡ true → CoreRun (core_seen C o v) es (core_seen C o w)
    pub solo : v.alone ≡ true → IsInTurn (call_at (core_seen C o v) lane) → (encode : Core → ℕ → Page) → Steps (IsStep encode lane (call_at (core_seen C o v) lane).claim.request) (core_seen C o v) es

  -- What a step at place i answers, and its events: the job has the page, if the call gathers it; it was put in at the call's side, and is
  -- to be tried again; a read failed, the die's count of faults rose, and the lane is marked; its die is out, and others are to go on first.
  -- At Worn at most one event was made.
  abbrev pub StepSays : Snapshot (State D J) → View (Snapshot (State D J)) Event → View (Snapshot (State D J)) Event → Actor → ℕ → ℕ → Job → Result FillStep Worn → List Event → Type 0
  StepSays o v w actor lane i job (Err x) es = AreOf actor es × (calls_of es ≡ []) × (length es ≤ 1)
  StepSays o v w actor lane i job (Ok Next) es = Gathers o v w actor lane (λ d. IsGathering d actor lane (i + 1) job) es
  StepSays o v w actor lane i job (Ok Again) es = Gathers o v w actor lane (λ d. IsGathering d actor lane i job) es × IsPutIn seen o v w lane i
  StepSays o v w actor lane i job (Ok Failed) es = Gathers o v w actor lane (λ d. IsBetween true d actor lane) es × ((die : ℕ) × HasFailed seen o v w die)
  StepSays o v w actor lane i job (Ok Waits) es = Gathers o v w actor lane (λ d. IsGathering d actor lane i job) es × (es ≡ []) × ((die : ℕ) × (way (core_seen C o w) lane i ≡ Busy die))

  -- What the whole answers, and its events: the job has all pages; or a read failed, the die's count of faults rose, and the lane is marked.
  -- At Worn the events are the actor's and end no call; where the pass is alone they are those of the call in the run of one thread, cut short.
  abbrev pub SpanSays : Snapshot (State D J) → View (Snapshot (State D J)) Event → View (Snapshot (State D J)) Event → Actor → ℕ → Job → Result Bool Worn → List Event → Type 0
  SpanSays o v w actor lane job (Err x) es =
      AreOf actor es × (calls_of es ≡ [])
      × (v.alone ≡ true → IsInTurn (call_at (core_seen C o v) lane) → (encode : Core → ℕ → Page) → IsCutOff encode (core_seen C o v) lane (call_at (core_seen C o v) lane).claim.request es)
  SpanSays o v w actor lane job (Ok true) es = Gathers o v w actor lane (λ d. HasSpan d actor lane job) es
  SpanSays o v w actor lane job (Ok false) es = Gathers o v w actor lane (λ d. IsBetween true d actor lane) es × ((die : ℕ) × HasFailed seen o v w die)
