-- What is known of a call while its pages are gathered. This project's own.
use Rattle.std.specs.Prelude.{◌≡◌, ◌≢◌, ◌⊎◌, ℕ, ◌<◌, ◌≤◌, Bool, true, false, Option, Some, None, is_some}
use Rattle.dispatcher.specs.declared.side.Side.TheVariants.{Host}
use Rattle.core_state.specs.declared.actor.Actor.{Actor}
use Rattle.core_state.specs.declared.event.Event.{Event}
use Rattle.core_state.specs.State.{Page, Held, Running, Flight, Core}
use Rattle.core_state.specs.Contents.{is_missing}
use Rattle.core_state.specs.Reach.{gathers}
use Rattle.core_state.specs.Dies.{owner}
use Rattle.core_state.specs.PageEvents.{flight_at, of_block}
use Rattle.core_state.specs.LaneEvents.{HasGathered}
use Rattle.core_state.specs.Happens.{HoldsNone}
use Rattle.core_solo.specs.Solo.{gathering}
use Rattle.system_state.specs.Jobs.{JobView, view_of}
use Rattle.call_job.specs.declared.job.Job.{Job}
use Rattle.call_job.specs.Suits.{Suits}
use Rattle.event_turns.specs.PageTurns.{block_at}

-- the call of a lane
abbrev pub call_at : Core → ℕ → Flight
call_at c lane = flight_at c.calls lane

-- what a job is told of it
abbrev pub told_at : Core → ℕ → JobView
told_at c lane = view_of c.names (call_at c lane)

-- the lane has a call, which the actor owns, and this mark
pub record IsOwned (marked : Bool) (c : Core) (actor : Actor) (lane : ℕ) : Type 0 where
  pub flies : c.calls lane ≡ Some (call_at c lane)
  pub owns : owner lane (call_at c lane).phase ≡ Some actor
  pub mark : (c.lanes lane).mark ≡ marked

-- and the actor holds no die
pub record IsBetween (marked : Bool) (c : Core) (actor : Actor) (lane : ℕ) : Type 0 where
  pub owned : IsOwned marked c actor lane
  pub none : HoldsNone c actor

-- before this place all pages that the call gathers are gathered, and from there on none is
pub record IsGatheredTo (call : Flight) (i : ℕ) : Type 0 where
  pub below : (j : ℕ) → j < i → j < call.claim.reach.pages → gathers call.claim.request.call call.claim.reach j ≡ true → is_some (call.gathered j) ≡ true
  pub above : (j : ℕ) → i ≤ j → j < call.claim.reach.pages → call.gathered j ≡ None

-- The actor gathers the pages of the lane's call into its job, whose function hasn't run, and has come to this place.
pub record IsGathering (c : Core) (actor : Actor) (lane i : ℕ) (job : Job) : Type 0 where
  pub between : IsBetween false c actor lane
  pub to : IsGatheredTo (call_at c lane) i
  pub suits : Suits job (told_at c lane)
  pub fresh : job.ran ≡ None

-- All pages that the call gathers are gathered, and its job has them.
pub record HasSpan (c : Core) (actor : Actor) (lane : ℕ) (job : Job) : Type 0 where
  pub between : IsBetween false c actor lane
  pub all : HasGathered (call_at c lane)
  pub suits : Suits job (told_at c lane)
  pub fresh : job.ran ≡ None

-- the call is still the same, and as far
pub record IsSameCall (f g : Flight) : Type 0 where
  pub claim : g.claim ≡ f.claim
  pub phase : g.phase ≡ f.phase

-- From one core to a later one the lane's call is the same, and so is what its job is told, but that at this place of its span it now has
-- x gathered.
pub record IsSameBut (c d : Core) (lane i : ℕ) (x : Option Page) : Type 0 where
  pub call : IsSameCall (call_at c lane) (call_at d lane)
  pub code : (told_at d lane).code ≡ (told_at c lane).code
  pub readable : (told_at d lane).readable ≡ (told_at c lane).readable
  pub page : (call_at d lane).gathered i ≡ x
  pub others : (j : ℕ) → j ≢ i → j < (call_at c lane).claim.reach.pages → (call_at d lane).gathered j ≡ (call_at c lane).gathered j

-- the page at a place of the call's span is written, and in neither cache
abbrev pub is_away : Core → ℕ → ℕ → Bool
is_away c lane i = of_block c.blocks (block_at c lane i) is_missing

-- the run of one thread gathers the call's pages at this phase: the call is held at the host, or is with a worker
abbrev pub IsInTurn : Flight → Type 0
IsInTurn f = ((f.phase ≡ Held) × (f.claim.side ≡ Host)) ⊎ ((worker : ℕ) × (f.phase ≡ Running worker))

-- in core c the event is the next one that gathers a page of the lane's call: the lowest that is still to be gathered
abbrev pub IsNextGather : Actor → ℕ → Event → Core → Type 0
IsNextGather actor lane e c = gathering c actor lane (call_at c lane) ≡ Some e
