-- One page of a call, gathered over a desk. This project's own.
use Rattle.std.specs.Prelude.{◌≡◌, ℕ, ◌≤◌, Bool, true, false, List, [], ◌∷◌, length, Option, Some, None, Result, Ok, Err}
use Rattle.std.specs.declared.snapshot.Snapshot.{Snapshot}
use Rattle.turn_cell.specs.declared.view.View.{View}
use Rattle.turn_cell.specs.declared.pass.Worn.{Worn}
use Rattle.flash_die.specs.Dies.{DieView}
use Rattle.core_state.specs.declared.actor.Actor.{Actor}
use Rattle.core_state.specs.declared.event.Event.{Event}
use Rattle.core_state.specs.declared.event.Event.TheVariants.{FillIn}
use Rattle.core_state.specs.State.{Page, Mode, Exclusive, ToFill, Core}
use Rattle.core_state.specs.DieEvents.{flash_at}
use Rattle.core_state.specs.Happens.{CoreRun, is_homecoming}
use Rattle.core_state.specs.History.{calls_of}
use Rattle.core_solo.specs.Solo.{Steps, IsStep, page_to_gather}
use Rattle.system_state.specs.Cores.{core_of}
use Rattle.system_state.specs.Errands.{succeeded}
use Rattle.system_state.specs.declared.errand.Errand.{Errand}
use Rattle.system_state.specs.declared.state.State.{State}
use Rattle.system_pages.specs.Ways.{way}
use Rattle.system_pages.specs.declared.ways.Way.TheVariants.{Busy}
use Rattle.desk_turns.specs.Making.{AreOf}
use Rattle.desk_turns.specs.Passing.{core_seen, FoundAt}
use Rattle.event_turns.specs.Flushing.{HasFailed}
use Rattle.event_turns.specs.PageTurns.{MayGather, FillSays, block_at}
use Rattle.fill_steps.specs.Gathering.{call_at, IsBetween, IsSameBut, IsInTurn, IsNextGather, is_away}
use Rattle.fill_steps.specs.declared.page.FillStep.{FillStep}
use Rattle.fill_steps.specs.declared.page.FillStep.TheVariants.{Next, Again, Failed, Waits}

-- the page at this place is the lowest one that the lane's call has still to gather, and the actor may gather it
pub record IsAtPage (c : Core) (actor : Actor) (lane i : ℕ) (mode : Mode) : Type 0 where
  pub may : MayGather c actor lane i mode
  pub lowest : page_to_gather (call_at c lane) ≡ Some i

module _ {D : Type 0} where
  -- The die of a fill comes home, in core c: it was out with the actor for this page, and what was read is the page of flash of its block.
  pub record ComesHome (actor : Actor) (lane i : ℕ) (e : Errand D) (before page : Page) (c : Core) (es : List Event) : Type 0 where
    pub fill : FillSays actor lane e before page c es
    pub out : (c.dies e.number).out ≡ Some (record { holder = actor; errand = ToFill lane i })
    pub block : block_at c lane i ≡ Some e.subject
    pub read : succeeded e.outcome ≡ true → before ≡ (c.blocks e.subject).flash

-- The actor's die of this number read the page at place i, or failed to, and comes home, in core c; a page that is lent is `page`.
pub record IsRead (actor : Actor) (lane i n : ℕ) (page : Page) (good : Bool) (c : Core) (es : List Event) : Type 0 where
  pub are : es ≡ FillIn actor n good ∷ []
  pub out : (c.dies n).out ≡ Some (record { holder = actor; errand = ToFill lane i })
  pub lent : good ≡ true → (call_at c lane).claim.reach.mode ≡ Exclusive → page ≡ flash_at c.blocks (block_at c lane i)

module _ {D J : Type 0} (seen : D → DieView) where
  abbrev C : State D J → Core
  C = core_of seen

  -- From one view to a later one each of these events, unless it brings a die home, was the next one that gathers a page of the call, in the
  -- core in which it was made.
  abbrev pub AreNext : Snapshot (State D J) → View (Snapshot (State D J)) Event → View (Snapshot (State D J)) Event → Actor → ℕ → List Event → Type 0
  AreNext o v w actor lane [] = Unit {0}
  AreNext o v w actor lane (e ∷ es) = (is_homecoming e ≡ false → FoundAt C o v w e (IsNextGather actor lane e)) × AreNext o v w actor lane es

  -- The events are the actor's and end no call. In the core as it was last seen the actor has its call still and holds no die; the call is
  -- the same but that it has x gathered at place i. Where the pass is alone the events are the call's next ones in the run of one thread.
  pub record Tried (o : Snapshot (State D J)) (v w : View (Snapshot (State D J)) Event) (actor : Actor) (lane i : ℕ) (marked : Bool) (x : Option Page) (es : List Event) : Type 0 where
    pub of : AreOf actor es
    pub open_still : calls_of es ≡ []
    pub next : AreNext o v w actor lane es
    pub between : IsBetween marked (core_seen C o w) actor lane
    pub same : IsSameBut (core_seen C o v) (core_seen C o w) lane i x
    pub run : v.alone ≡ true → CoreRun (core_seen C o v) es (core_seen C o w)
    pub solo : v.alone ≡ true → IsInTurn (call_at (core_seen C o v) lane) → (encode : Core → ℕ → Page) → Steps (IsStep encode lane (call_at (core_seen C o v) lane).claim.request) (core_seen C o v) es

  -- the page was in neither cache, and was put in
  pub record IsPutIn (o : Snapshot (State D J)) (v w : View (Snapshot (State D J)) Event) (lane i : ℕ) : Type 0 where
    pub was : v.alone ≡ true → is_away (core_seen C o v) lane i ≡ true
    pub now : v.alone ≡ true → is_away (core_seen C o w) lane i ≡ false

  -- What a try to get the page at place i answers, and its events: the call has it, and it is `page`; it was put in at the call's side, and
  -- is still to be got; a read failed, the die's count of faults rose, and the lane is marked; its die is out. At Worn at most one event was
  -- made: a die may still be out.
  abbrev pub PageSays : Snapshot (State D J) → View (Snapshot (State D J)) Event → View (Snapshot (State D J)) Event → Actor → ℕ → ℕ → Page → Result FillStep Worn → List Event → Type 0
  PageSays o v w actor lane i page (Err x) es = AreOf actor es × (calls_of es ≡ []) × (length es ≤ 1)
  PageSays o v w actor lane i page (Ok Next) es = Tried o v w actor lane i false (Some page) es
  PageSays o v w actor lane i page (Ok Again) es = Tried o v w actor lane i false None es × IsPutIn o v w lane i
  PageSays o v w actor lane i page (Ok Failed) es = Tried o v w actor lane i true None es × ((die : ℕ) × HasFailed seen o v w die)
  PageSays o v w actor lane i page (Ok Waits) es = Tried o v w actor lane i false None es × (es ≡ []) × ((die : ℕ) × (way (core_seen C o w) lane i ≡ Busy die))

-- the answer where a die came home: of a page that is copied, and of one that is taken
abbrev pub put_in : Bool → FillStep
put_in true = Again
put_in false = Failed

abbrev pub lent : Bool → FillStep
lent true = Next
lent false = Failed
