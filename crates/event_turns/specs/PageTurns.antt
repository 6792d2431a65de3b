-- Pages gathered over a desk. This project's own.
use Rattle.std.specs.Prelude.{◌≡◌, ℕ, ◌+◌, Bool, true, false, List, [], ◌∷◌, Option, Some, None, is_some, IfSome, Result, Ok, Err}
use Rattle.std.specs.declared.snapshot.Snapshot.{Snapshot}
use Rattle.turn_cell.specs.declared.book.Entry.{Entry}
use Rattle.flash_die.specs.Dies.{DieView}
use Rattle.core_state.specs.declared.actor.Actor.{Actor}
use Rattle.core_state.specs.declared.event.Event.{Event}
use Rattle.core_state.specs.State.{Page, Mode, Exclusive, Flight, ToFill, Core}
use Rattle.core_state.specs.Contents.{contents, page_of, span_block}
use Rattle.core_state.specs.PageEvents.{flight_at, IsToGather}
use Rattle.core_state.specs.Happens.{HoldsNone}
use Rattle.system_state.specs.Cores.{core_of}
use Rattle.system_state.specs.Errands.{succeeded, HasRead}
use Rattle.system_state.specs.declared.errand.Errand.{Errand}
use Rattle.system_state.specs.declared.not_yet.NotYet.{NotYet}
use Rattle.system_state.specs.declared.not_yet.NotYet.TheVariants.{DieBusy}
use Rattle.system_state.specs.declared.state.State.{State}
use Rattle.system_pages.specs.Ways.{way}
use Rattle.system_pages.specs.declared.ways.Way.TheVariants.{Busy}
use Rattle.system_pages.specs.Events.{way_gone}
use Rattle.system_pages.specs.Back.{fill_in_event}
use Rattle.desk_turns.specs.Passing.{core_after}
use Rattle.flushes.specs.Flushing.{IsInHand}

-- The actor may gather the page at place i of the span of the lane's call, which has its pages in this mode: it owns the call and holds no
-- die, the lane has no mark, and the page is wanted and not there yet.
pub record MayGather (c : Core) (a : Actor) (lane i : ℕ) (mode : Mode) : Type 0 where
  pub none : HoldsNone c a
  pub call : Flight
  pub wants : IsToGather c.calls c.lanes a lane i call
  pub mode_is : call.claim.reach.mode ≡ mode

-- the block at place i of the span of the lane's call, if there is one
abbrev pub block_at : Core → ℕ → ℕ → Option ℕ
block_at c lane i = span_block c.places (flight_at c.calls lane).claim i

module _ {D : Type 0} where
  -- In core c the page was at hand, and this is it; or it must be read, and the die of its block goes out, with what was in the page before.
  pub record IsGot (c : Core) (lane i : ℕ) (before page : Page) (x : Option (Errand D)) : Type 0 where
    pub way_is : way c lane i ≡ way_gone x
    pub page_is : x ≡ None → page ≡ page_of (contents c.blocks) (block_at c lane i)
    pub kept : is_some x ≡ true → page ≡ before
    pub block : IfSome x (λ e. block_at c lane i ≡ Some e.subject)

  -- a turn to gather it, by the event that its answer is; or its die is out
  abbrev pub GatherSays : (Option (Errand D) → Event) → ℕ → ℕ → Page → Page → Result (Option (Errand D)) NotYet → Core → List Event → Type 0
  GatherSays event lane i before page (Ok x) c es = (es ≡ event x ∷ []) × IsGot c lane i before page x
  GatherSays event lane i before page (Err y) c es = (es ≡ []) × (page ≡ before) × ((die : ℕ) × (way c lane i ≡ Busy die) × (y ≡ DieBusy die))

  -- The die of a fill comes home. A page that was lent, or that wasn't read, is as it was handed in.
  pub record FillSays (actor : Actor) (lane : ℕ) (e : Errand D) (before page : Page) (c : Core) (es : List Event) : Type 0 where
    pub are : es ≡ fill_in_event actor e ∷ []
    pub failed : succeeded e.outcome ≡ false → page ≡ before
    pub lent : (flight_at c.calls lane).claim.reach.mode ≡ Exclusive → page ≡ before

module _ {D J : Type 0} (seen : D → DieView) where
  -- the errand has the die that went out with the actor to fill the page at place i of the span of the lane's call
  pub record IsFillInHand (o : Snapshot (State D J)) (h : List (Entry Event)) (a : Actor) (lane i : ℕ) (e : Errand D) : Type 0 where
    pub hand : IsInHand seen o h a (ToFill lane i) (o.value.sizes.meta + e.subject) e
    pub block : block_at (core_after (core_of seen) o h) lane i ≡ Some e.subject

  -- and was used to read into a page
  pub record IsFillRead (o : Snapshot (State D J)) (h : List (Entry Event)) (a : Actor) (lane i : ℕ) (good : Bool) (page : Page) (e : Errand D) : Type 0 where
    pub before : Page
    pub fill : IsFillInHand o h a lane i e
    pub read : HasRead seen e good before page
