-- What the events on copies do, and when they may happen: Copy, Take, Evict and Demote. This project's own.
--
-- Copy    A page of the span of a shared call goes to the call. The copy at its side is read, else that of the other side, which is then
--         also put in at the call's side. A copy that is read or put in goes last in its side's order. A blank page gives zeros.
-- Take    A copy of a page of the span of an exclusive call moves to the call, and the other side's copy goes, in the same step. A blank
--         page, and one past the file's last, gives zeros and isn't lent.
-- Evict   The first copy in a side's order goes whose block is in no span in flight and is clean or has its other copy.
-- Demote  The first copy in the host's order goes to the drive's cache whose block is in no span in flight and has no drive copy.
--         The drive has a free frame.
-- A reserved frame is given up in the step in which the call's own page is put in or lent there.
use Rattle.std.specs.Prelude.{◌≡◌, ◌⊎◌, ◌<◌, ℕ, Bool, true, false, ◌&&◌, ◌||◌, not, if◌then◌else◌, List, Option, Some, None, is_some, unwrap_or}
use Rattle.std.specs.List.{find}
use Rattle.dispatcher.specs.declared.side.Side.{Side}
use Rattle.dispatcher.specs.declared.side.Side.TheVariants.{Host, Drive}
use Rattle.coherence.specs.Paired.{by_side, other}
use Rattle.plain_files.specs.declared.calls.Call.TheVariants.{Sync}
use Rattle.index_lists.specs.Words.{put, without, last}
use Rattle.core_state.specs.declared.actor.Actor.{Actor}
use Rattle.core_state.specs.Words.{changed_at, is_at, or_else, any_to}
use Rattle.core_state.specs.State.{Page, Shape, Block, Places, LaneState, Shared, Exclusive, Frame, NoFrame, OnLoan, Held, Flight, Core}
use Rattle.core_state.specs.Contents.{copy_at, with_copy, content, contents, page_of, span_block, has_copy, IsBlank}
use Rattle.core_state.specs.Reach.{no_reach, gathers}
use Rattle.core_state.specs.Frames.{used}
use Rattle.core_state.specs.Dies.{owner}

-- ---- words on calls and orders

-- stands where there is no call
abbrev pub no_flight : Flight
no_flight =
    record {
      claim = record { request = record { call = Sync; awaits = None }; file = 0; side = Host; reach = no_reach };
      frame = λ i. NoFrame;
      gathered = λ i. None;
      phase = Held;
      meta = 0;
    }

-- the call of a lane that has one
abbrev pub flight_at : (ℕ → Option Flight) → ℕ → Flight
flight_at calls lane = unwrap_or (calls lane) no_flight

-- a test on the block, if there is one
abbrev pub of_block : (ℕ → Block) → Option ℕ → (Block → Bool) → Bool
of_block blocks None test = false
of_block blocks (Some b) test = test (blocks b)

-- the block goes last in the order
abbrev pub last_at : Option ℕ → List ℕ → List ℕ
last_at None order = order
last_at (Some b) order = last b order

-- the block leaves the order
abbrev pub without_at : Option ℕ → List ℕ → List ℕ
without_at None order = order
without_at (Some b) order = without b order

-- the call with this page gathered at a place of its span, and this frame there
abbrev pub with_gathered : Flight → ℕ → Page → Frame → Flight
with_gathered call i page frame = record call { gathered = put call.gathered i (Some page); frame = put call.frame i frame }

-- ---- Copy

-- the side's copy is its own, or else that of the other side
abbrev pub read_block : Side → Block → Block
read_block side x = with_copy side (or_else (copy_at side x) (copy_at (other side) x)) x

-- only the other side has a copy
abbrev pub is_only_there : Side → Block → Bool
is_only_there side x = not (is_some (copy_at side x)) && is_some (copy_at (other side) x)

-- the page at a place of a call's span is read: of the call, the block there, whether it has a copy, and whether only the other side has one
abbrev pub copied_from : Core → ℕ → ℕ → Flight → Option ℕ → Bool → Bool → Core
copied_from c lane i call at had there =
    let side = call.claim.side in
    record c {
      calls = put c.calls lane (Some (with_gathered call i (page_of (contents c.blocks) at) (if there then NoFrame else call.frame i)));
      blocks = changed_at c.blocks at (read_block side);
      host_order = if by_side side had there then last_at at c.host_order else c.host_order;
      drive_order = if by_side side there had then last_at at c.drive_order else c.drive_order;
    }

abbrev pub copied_of : Core → ℕ → ℕ → Flight → Option ℕ → Core
copied_of c lane i call at = copied_from c lane i call at (of_block c.blocks at has_copy) (of_block c.blocks at (is_only_there call.claim.side))

abbrev pub copied : Core → ℕ → ℕ → Core
copied c lane i =
    let call = flight_at c.calls lane in
    copied_of c lane i call (span_block c.places call.claim i)

-- ---- Take

-- a copy is lent to the lane's call, and no side keeps one
abbrev pub lent_block : ℕ → Block → Block
lent_block lane x =
    record x { host = None; drive = None; lent = if has_copy x then Some (record { lane = lane; page = content x }) else x.lent }

-- the page at a place of a call's span is taken: of the call, the block there, and whether it has a copy
abbrev pub taken_from : Core → ℕ → ℕ → Flight → Option ℕ → Bool → Core
taken_from c lane i call at had =
    record c {
      calls = put c.calls lane (Some (with_gathered call i (page_of (contents c.blocks) at) (if had then OnLoan else call.frame i)));
      blocks = changed_at c.blocks at (lent_block lane);
      host_order = without_at at c.host_order;
      drive_order = without_at at c.drive_order;
      unclean = without_at at c.unclean;
    }

abbrev pub taken_of : Core → ℕ → ℕ → Flight → Option ℕ → Core
taken_of c lane i call at = taken_from c lane i call at (of_block c.blocks at has_copy)

abbrev pub taken : Core → ℕ → ℕ → Core
taken c lane i =
    let call = flight_at c.calls lane in
    taken_of c lane i call (span_block c.places call.claim i)

-- ---- when a page is gathered

-- the actor owns the lane's call, which gathers the page at this place and hasn't yet, and the lane has no mark
pub record IsToGather (calls : ℕ → Option Flight) (lanes : ℕ → LaneState) (actor : Actor) (lane i : ℕ) (call : Flight) : Type 0 where
  pub flies : calls lane ≡ Some call
  pub owns : owner lane call.phase ≡ Some actor
  pub unmarked : (lanes lane).mark ≡ false
  pub within : i < call.claim.reach.pages
  pub wanted : gathers call.claim.request.call call.claim.reach i ≡ true
  pub missing : call.gathered i ≡ None

-- the page's block has a copy, or is blank
abbrev pub HasPage : Block → Type 0
HasPage x = (has_copy x ≡ true) ⊎ IsBlank x

abbrev pub HasPageAt : (ℕ → Block) → Option ℕ → Type 0
HasPageAt blocks None = ⊥
HasPageAt blocks (Some b) = HasPage (blocks b)

-- or the page is past the file's last one
abbrev pub HasPageOrNone : (ℕ → Block) → Option ℕ → Type 0
HasPageOrNone blocks None = Unit {0}
HasPageOrNone blocks (Some b) = HasPage (blocks b)

pub record MayCopy (c : Core) (actor : Actor) (lane i : ℕ) : Type 0 where
  pub call : Flight
  pub wants : IsToGather c.calls c.lanes actor lane i call
  pub mode : call.claim.reach.mode ≡ Shared
  pub page : HasPageAt c.blocks (span_block c.places call.claim i)

pub record MayTake (c : Core) (actor : Actor) (lane i : ℕ) : Type 0 where
  pub call : Flight
  pub wants : IsToGather c.calls c.lanes actor lane i call
  pub mode : call.claim.reach.mode ≡ Exclusive
  pub page : HasPageOrNone c.blocks (span_block c.places call.claim i)

-- ---- Evict and Demote

-- the call has the block in its span
abbrev pub spans : Places → Option Flight → ℕ → Bool
spans places None b = false
spans places (Some call) b = any_to call.claim.reach.pages (λ i. is_at (span_block places call.claim i) b)

-- the block is in the span of a call in flight
abbrev pub in_span : Shape → Places → (ℕ → Option Flight) → ℕ → Bool
in_span shape places calls b = any_to shape.lanes (λ lane. spans places (calls lane) b)

-- its copy at the side can go
abbrev pub is_spare : Core → Side → ℕ → Bool
is_spare c side b =
    not (in_span c.shape c.places c.calls b) && ((c.blocks b).clean || is_some (copy_at (other side) (c.blocks b)))

-- its host copy can go to the drive
abbrev pub is_demotable : Core → ℕ → Bool
is_demotable c b = not (in_span c.shape c.places c.calls b) && not (is_some (c.blocks b).drive)

abbrev pub order_at : Side → Core → List ℕ
order_at side c = by_side side c.host_order c.drive_order

pub record MayEvict (c : Core) (side : Side) (b : ℕ) : Type 0 where
  pub first : find (is_spare c side) (order_at side c) ≡ Some b

pub record MayDemote (c : Core) (b : ℕ) : Type 0 where
  pub first : find (is_demotable c) c.host_order ≡ Some b
  pub room : used Drive c.shape c.drive_order c.calls < c.shape.drive_frames

abbrev pub evicted : Core → Side → ℕ → Core
evicted c side b =
    record c {
      blocks = put c.blocks b (with_copy side None (c.blocks b));
      host_order = by_side side (without b c.host_order) c.host_order;
      drive_order = by_side side c.drive_order (without b c.drive_order);
    }

abbrev pub demoted : Core → ℕ → Core
demoted c b =
    record c {
      blocks = put c.blocks b (record (c.blocks b) { host = None; drive = (c.blocks b).host });
      host_order = without b c.host_order;
      drive_order = last b c.drive_order;
    }
