-- What the End of a call does, and when it may happen. This project's own.
--
-- The call gets its number and reply. Where an exclusive call succeeds, extents and length move, and each page of its span goes in at the
-- call's side, also where its bytes stay the same: its block's version rises by one, it is unclean, and other copies go. Blocks allocated
-- outside the span stay blank. Else lent pages go back. Pages go in, or back, by rising file page, and go last in their orders. Lock and
-- frames are given up. Where the call's function ran, its e moves. With a mark the reply is `fault`, and nothing moves.
use Rattle.std.specs.Prelude.{◌≡◌, ◌==◌, ◌&&◌, ◌⊎◌, ℕ, ◌+◌, Bool, true, false, not, if◌then◌else◌, List, Option, Some, None}
use Rattle.std.specs.List.{filter}
use Rattle.page_base.specs.Drive.{meta_pages}
use Rattle.dispatcher.specs.declared.side.Side.{Side}
use Rattle.dispatcher.specs.declared.side.Side.TheVariants.{Host}
use Rattle.coherence.specs.Paired.{by_side}
use Rattle.plain_files.specs.declared.calls.Reply.{Reply}
use Rattle.plain_files.specs.declared.calls.Reply.TheVariants.{Fault}
use Rattle.plain_files.specs.declared.calls.Request.{Request}
use Rattle.plain_files.specs.Plain.{State, answer}
use Rattle.index_lists.specs.Words.{put}
use Rattle.core_state.specs.Words.{is_at, first_to, listed_to, without_all, all_last}
use Rattle.core_state.specs.State.{Page, Loan, Block, Names, Places, Claim, Frame, NoFrame, Reserved, OnLoan, Phase, Held, Queued, Running, Reported, Flight, Core}
use Rattle.core_state.specs.Contents.{span_block}
use Rattle.core_state.specs.Reach.{is_sync, is_exclusive, file_for}
use Rattle.core_state.specs.PlainOf.{plain, outcome_of, used_of, fuel_of, has_stored, bytes_by_id, page_at}
use Rattle.core_state.specs.Sides.{with_learnt}
use Rattle.core_state.specs.Resizing.{follows}
use Rattle.core_state.specs.PageEvents.{flight_at}
use Rattle.core_state.specs.LaneEvents.{replied, HasGathered}

-- ---- pages that go in

-- this page at the side is the block's only copy, and it is unclean, of a new version
abbrev pub installed : Side → Page → Block → Block
installed side page x =
    record x { host = by_side side (Some page) None; drive = by_side side None (Some page); clean = false; version = x.version + 1; lent = None }

abbrev pub installed_at : Side → (ℕ → Page) → Option ℕ → Block → Block
installed_at side page None x = x
installed_at side page (Some i) x = installed side (page i) x

-- the blocks of a span, where its i-th page has block `at i` and is now `page i`
abbrev pub with_span : Side → ℕ → (ℕ → Option ℕ) → (ℕ → Page) → (ℕ → Block) → ℕ → Block
with_span side n at page blocks b = installed_at side page (first_to n (λ i. is_at (at i) b)) (blocks b)

-- the order of a side where those blocks go in at a side: they go last there, and leave the other one
abbrev pub span_order : Bool → List ℕ → List ℕ → List ℕ
span_order here bs order = if here then all_last bs order else without_all bs order

abbrev pub spanned : Core → Side → ℕ → (ℕ → Option ℕ) → (ℕ → Page) → Core
spanned c side n at page =
    record c {
      blocks = with_span side n at page c.blocks;
      host_order = span_order (by_side side true false) (listed_to n at) c.host_order;
      drive_order = span_order (by_side side false true) (listed_to n at) c.drive_order;
      unclean = all_last (listed_to n at) c.unclean;
    }

-- ---- pages that go back

abbrev pub is_on_loan : Frame → Bool
is_on_loan NoFrame = false
is_on_loan Reserved = false
is_on_loan OnLoan = true

-- the block of a page of the span that is lent to the call
abbrev pub lent_at : Places → Flight → ℕ → Option ℕ
lent_at places call i = if is_on_loan (call.frame i) then span_block places call.claim i else None

-- a page that is lent to the lane goes back at the side
abbrev pub back_from : Side → ℕ → Option Loan → Block → Block
back_from side lane None x = x
back_from side lane (Some loan) x =
    if loan.lane == lane
    then record x { host = by_side side (Some loan.page) x.host; drive = by_side side x.drive (Some loan.page); lent = None }
    else x

abbrev pub back_order : Bool → List ℕ → List ℕ → List ℕ
back_order here bs order = if here then all_last bs order else order

abbrev pub returned_of : Core → ℕ → Side → List ℕ → Core
returned_of c lane side bs =
    record c {
      blocks = λ b. back_from side lane (c.blocks b).lent (c.blocks b);
      host_order = back_order (by_side side true false) bs c.host_order;
      drive_order = back_order (by_side side false true) bs c.drive_order;
      unclean = all_last (filter (λ b. not (c.blocks b).clean) bs) c.unclean;
    }

abbrev pub returned : Core → ℕ → Flight → Core
returned c lane call = returned_of c lane call.claim.side (listed_to call.claim.reach.pages (lent_at c.places call))

-- ---- the end

-- the lane's call is over; the names are these
abbrev pub landed : Core → ℕ → Names → Core
landed c lane names =
    record c {
      names = names;
      calls = put c.calls lane None;
      lanes = put c.lanes lane (replied (c.lanes lane));
      last = c.last + 1;
    }

-- the function of the call has learnt from its run
abbrev pub learnt_by : State → Claim → Names → Names
learnt_by s claim names =
    with_learnt claim.request.call (used_of (outcome_of s claim.request.call) (fuel_of claim.request.call)) claim.reach.pages names

-- an exclusive call that succeeded: of its file as Answer leaves it
abbrev pub stored_span : Core → Claim → State → Core
stored_span c claim s =
    let moved = follows c (file_for c.names.files claim.request.call) s in
    spanned moved claim.side claim.reach.pages (span_block moved.places claim) (λ i. page_at (bytes_by_id s claim.file) (claim.reach.first + i))

abbrev pub ended_storing : Core → ℕ → Flight → Core
ended_storing c lane call =
    let moved = stored_span c call.claim (answer (plain c) call.claim.request.call).state in
    landed moved lane (learnt_by (plain c) call.claim moved.names)

-- any other call without a mark
abbrev pub ended_plainly : Core → ℕ → Flight → Core
ended_plainly c lane call = landed (returned c lane call) lane (learnt_by (plain c) call.claim c.names)

-- a call with a mark
abbrev pub ended_by_fault : Core → ℕ → Flight → Core
ended_by_fault c lane call = landed (returned c lane call) lane c.names

-- whether an exclusive call has stored something
abbrev pub has_changed : Flight → Reply → Bool
has_changed call reply = is_exclusive call.claim.reach.mode && has_stored reply

abbrev pub ended_of : Core → ℕ → Flight → Reply → Core
ended_of c lane call reply =
    if (c.lanes lane).mark
    then ended_by_fault c lane call
    else (if has_changed call reply then ended_storing c lane call else ended_plainly c lane call)

abbrev pub ended : Core → ℕ → Reply → Core
ended c lane reply = ended_of c lane (flight_at c.calls lane) reply

abbrev pub is_reported : Phase → Bool
is_reported Held = false
is_reported Queued = false
is_reported (Running worker) = false
is_reported (Reported result) = true

-- held at the host, or reported
abbrev pub IsAtEnd : Flight → Type 0
IsAtEnd call = ((call.phase ≡ Held) × (call.claim.side ≡ Host)) ⊎ (is_reported call.phase ≡ true)

-- without a mark all is gathered, all meta pages of a `sync` are written, and the reply is Answer's
pub record EndsWell (c : Core) (call : Flight) (reply : Reply) : Type 0 where
  pub all : HasGathered call
  pub synced : is_sync call.claim.request.call ≡ true → call.meta ≡ meta_pages c.shape.blocks
  pub reply_is : reply ≡ (answer (plain c) call.claim.request.call).reply

pub record MayEnd (c : Core) (lane : ℕ) (request : Request) (reply : Reply) : Type 0 where
  pub call : Flight
  pub flies : c.calls lane ≡ Some call
  pub request_is : request ≡ call.claim.request
  pub at_end : IsAtEnd call
  pub marked : (c.lanes lane).mark ≡ true → reply ≡ Fault
  pub unmarked : (c.lanes lane).mark ≡ false → EndsWell c call reply
