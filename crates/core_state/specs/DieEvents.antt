-- What the events of dies do, and when they may happen: DieOut, FillIn, FlushOut, FlushIn and MetaIn. This project's own.
--
-- DieOut    A die at home goes out to fill a page of a span that is written and in neither cache, or to write one page of the meta data.
-- FillIn    The die comes home. Where the read succeeded the page is put in at the call's side for a shared call, or is lent to an
--           exclusive one. Where it failed the call's lane is marked.
-- FlushOut  The first block of the unclean order whose die is at home: the die goes out with a copy of the page and the version.
-- FlushIn   The die comes home. Where the write succeeded and the version is unchanged, the block is written and clean; else nothing
--           but flash changed. A lane whose flush failed is marked.
-- MetaIn    The die comes home after the write of a meta page. One that succeeded adds one to the number written; a lane whose write
--           failed is marked.
use Rattle.std.specs.Prelude.{◌≡◌, ◌<◌, ◌==◌, ℕ, ◌+◌, Bool, true, false, ◌&&◌, ◌||◌, not, if◌then◌else◌, List, [], length, Option, Some, None, is_none}
use Rattle.std.specs.List.{find}
use Rattle.page_base.specs.Bytes.{zero_page}
use Rattle.page_base.specs.Drive.{meta_pages}
use Rattle.coherence.specs.Paired.{by_side}
use Rattle.index_lists.specs.Words.{put, one_if, without}
use Rattle.core_state.specs.declared.actor.Actor.{Actor}
use Rattle.core_state.specs.declared.actor.Actor.TheVariants.{Lane, Worker, Flusher, Closer}
use Rattle.core_state.specs.Words.{changed_at}
use Rattle.core_state.specs.State.{Page, Block, LaneState, NoFrame, OnLoan, Flight, Errand, ToFill, ToFlush, ToMeta, Out, DieState, Core}
use Rattle.core_state.specs.Contents.{with_copy, content, span_block, InNeitherCache, die_of, die_of_page}
use Rattle.core_state.specs.Reach.{by_mode}
use Rattle.core_state.specs.Dies.{IsSyncing, IdleOrSync}
use Rattle.core_state.specs.PageEvents.{flight_at, last_at, with_gathered, IsToGather}

-- ---- going out

abbrev pub sent : DieState → Actor → Errand → DieState
sent die actor errand = record die { out = Some (record { holder = actor; errand = errand }) }

abbrev pub die_out : Core → Actor → ℕ → Errand → Core
die_out c actor die errand = record c { dies = put c.dies die (sent (c.dies die) actor errand) }

abbrev pub is_home : DieState → Bool
is_home die = is_none die.out

pub record MayFill (c : Core) (actor : Actor) (die lane i : ℕ) : Type 0 where
  pub call : Flight
  pub wants : IsToGather c.calls c.lanes actor lane i call
  pub b : ℕ
  pub block : span_block c.places call.claim i ≡ Some b
  pub written : (c.blocks b).written ≡ true
  pub nowhere : InNeitherCache (c.blocks b)
  pub on_die : die_of c.shape b ≡ die
  pub home : (c.dies die).out ≡ None

-- the number of meta pages that a lane in a `sync`, or the closer, has written; others write none
abbrev pub meta_of : Option Flight → ℕ
meta_of None = 0
meta_of (Some call) = call.meta

abbrev pub MayWriteMeta : Core → Actor → ℕ → Type 0
MayWriteMeta c (Lane l) number = IsSyncing (c.calls l) × ((c.lanes l).mark ≡ false) × (meta_of (c.calls l) ≡ number)
MayWriteMeta c Closer number = c.closer ≡ number
MayWriteMeta c (Worker w) number = ⊥
MayWriteMeta c (Flusher f) number = ⊥

pub record MayMeta (c : Core) (actor : Actor) (die number : ℕ) (bytes : Page) : Type 0 where
  pub writes : MayWriteMeta c actor number
  pub below : number < meta_pages c.shape.blocks
  pub first : number ≡ 0 → c.unclean ≡ []
  pub on_die : die_of_page c.shape number ≡ die
  pub home : (c.dies die).out ≡ None
  pub whole : length bytes ≡ 4096

-- a flusher, a lane that is idle or in a `sync`, without a mark, or the closer
abbrev pub FlushesFor : Core → Actor → Type 0
FlushesFor c (Lane l) = IdleOrSync (c.lanes l) (c.calls l) × ((c.lanes l).mark ≡ false)
FlushesFor c (Worker w) = ⊥
FlushesFor c (Flusher f) = Unit {0}
FlushesFor c Closer = Unit {0}

-- its die is at home
abbrev pub is_flushable : Core → ℕ → Bool
is_flushable c b = is_home (c.dies (die_of c.shape b))

pub record MayFlushOut (c : Core) (actor : Actor) (die b : ℕ) : Type 0 where
  pub acts : FlushesFor c actor
  pub first : find (is_flushable c) c.unclean ≡ Some b
  pub on_die : die_of c.shape b ≡ die

abbrev pub flush_of : Core → ℕ → Errand
flush_of c b = ToFlush b (c.blocks b).version (content (c.blocks b))

-- ---- coming home

abbrev pub home_filled : DieState → Bool → DieState
home_filled die good = record die { out = None; fills = die.fills + 1; failed = die.failed + one_if (not good) }

abbrev pub home_written : DieState → Bool → DieState
home_written die good = record die { out = None; writes = die.writes + 1; failed = die.failed + one_if (not good) }

-- a failure marks the lane
abbrev pub marked_if : Bool → LaneState → LaneState
marked_if failed l = record l { mark = l.mark || failed }

-- the acting lane's, if a lane acts
abbrev pub marked_by : Actor → Bool → (ℕ → LaneState) → ℕ → LaneState
marked_by (Lane l) failed lanes = put lanes l (marked_if failed (lanes l))
marked_by (Worker w) failed lanes = lanes
marked_by (Flusher f) failed lanes = lanes
marked_by Closer failed lanes = lanes

-- the block's flash page is put in at the call's side, or lent
abbrev pub filled_block : Flight → ℕ → Block → Block
filled_block call lane x =
    by_mode call.claim.reach.mode
    (with_copy call.claim.side (Some x.flash) x)
    (record x { lent = Some (record { lane = lane; page = x.flash }) })

abbrev pub flash_at : (ℕ → Block) → Option ℕ → Page
flash_at blocks None = zero_page
flash_at blocks (Some b) = (blocks b).flash

-- a page that was put in gives up its frame; an exclusive call has gathered it
abbrev pub filled_flight : Flight → ℕ → Page → Flight
filled_flight call i page =
    by_mode call.claim.reach.mode (record call { frame = put call.frame i NoFrame }) (with_gathered call i page OnLoan)

abbrev pub filled_of : Core → ℕ → Bool → ℕ → ℕ → Flight → Option ℕ → Core
filled_of c die good lane i call at =
    let side = call.claim.side in
    let order = by_mode call.claim.reach.mode (last_at at) (λ (xs : List ℕ). xs) in
    record c {
      dies = put c.dies die (home_filled (c.dies die) good);
      lanes = put c.lanes lane (marked_if (not good) (c.lanes lane));
      calls = if good then put c.calls lane (Some (filled_flight call i (flash_at c.blocks at))) else c.calls;
      blocks = if good then changed_at c.blocks at (filled_block call lane) else c.blocks;
      host_order = if good then by_side side (order c.host_order) c.host_order else c.host_order;
      drive_order = if good then by_side side c.drive_order (order c.drive_order) else c.drive_order;
    }

abbrev pub filled_for : Core → ℕ → Bool → ℕ → ℕ → Core
filled_for c die good lane i =
    let call = flight_at c.calls lane in
    filled_of c die good lane i call (span_block c.places call.claim i)

abbrev pub filled_on : Core → ℕ → Bool → Errand → Core
filled_on c die good (ToFill lane i) = filled_for c die good lane i
filled_on c die good (ToFlush b version page) = c
filled_on c die good (ToMeta number bytes) = c

abbrev pub filled_by : Core → ℕ → Bool → Option Out → Core
filled_by c die good None = c
filled_by c die good (Some out) = filled_on c die good out.errand

-- the die comes home from the fill that it is out for
abbrev pub filled : Core → ℕ → Bool → Core
filled c die good = filled_by c die good (c.dies die).out

pub record MayFillIn (c : Core) (actor : Actor) (die : ℕ) : Type 0 where
  pub lane : ℕ
  pub i : ℕ
  pub out : (c.dies die).out ≡ Some (record { holder = actor; errand = ToFill lane i })

-- what a page of flash has after a write of a page, which left these bytes where it failed
abbrev pub written_page : Bool → Page → Page → Page
written_page good page left = if good then page else left

-- these bytes are told only of a write that failed, and then all of them
pub record IsLeft (good : Bool) (left : Page) : Type 0 where
  pub ok : good ≡ true → left ≡ []
  pub failed : good ≡ false → length left ≡ 4096

-- the block with this flash page; where that is the page as it is now, the block is written and clean
abbrev pub flushed_block : Page → Bool → Block → Block
flushed_block flash now x = record x { flash = flash; clean = x.clean || now; written = x.written || now }

-- `now` says that the write succeeded and the version is unchanged
abbrev pub flushed_of : Core → Actor → ℕ → Bool → Page → ℕ → Page → Bool → Core
flushed_of c actor die good left b page now =
    record c {
      dies = put c.dies die (home_written (c.dies die) good);
      lanes = marked_by actor (not good) c.lanes;
      blocks = put c.blocks b (flushed_block (written_page good page left) now (c.blocks b));
      unclean = if now then without b c.unclean else c.unclean;
    }

abbrev pub flushed_on : Core → Actor → ℕ → Bool → Page → Errand → Core
flushed_on c actor die good left (ToFlush b version page) =
    flushed_of c actor die good left b page (good && (version == (c.blocks b).version))
flushed_on c actor die good left (ToFill lane i) = c
flushed_on c actor die good left (ToMeta number bytes) = c

abbrev pub flushed_by : Core → Actor → ℕ → Bool → Page → Option Out → Core
flushed_by c actor die good left None = c
flushed_by c actor die good left (Some out) = flushed_on c actor die good left out.errand

-- the die comes home from the flush that it is out for
abbrev pub flushed : Core → Actor → ℕ → Bool → Page → Core
flushed c actor die good left = flushed_by c actor die good left (c.dies die).out

pub record MayFlushIn (c : Core) (actor : Actor) (die : ℕ) (good : Bool) (left : Page) : Type 0 where
  pub b : ℕ
  pub version : ℕ
  pub page : Page
  pub out : (c.dies die).out ≡ Some (record { holder = actor; errand = ToFlush b version page })
  pub left_is : IsLeft good left

-- one more meta page is written, by the call of the lane or by the closer
abbrev pub counted : Bool → Option Flight → Option Flight
counted good None = None
counted good (Some call) = Some (record call { meta = call.meta + one_if good })

abbrev pub counted_by : Actor → Bool → (ℕ → Option Flight) → ℕ → Option Flight
counted_by (Lane l) good calls = put calls l (counted good (calls l))
counted_by (Worker w) good calls = calls
counted_by (Flusher f) good calls = calls
counted_by Closer good calls = calls

abbrev pub closed_by : Actor → Bool → ℕ → ℕ
closed_by (Lane l) good number = number
closed_by (Worker w) good number = number
closed_by (Flusher f) good number = number
closed_by Closer good number = number + one_if good

abbrev pub stored_of : Core → Actor → ℕ → Bool → Page → ℕ → Page → Core
stored_of c actor die good left number bytes =
    record c {
      dies = put c.dies die (home_written (c.dies die) good);
      lanes = marked_by actor (not good) c.lanes;
      meta = put c.meta number (written_page good bytes left);
      calls = counted_by actor good c.calls;
      closer = closed_by actor good c.closer;
    }

abbrev pub stored_on : Core → Actor → ℕ → Bool → Page → Errand → Core
stored_on c actor die good left (ToMeta number bytes) = stored_of c actor die good left number bytes
stored_on c actor die good left (ToFill lane i) = c
stored_on c actor die good left (ToFlush b version page) = c

abbrev pub stored_by : Core → Actor → ℕ → Bool → Page → Option Out → Core
stored_by c actor die good left None = c
stored_by c actor die good left (Some out) = stored_on c actor die good left out.errand

-- the die comes home from the write of the meta page that it is out for
abbrev pub stored : Core → Actor → ℕ → Bool → Page → Core
stored c actor die good left = stored_by c actor die good left (c.dies die).out

pub record MayMetaIn (c : Core) (actor : Actor) (die : ℕ) (good : Bool) (left : Page) : Type 0 where
  pub number : ℕ
  pub bytes : Page
  pub out : (c.dies die).out ≡ Some (record { holder = actor; errand = ToMeta number bytes })
  pub left_is : IsLeft good left
