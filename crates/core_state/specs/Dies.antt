-- Dies that are out, gathered pages and results: the conditions Dies and Gathered. This project's own.
use Rattle.std.specs.Prelude.{◌≡◌, ◌≢◌, ℕ, ◌<◌, ◌≤◌, true, false, length, Option, Some, None}
use Rattle.page_base.specs.Drive.{meta_pages}
use Rattle.plain_files.specs.declared.calls.Call.{Call}
use Rattle.plain_files.specs.Plain.{State}
use Rattle.core_state.specs.declared.actor.Actor.{Actor}
use Rattle.core_state.specs.declared.actor.Actor.TheVariants.{Lane, Worker, Flusher, Closer}
use Rattle.core_state.specs.State.{Page, Shape, Block, Places, LaneState, Inside, Phase, Held, Queued, Running, Reported, Flight, Errand, ToFill, ToFlush, ToMeta, Out, DieState}
use Rattle.core_state.specs.Contents.{content, page_of, span_block, IsAway, die_of, die_of_page}
use Rattle.core_state.specs.Reach.{is_sync}
use Rattle.core_state.specs.PlainOf.{outcome_of}

-- who acts for a lane's call: the lane while it is held or reported, the worker that runs it, and nobody in the queue
abbrev pub owner : ℕ → Phase → Option Actor
owner lane Held = Some (Lane lane)
owner lane Queued = None
owner lane (Running worker) = Some (Worker worker)
owner lane (Reported result) = Some (Lane lane)

-- a fill is for a page of the span of a call of its holder, not gathered, whose block is written, clean, and away
pub record IsFill (shape : Shape) (places : Places) (blocks : ℕ → Block) (calls : ℕ → Option Flight) (die : ℕ) (holder : Actor) (lane i : ℕ) : Type 0 where
  pub call : Flight
  pub flies : calls lane ≡ Some call
  pub owns : owner lane call.phase ≡ Some holder
  pub within : i < call.claim.reach.pages
  pub gathered : call.gathered i ≡ None
  pub b : ℕ
  pub block : span_block places call.claim i ≡ Some b
  pub on_die : die_of shape b ≡ die
  pub written : (blocks b).written ≡ true
  pub clean : (blocks b).clean ≡ true
  pub away : IsAway (blocks b)

-- a flush of a version of a block; where that is the block's version, the block is unclean and the page is its content
pub record IsFlush (x : Block) (version : ℕ) (page : Page) : Type 0 where
  pub whole : length page ≡ 4096
  pub older : version ≤ x.version
  pub same : version ≡ x.version → (x.clean ≡ false) × (page ≡ content x)
  pub newer : version ≢ x.version → x.clean ≡ true → x.written ≡ false

-- the call is a `sync`
pub record IsSyncing (call : Option Flight) : Type 0 where
  pub flight : Flight
  pub flies : call ≡ Some flight
  pub sync : is_sync flight.claim.request.call ≡ true

-- a lane that is idle, or in a `sync`
pub record IdleOrSync (lane : LaneState) (call : Option Flight) : Type 0 where
  pub inside : lane.stage ≡ Inside
  pub sync : call ≢ None → IsSyncing call

-- a lane that holds a die for a flush is idle or in a `sync`
abbrev pub MayFlush : (ℕ → LaneState) → (ℕ → Option Flight) → Actor → Type 0
MayFlush lanes calls (Lane l) = IdleOrSync (lanes l) (calls l)
MayFlush lanes calls (Worker w) = Unit {0}
MayFlush lanes calls (Flusher f) = Unit {0}
MayFlush lanes calls Closer = Unit {0}

-- the holder of a die for a page of the meta data is a lane in a `sync`, or the closer
abbrev pub MaySync : (ℕ → Option Flight) → Actor → Type 0
MaySync calls (Lane l) = IsSyncing (calls l)
MaySync calls (Worker w) = ⊥
MaySync calls (Flusher f) = ⊥
MaySync calls Closer = Unit {0}

abbrev pub IsErrand : Shape → Places → (ℕ → Block) → (ℕ → LaneState) → (ℕ → Option Flight) → ℕ → Actor → Errand → Type 0
IsErrand shape places blocks lanes calls die holder (ToFill lane i) = IsFill shape places blocks calls die holder lane i
IsErrand shape places blocks lanes calls die holder (ToFlush b version page) =
    (b < shape.blocks) × (die_of shape b ≡ die) × IsFlush (blocks b) version page × MayFlush lanes calls holder
IsErrand shape places blocks lanes calls die holder (ToMeta number bytes) =
    (number < meta_pages shape.blocks) × (die_of_page shape number ≡ die) × MaySync calls holder

pub record Dies (shape : Shape) (places : Places) (blocks : ℕ → Block) (lanes : ℕ → LaneState) (calls : ℕ → Option Flight) (dies : ℕ → DieState) : Type 0 where
  pub right : (die : ℕ) (out : Out) → (dies die).out ≡ Some out → IsErrand shape places blocks lanes calls die out.holder out.errand
  pub one_each : (d e : ℕ) (x y : Out) → (dies d).out ≡ Some x → (dies e).out ≡ Some y → x.holder ≡ y.holder → d ≡ e
  pub in_turn : (lane : ℕ) (call : Flight) → calls lane ≡ Some call → (lane < shape.lanes) × ((lanes lane).stage ≡ Inside)

-- ---- gathered pages and results

-- a gathered page is the content of its block, or zeros where there is no block
abbrev pub AreGathered : Places → (ℕ → Page) → (ℕ → Option Flight) → Type 0
AreGathered places pages calls =
    (lane : ℕ) (call : Flight) → calls lane ≡ Some call → (i : ℕ) (p : Page) → i < call.claim.reach.pages → call.gathered i ≡ Some p →
    p ≡ page_of pages (span_block places call.claim i)

-- a call that is reported, without a mark, has the result of its run
abbrev pub IsResult : State → Call → Phase → Type 0
IsResult plain call Held = Unit {0}
IsResult plain call Queued = Unit {0}
IsResult plain call (Running worker) = Unit {0}
IsResult plain call (Reported result) = result ≡ Some (outcome_of plain call)

pub record Gathered (places : Places) (pages : ℕ → Page) (plain : State) (lanes : ℕ → LaneState) (calls : ℕ → Option Flight) : Type 0 where
  pub pages_are : AreGathered places pages calls
  pub results : (lane : ℕ) (call : Flight) → calls lane ≡ Some call → (lanes lane).mark ≡ false → IsResult plain call.claim.request.call call.phase
