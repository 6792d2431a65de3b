-- Frames, orders and the queue: the conditions Frames and Orders. This project's own.
use Rattle.std.specs.Prelude.{◌≡◌, ◌≢◌, ℕ, ◌+◌, ◌<◌, ◌≤◌, Bool, true, false, if◌then◌else◌, List, length, Option, Some, None, is_some}
use Rattle.dispatcher.specs.declared.side.Side.{Side}
use Rattle.dispatcher.specs.declared.side.Side.TheVariants.{Host, Drive}
use Rattle.coherence.specs.Paired.{by_side}
use Rattle.core_state.specs.Words.{sum_to, Lists}
use Rattle.core_state.specs.State.{Shape, Block, Places, LaneState, Mode, Shared, Exclusive, Frame, NoFrame, Reserved, OnLoan, Phase, Held, Queued, Running, Reported, Flight}
use Rattle.core_state.specs.Contents.{copy_at, span_block, IsBlank, is_unclean}

-- ---- frames

-- a reserved frame and a lent page take one
abbrev pub weight : Frame → ℕ
weight NoFrame = 0
weight Reserved = 1
weight OnLoan = 1

abbrev pub is_side : Side → Side → Bool
is_side Host side = by_side side true false
is_side Drive side = by_side side false true

-- the frames that a lane's call takes at the side besides copies
abbrev pub frames_of : Side → Option Flight → ℕ
frames_of side None = 0
frames_of side (Some call) = if is_side side call.claim.side then sum_to call.claim.reach.pages (λ i. weight (call.frame i)) else 0

-- how many frames the side has
abbrev pub frames_at : Side → Shape → ℕ
frames_at side shape = by_side side shape.host_frames shape.drive_frames

-- used: the copies, which stand in the side's order, and the reserved frames and lent pages of the side's calls
abbrev pub used : Side → Shape → List ℕ → (ℕ → Option Flight) → ℕ
used side shape order calls = length order + sum_to shape.lanes (λ lane. frames_of side (calls lane))

-- What a call has for a page of its span: an exclusive one a copy at its side, a loan or a reserved frame, and a shared one a
-- reserved frame, unless the page is blank or has a copy there.
pub record HasFrame (mode : Mode) (side : Side) (x : Block) (frame : Frame) : Type 0 where
  pub exclusive : mode ≡ Exclusive → frame ≡ NoFrame → is_some (copy_at side x) ≡ true
  pub shared : mode ≡ Shared → frame ≢ Reserved → copy_at side x ≡ None → IsBlank x

-- a page without a block has neither copy nor loan
abbrev pub HasFrameFor : Mode → Side → (ℕ → Block) → Option ℕ → Frame → Type 0
HasFrameFor mode side blocks None frame = mode ≡ Exclusive → frame ≡ Reserved
HasFrameFor mode side blocks (Some b) frame = HasFrame mode side (blocks b) frame

pub record Frames (shape : Shape) (places : Places) (blocks : ℕ → Block) (hosts drives : List ℕ) (calls : ℕ → Option Flight) : Type 0 where
  pub host : used Host shape hosts calls ≤ shape.host_frames
  pub drive : used Drive shape drives calls ≤ shape.drive_frames
  pub each : (lane : ℕ) (call : Flight) → calls lane ≡ Some call → (i : ℕ) → i < call.claim.reach.pages →
      HasFrameFor call.claim.reach.mode call.claim.side blocks (span_block places call.claim i) (call.frame i)

-- ---- orders

-- each side lists the blocks with a copy there, and the unclean order the unclean blocks with a copy, each once
pub record AreOrdered (blocks : ℕ → Block) (hosts drives uncleans : List ℕ) : Type 0 where
  pub host : Lists hosts (λ b. is_some (blocks b).host)
  pub drive : Lists drives (λ b. is_some (blocks b).drive)
  pub unclean : Lists uncleans (λ b. is_unclean (blocks b))

abbrev pub in_queue : Phase → Bool
in_queue Held = false
in_queue Queued = true
in_queue (Running w) = false
in_queue (Reported result) = false

abbrev pub is_queued : Option Flight → Bool
is_queued None = false
is_queued (Some call) = in_queue call.phase

-- the queue lists the queued calls, each once; they have no mark and no gathered page, and a worker has at most one call
pub record AreQueued (queue : List ℕ) (lanes : ℕ → LaneState) (calls : ℕ → Option Flight) : Type 0 where
  pub lists : Lists queue (λ lane. is_queued (calls lane))
  pub unmarked : (lane : ℕ) (call : Flight) → calls lane ≡ Some call → call.phase ≡ Queued → (lanes lane).mark ≡ false
  pub empty : (lane : ℕ) (call : Flight) → calls lane ≡ Some call → call.phase ≡ Queued → (i : ℕ) → i < call.claim.reach.pages → call.gathered i ≡ None
  pub one_each : (l m w : ℕ) (a b : Flight) → calls l ≡ Some a → calls m ≡ Some b → a.phase ≡ Running w → b.phase ≡ Running w → l ≡ m

pub record Orders (blocks : ℕ → Block) (hosts drives uncleans queue : List ℕ) (lanes : ℕ → LaneState) (calls : ℕ → Option Flight) : Type 0 where
  pub ordered : AreOrdered blocks hosts drives uncleans
  pub queued : AreQueued queue lanes calls
