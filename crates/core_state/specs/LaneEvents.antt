-- What the events of lanes and workers do before a call's end, and when they may happen: Enter, Leave, Quick, Skip, Begin, Submit,
-- Fetch and Report. This project's own.
--
-- Enter, Leave  The lane begins, or ends with no call in flight.
-- Quick         A call that needs no page, or that is refused early, gets its number and reply.
-- Skip          A call that hasn't begun gets its number and `nomemory`, or `fault` after a failed die event of this lane since its last
--               reply.
-- Begin         The call gets its lock, side and frames.
-- Submit, Fetch, Report  A drive call goes into the queue, to a worker, and back with its result.
use Rattle.std.specs.Prelude.{◌≡◌, ◌⊎◌, ◌<◌, ◌≤◌, nat_lt, ℕ, ◌+◌, Bool, true, false, not, if◌then◌else◌, List, [], ◌∷◌, ◌++◌, Option, Some, None, is_some, IfSome}
use Rattle.dispatcher.specs.declared.side.Side.{Side}
use Rattle.dispatcher.specs.declared.side.Side.TheVariants.{Drive}
use Rattle.plain_files.specs.declared.calls.Call.{Call}
use Rattle.plain_files.specs.declared.calls.Call.TheVariants.{Create, OpenFile, Stat, Remove, Seal, Load, Unload}
use Rattle.plain_files.specs.declared.calls.Reply.{Reply}
use Rattle.plain_files.specs.declared.calls.Reply.TheVariants.{Done}
use Rattle.plain_files.specs.declared.calls.Request.{Request}
use Rattle.plain_files.specs.Plain.{early, answer}
use Rattle.index_lists.specs.Words.{put, without}
use Rattle.core_state.specs.State.{LaneState, Outside, Inside, Gone, Block, File, Places, Claim, Frame, NoFrame, Phase, Held, Queued, Running, Reported, Flight, Core}
use Rattle.core_state.specs.Contents.{span_block}
use Rattle.core_state.specs.Reach.{is_data, is_sync, file_for, claim_for, gathers, holds_file, uses_function}
use Rattle.core_state.specs.PlainOf.{plain, outcome_of}
use Rattle.core_state.specs.Sides.{side_for, frame_for}
use Rattle.core_state.specs.InFlight.{claims, Locked}
use Rattle.core_state.specs.Frames.{Frames}
use Rattle.core_state.specs.Resizing.{follows}
use Rattle.core_state.specs.PageEvents.{flight_at}

-- ---- lanes

-- a lane that has entered and not left, without a call
pub record IsIdle (c : Core) (lane : ℕ) : Type 0 where
  pub within : lane < c.shape.lanes
  pub inside : (c.lanes lane).stage ≡ Inside
  pub idle : c.calls lane ≡ None

-- the lane that the request waits for has ended so many calls
abbrev pub HasAwaited : (ℕ → LaneState) → Request → Type 0
HasAwaited lanes request = IfSome request.awaits (λ awaited. awaited.1 ≤ (lanes awaited.0).ended)

-- the lane may answer or begin its next call
pub record IsReady (c : Core) (lane : ℕ) (request : Request) : Type 0 where
  pub idle : IsIdle c lane
  pub unmarked : (c.lanes lane).mark ≡ false
  pub awaited : HasAwaited c.lanes request

-- one more call has ended, and there is no mark
abbrev pub replied : LaneState → LaneState
replied l = record l { ended = l.ended + 1; mark = false }

pub record MayEnter (c : Core) (lane : ℕ) : Type 0 where
  pub within : lane < c.shape.lanes
  pub outside : (c.lanes lane).stage ≡ Outside

abbrev pub entered : Core → ℕ → Core
entered c lane = record c { lanes = put c.lanes lane (record (c.lanes lane) { stage = Inside }) }

pub record MayLeave (c : Core) (lane : ℕ) : Type 0 where
  pub idle : IsIdle c lane
  pub unmarked : (c.lanes lane).mark ≡ false

abbrev pub left_by : Core → ℕ → Core
left_by c lane = record c { lanes = put c.lanes lane (record (c.lanes lane) { stage = Gone }) }

-- ---- Quick

-- a call that needs no page
abbrev pub is_quick : Call → Bool
is_quick (Create name) = true
is_quick (OpenFile name) = true
is_quick (Stat name) = true
is_quick (Remove name) = true
is_quick (Seal name) = true
is_quick (Load name bytes) = true
is_quick (Unload name) = true
is_quick _ = false

-- no call in flight holds the file
abbrev pub IsUnheld : (ℕ → Option Claim) → Option File → Type 0
IsUnheld held None = Unit {0}
IsUnheld held (Some f) = (lane : ℕ) (a : Claim) → held lane ≡ Some a → holds_file a f.id ≡ false

-- no call in flight uses the function
abbrev pub IsUnused : (ℕ → Option Claim) → List ℕ → Type 0
IsUnused held name = (lane : ℕ) (a : Claim) → held lane ≡ Some a → uses_function a name ≡ false

-- there is a file, and it isn't sealed
abbrev pub is_unsealed : Option File → Bool
is_unsealed None = false
is_unsealed (Some f) = not f.sealed

-- Nobody is in the way of a call that changes something: of a `remove` that succeeds, of a `seal` that changes the state, and of an
-- `unload` that succeeds. A refused call changes nothing.
abbrev pub IsClear : Core → Call → Reply → Type 0
IsClear c (Remove name) reply = reply ≡ Done → IsUnheld (claims c.calls) (file_for c.names.files (Remove name))
IsClear c (Seal name) reply = is_unsealed (file_for c.names.files (Seal name)) ≡ true → IsUnheld (claims c.calls) (file_for c.names.files (Seal name))
IsClear c (Unload name) reply = reply ≡ Done → IsUnused (claims c.calls) name
IsClear c _ reply = Unit {0}

-- the lane's call is answered; all else is as Answer says
abbrev pub quick : Core → ℕ → Call → Core
quick c lane call =
    record (follows c (file_for c.names.files call) (answer (plain c) call).state) {
      lanes = put c.lanes lane (replied (c.lanes lane));
      last = c.last + 1;
    }

pub record MayQuick (c : Core) (lane : ℕ) (request : Request) (reply : Reply) : Type 0 where
  pub ready : IsReady c lane request
  pub reply_is : reply ≡ (answer (plain c) request.call).reply
  pub kind : (is_quick request.call ≡ true) ⊎ (is_some (early (plain c) request.call) ≡ true)
  pub clear : IsClear c request.call reply

-- ---- Skip

abbrev pub skipped : Core → ℕ → Core
skipped c lane = record c { lanes = put c.lanes lane (replied (c.lanes lane)); last = c.last + 1 }

pub record MaySkip (c : Core) (lane : ℕ) (request : Request) (fault : Bool) : Type 0 where
  pub idle : IsIdle c lane
  pub awaited : HasAwaited c.lanes request
  pub marked : fault ≡ true → (c.lanes lane).mark ≡ true

-- ---- Begin

-- what the call reserves, for each page of its span
abbrev pub first_frame : (ℕ → Block) → Places → Claim → ℕ → Frame
first_frame blocks places claim i =
    if nat_lt i claim.reach.pages then frame_for claim.reach.mode claim.side blocks (span_block places claim i) else NoFrame

abbrev pub first_flight : (ℕ → Block) → Places → Claim → Flight
first_flight blocks places claim =
    record { claim = claim; frame = first_frame blocks places claim; gathered = λ i. None; phase = Held; meta = 0 }

abbrev pub begun : Core → ℕ → Request → Side → Core
begun c lane request side =
    record c { calls = put c.calls lane (Some (first_flight c.blocks c.places (claim_for c.names.files request side))) }

pub record MayBegin (c : Core) (lane : ℕ) (request : Request) (side : Side) : Type 0 where
  pub ready : IsReady c lane request
  pub kind : (is_data request.call ≡ true) ⊎ (is_sync request.call ≡ true)
  pub not_early : early (plain c) request.call ≡ None
  pub side_is : side ≡ side_for c.shape c.blocks c.places c.names.functions (claim_for c.names.files request side)
  pub locked : Locked c.names (claims (begun c lane request side).calls)
  pub frames : Frames c.shape c.places c.blocks c.host_order c.drive_order (begun c lane request side).calls

-- ---- Submit, Fetch, Report

abbrev pub in_phase : (ℕ → Option Flight) → ℕ → Phase → ℕ → Option Flight
in_phase calls lane phase = put calls lane (Some (record (flight_at calls lane) { phase = phase }))

pub record MaySubmit (c : Core) (lane : ℕ) : Type 0 where
  pub call : Flight
  pub flies : c.calls lane ≡ Some call
  pub held : call.phase ≡ Held
  pub drive : call.claim.side ≡ Drive
  pub unmarked : (c.lanes lane).mark ≡ false
  pub empty : (i : ℕ) → i < call.claim.reach.pages → call.gathered i ≡ None

abbrev pub submitted : Core → ℕ → Core
submitted c lane = record c { calls = in_phase c.calls lane Queued; queue = c.queue ++ lane ∷ [] }

pub record MayFetch (c : Core) (worker lane : ℕ) : Type 0 where
  pub rest : List ℕ
  pub first : c.queue ≡ lane ∷ rest
  pub free : (l : ℕ) (call : Flight) → c.calls l ≡ Some call → call.phase ≡ Running worker → ⊥

abbrev pub fetched : Core → ℕ → ℕ → Core
fetched c worker lane = record c { calls = in_phase c.calls lane (Running worker); queue = without lane c.queue }

-- the result of a run; a call with a mark is handed back without one
abbrev pub result_of : Core → ℕ → Phase
result_of c lane =
    Reported (if (c.lanes lane).mark then None else Some (outcome_of (plain c) (flight_at c.calls lane).claim.request.call))

-- each page that the call gathers is gathered
abbrev pub HasGathered : Flight → Type 0
HasGathered call =
    (i : ℕ) → i < call.claim.reach.pages → gathers call.claim.request.call call.claim.reach i ≡ true → is_some (call.gathered i) ≡ true

pub record MayReport (c : Core) (worker lane : ℕ) : Type 0 where
  pub call : Flight
  pub flies : c.calls lane ≡ Some call
  pub runs : call.phase ≡ Running worker
  pub all : (c.lanes lane).mark ≡ false → HasGathered call

abbrev pub reported : Core → ℕ → Core
reported c lane = record c { calls = in_phase c.calls lane (result_of c lane) }
