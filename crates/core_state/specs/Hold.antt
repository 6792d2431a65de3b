-- Hold: what an actor owns in a core, so that nobody else changes it. This project's own.
--
-- Every actor: the die that it holds, with purpose, pages and numbers.
-- A lane: its state and its number of ended calls. Where it has no call in flight, also its mark.
-- A lane with a call in flight, and the worker by which that call is running: of this call the lane, request, file, function's code, side,
--   locked range, whether it is held, and the span with its blocks and their contents. Where the call lengthens the file or is `trunc`,
--   also the file's length. For `read` and `readl` also the number of bytes that there are to read.
-- The owner of a call: the call's reserved frames, gathered pages, mark, result and meta number.
-- The closer: its meta number.
use Rattle.std.specs.Prelude.{ℕ, ◌-◌, ◌==◌, ◌||◌, nat_lt, min, Bool, true, false, if◌then◌else◌, List, Option, Some, None, is_some}
use Rattle.page_base.specs.Bytes.{zero_page}
use Rattle.sbpf_insn.specs.declared.insn.Insn.{Insn}
use Rattle.core_state.specs.declared.actor.Actor.{Actor}
use Rattle.core_state.specs.declared.actor.Actor.TheVariants.{Lane, Worker, Flusher, Closer}
use Rattle.core_state.specs.State.{Page, Shape, Function, Names, Places, LaneState, Stage, Claim, Frame, NoFrame, Phase, Held, Queued, Running, Reported, Flight, Errand, Out, DieState, Core}
use Rattle.core_state.specs.Contents.{contents, flashes, page_of, span_block, die_pages}
use Rattle.core_state.specs.Reach.{is_trunc, is_read, lengthens, file_for, len_or_none, function_for}
use Rattle.core_state.specs.Dies.{owner}

-- ---- who owns what

abbrev pub is_actor : Actor → Actor → Bool
is_actor (Lane a) (Lane b) = a == b
is_actor (Worker a) (Worker b) = a == b
is_actor (Flusher a) (Flusher b) = a == b
is_actor Closer Closer = true
is_actor _ _ = false

abbrev pub is_some_actor : Actor → Option Actor → Bool
is_some_actor a None = false
is_some_actor a (Some b) = is_actor a b

-- the actor acts for the lane's call
abbrev pub is_owner : Actor → ℕ → Phase → Bool
is_owner a lane phase = is_some_actor a (owner lane phase)

-- the actor is the call's lane, or the worker that runs it
abbrev pub sees : Actor → ℕ → Phase → Bool
sees a lane phase = is_actor a (Lane lane) || is_owner a lane phase

-- ---- a die

pub record HeldDie : Type 0 where
  pub errand : Errand
  pub pages : List Page
  pub fills : ℕ
  pub writes : ℕ
  pub failed : ℕ

-- a die with its pages, if the actor holds it
abbrev pub die_held : Actor → DieState → List Page → Option Out → Option HeldDie
die_held a die pages None = None
die_held a die pages (Some out) =
    if is_actor a out.holder
    then Some (record { errand = out.errand; pages = pages; fills = die.fills; writes = die.writes; failed = die.failed })
    else None

-- of the dies that there are
abbrev pub dies_held : Shape → (ℕ → Page) → (ℕ → Page) → (ℕ → DieState) → Actor → ℕ → Option HeldDie
dies_held shape meta flash dies a d =
    if nat_lt d shape.dies then die_held a (dies d) (die_pages shape meta flash d) (dies d).out else None

-- ---- a lane

pub record HeldLane : Type 0 where
  pub stage : Stage
  pub in_flight : Bool
  pub ended : ℕ
  pub mark : Option Bool

-- the mark belongs to the lane where it has no call in flight
abbrev pub lane_alone : LaneState → Option Flight → HeldLane
lane_alone l call =
    record { stage = l.stage; in_flight = is_some call; ended = l.ended; mark = if is_some call then None else Some l.mark }

abbrev pub lane_held : (ℕ → LaneState) → (ℕ → Option Flight) → Actor → Option HeldLane
lane_held lanes calls (Lane l) = Some (lane_alone (lanes l) (calls l))
lane_held lanes calls (Worker w) = None
lane_held lanes calls (Flusher f) = None
lane_held lanes calls Closer = None

-- ---- a call

-- claim has request, file, side, range and span
pub record SeenCall : Type 0 where
  pub claim : Claim
  pub code : Option (List Insn)
  pub held : Bool
  pub blocks : ℕ → Option ℕ
  pub contents : ℕ → Page
  pub len : Option ℕ
  pub readable : Option ℕ

abbrev pub is_held : Phase → Bool
is_held Held = true
is_held Queued = false
is_held (Running worker) = false
is_held (Reported result) = false

abbrev pub code_of : Option Function → Option (List Insn)
code_of None = None
code_of (Some f) = Some f.code

-- below n what f has, else the default
abbrev pub cut_to : {A : Type 0} → ℕ → A → (ℕ → A) → ℕ → A
cut_to n rest f i = if nat_lt i n then f i else rest

-- the length of the file, for a call that lengthens it, and for `trunc`
abbrev pub len_seen : Claim → ℕ → Option ℕ
len_seen claim len = if lengthens claim len || is_trunc claim.request.call then Some len else None

-- how many bytes a reading call has of a file of this length
abbrev pub readable_seen : Claim → ℕ → Option ℕ
readable_seen claim len = if is_read claim.request.call then Some (min claim.reach.end len - claim.reach.begin) else None

-- the length of the call's file
abbrev pub len_for : Names → Claim → ℕ
len_for names claim = len_or_none (file_for names.files claim.request.call)

abbrev pub seen_call : Names → Places → (ℕ → Page) → Flight → SeenCall
seen_call names places pages call =
    record {
      claim = call.claim;
      code = code_of (function_for names.functions call.claim.request.call);
      held = is_held call.phase;
      blocks = cut_to call.claim.reach.pages None (span_block places call.claim);
      contents = cut_to call.claim.reach.pages zero_page (λ i. page_of pages (span_block places call.claim i));
      len = len_seen call.claim (len_for names call.claim);
      readable = readable_seen call.claim (len_for names call.claim);
    }

abbrev pub call_seen : Names → Places → (ℕ → Page) → Actor → ℕ → Option Flight → Option SeenCall
call_seen names places pages a lane None = None
call_seen names places pages a lane (Some call) = if sees a lane call.phase then Some (seen_call names places pages call) else None

-- what the owner has besides; the phase has the result
pub record OwnedCall : Type 0 where
  pub frames : ℕ → Frame
  pub gathered : ℕ → Option Page
  pub mark : Bool
  pub phase : Phase
  pub meta : ℕ

abbrev pub owned_call : LaneState → Flight → OwnedCall
owned_call l call =
    record {
      frames = cut_to call.claim.reach.pages NoFrame call.frame;
      gathered = cut_to call.claim.reach.pages None call.gathered;
      mark = l.mark;
      phase = call.phase;
      meta = call.meta;
    }

abbrev pub call_owned : LaneState → Actor → ℕ → Option Flight → Option OwnedCall
call_owned l a lane None = None
call_owned l a lane (Some call) = if is_owner a lane call.phase then Some (owned_call l call) else None

-- ---- the closer

abbrev pub closer_held : Actor → ℕ → Option ℕ
closer_held (Lane l) number = None
closer_held (Worker w) number = None
closer_held (Flusher f) number = None
closer_held Closer number = Some number

-- ---- all of it

-- dies by their numbers, calls by their lanes
pub record Hold : Type 0 where
  pub dies : ℕ → Option HeldDie
  pub lane : Option HeldLane
  pub seen : ℕ → Option SeenCall
  pub owned : ℕ → Option OwnedCall
  pub closer : Option ℕ

abbrev pub hold : Core → Actor → Hold
hold c a =
    record {
      dies = dies_held c.shape c.meta (flashes c.blocks) c.dies a;
      lane = lane_held c.lanes c.calls a;
      seen = λ lane. call_seen c.names c.places (contents c.blocks) a lane (c.calls lane);
      owned = λ lane. call_owned (c.lanes lane) a lane (c.calls lane);
      closer = closer_held a c.closer;
    }
