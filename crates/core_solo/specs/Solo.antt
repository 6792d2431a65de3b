-- SoloRun: the run in which nobody acts but the call at hand. This project's own.
--
-- It has Enter of every lane, each call in line order, Leave of every lane, and, where it is asked for, the last sync by the closer.
-- A starved call makes its Skip with `nomemory` and nothing else. Any other call makes the first of these events that applies, until it
-- has its reply:
-- 1 idle and marked: Skip with `fault`;
-- 2 idle and Quick may happen: Quick;
-- 3 idle and frames are wanting at its side: the first possible event for room, a FlushOut being followed by its FlushIn;
-- 4 idle: Begin;
-- 5 held at the drive: Submit, then Fetch by worker 0;
-- 6 no mark and a page to gather: for the lowest such page DieOut and FillIn where it is written and in neither cache, else Copy or Take;
-- 7 no mark, in a `sync` or the last sync: FlushOut and FlushIn while the unclean order isn't empty, then DieOut and MetaIn for the meta
--   pages in order;
-- 8 running: Report; then End.
-- Any failure ends the last sync. Only the dies' answers are open.
--
-- All of it grows at its end: a beginning of a call is a list of steps, to which the next one is added.
use Rattle.std.specs.Prelude.{◌≡◌, ◌⊎◌, ℕ, ◌+◌, ◌-◌, nat_lt, Bool, true, false, ◌&&◌, ◌||◌, not, if◌then◌else◌, List, [], ◌∷◌, ◌++◌, map, slice_get, unwrap_or, Option, Some, None, is_some, is_none, option_map}
use Rattle.std.specs.List.{find, range_with_len}
use Rattle.page_base.specs.Drive.{meta_pages}
use Rattle.dispatcher.specs.declared.side.Side.{Side}
use Rattle.dispatcher.specs.declared.side.Side.TheVariants.{Host, Drive}
use Rattle.coherence.specs.Paired.{by_side}
use Rattle.plain_files.specs.declared.calls.Reply.TheVariants.{Fault}
use Rattle.plain_files.specs.declared.calls.Request.{Request}
use Rattle.plain_files.specs.Plain.{early, answer}
use Rattle.core_state.specs.declared.actor.Actor.{Actor}
use Rattle.core_state.specs.declared.actor.Actor.TheVariants.{Lane, Worker, Closer}
use Rattle.core_state.specs.declared.event.Event.{Event}
use Rattle.core_state.specs.declared.event.Event.TheVariants.{Enter, Leave, Quick, Skip, Begin, Copy, Take, DieOut, Submit, Fetch, Report, End, Evict, Demote, FlushOut}
use Rattle.core_state.specs.declared.event.Purpose.TheVariants.{Fill, Meta}
use Rattle.core_state.specs.Words.{or_else, first_to, sum_to}
use Rattle.core_state.specs.State.{Page, Claim, Phase, Held, Queued, Running, Reported, Flight, Core}
use Rattle.core_state.specs.Contents.{span_block, is_missing, die_of, die_of_page}
use Rattle.core_state.specs.Reach.{by_mode, is_sync, gathers, claim_for}
use Rattle.core_state.specs.PlainOf.{plain}
use Rattle.core_state.specs.Sides.{side_for}
use Rattle.core_state.specs.Frames.{weight, frames_at, used}
use Rattle.core_state.specs.PageEvents.{order_at, is_spare, is_demotable}
use Rattle.core_state.specs.DieEvents.{is_flushable}
use Rattle.core_state.specs.LaneEvents.{is_quick, first_frame}
use Rattle.core_state.specs.Happens.{CoreRun, actor_of, is_homecoming, after}
use Rattle.core_state.specs.History.{is_failure, request_of}
use Rattle.core_state.specs.Happens.{after_all}

-- ---- runs of steps

-- each event stands in R to the core in which it happens
abbrev pub Steps : (Core → Event → Type 0) → Core → List Event → Type 0
Steps R c [] = Unit {0}
Steps R c (e ∷ es) = R c e × Steps R (after c e) es

-- ---- dies

abbrev pub flush_event : Core → Actor → Option Event
flush_event c actor = option_map (λ b. FlushOut actor (die_of c.shape b) b) (find (is_flushable c) c.unclean)

-- the next write of a sync that has written so many meta pages; `encode` has the bytes of a meta page in a core
abbrev pub sync_event : (Core → ℕ → Page) → Core → Actor → ℕ → Option Event
sync_event encode c actor number =
    if is_some (slice_get c.unclean 0)
    then flush_event c actor
    else (if nat_lt number (meta_pages c.shape.blocks)
    then Some (DieOut actor (die_of_page c.shape number) (Meta number (encode c number)))
    else None)

-- ---- room

abbrev pub evict_event : Core → Actor → Side → Option Event
evict_event c actor side = option_map (λ b. Evict actor side b) (find (is_spare c side) (order_at side c))

abbrev pub demote_event : Core → Actor → Option Event
demote_event c actor =
    if nat_lt (used Drive c.shape c.drive_order c.calls) c.shape.drive_frames
    then option_map (λ b. Demote actor b) (find (is_demotable c) c.host_order)
    else None

-- for the host: Evict at the host, Demote, Evict in the drive, a flush; for the drive: Evict in the drive, a flush
abbrev pub room_event : Core → Actor → Side → Option Event
room_event c actor side =
    or_else
    (by_side side (or_else (evict_event c actor Host) (demote_event c actor)) None)
    (or_else (evict_event c actor Drive) (flush_event c actor))

-- the frames that a call would reserve
abbrev pub need : Core → Claim → ℕ
need c claim = sum_to claim.reach.pages (λ i. weight (first_frame c.blocks c.places claim i))

abbrev pub is_wanting : Core → Claim → Bool
is_wanting c claim =
    nat_lt (frames_at claim.side c.shape) (used claim.side c.shape (order_at claim.side c) c.calls + need c claim)

-- ---- a call

-- of a lane that is idle, at the side of the call: events 1 to 4
abbrev pub idle_event : Core → ℕ → Request → Side → Option Event
idle_event c lane request side =
    if (c.lanes lane).mark then Some (Skip lane request true)
    else (if is_quick request.call || is_some (early (plain c) request.call) then Some (Quick lane request (answer (plain c) request.call).reply)
    else (if is_wanting c (claim_for c.names.files request side) then room_event c (Lane lane) side else Some (Begin lane request side)))

abbrev pub solo_side : Core → Request → Side
solo_side c request = side_for c.shape c.blocks c.places c.names.functions (claim_for c.names.files request Host)

-- the lowest page that is still to be gathered
abbrev pub page_to_gather : Flight → Option ℕ
page_to_gather call =
    first_to call.claim.reach.pages (λ i. gathers call.claim.request.call call.claim.reach i && is_none (call.gathered i))

-- the page at a place of the span, whose block is this
abbrev pub gather_event : Core → Actor → ℕ → Flight → ℕ → Option ℕ → Event
gather_event c actor lane call i None = by_mode call.claim.reach.mode (Copy actor lane i) (Take actor lane i)
gather_event c actor lane call i (Some b) =
    if is_missing (c.blocks b)
    then DieOut actor (die_of c.shape b) (Fill lane i)
    else by_mode call.claim.reach.mode (Copy actor lane i) (Take actor lane i)

abbrev pub gathering : Core → Actor → ℕ → Flight → Option Event
gathering c actor lane call =
    if (c.lanes lane).mark
    then None
    else option_map (λ i. gather_event c actor lane call i (span_block c.places call.claim i)) (page_to_gather call)

-- the pages of a sync, unless the lane is marked
abbrev pub syncing : (Core → ℕ → Page) → Core → ℕ → Flight → Option Event
syncing encode c lane call =
    if is_sync call.claim.request.call && not (c.lanes lane).mark then sync_event encode c (Lane lane) call.meta else None

abbrev pub end_event : Core → ℕ → Flight → Event
end_event c lane call =
    End lane call.claim.request (if (c.lanes lane).mark then Fault else (answer (plain c) call.claim.request.call).reply)

-- of a call that is held at the host: events 6 and 7, then its End
abbrev pub host_event : (Core → ℕ → Page) → Core → ℕ → Flight → Option Event
host_event encode c lane call =
    or_else (gathering c (Lane lane) lane call) (or_else (syncing encode c lane call) (Some (end_event c lane call)))

-- of a call in flight: events 5 to 8
abbrev pub flight_event : (Core → ℕ → Page) → Core → ℕ → Flight → Phase → Option Event
flight_event encode c lane call Held = by_side call.claim.side (host_event encode c lane call) (Some (Submit lane))
flight_event encode c lane call Queued = Some (Fetch 0 lane)
flight_event encode c lane call (Running worker) = or_else (gathering c (Worker worker) lane call) (Some (Report worker lane))
flight_event encode c lane call (Reported result) = Some (end_event c lane call)

-- the next event of the lane's call, where no die is out for it
abbrev pub call_event : (Core → ℕ → Page) → Core → ℕ → Request → Option Flight → Option Event
call_event encode c lane request None = idle_event c lane request (solo_side c request)
call_event encode c lane request (Some call) = flight_event encode c lane call call.phase

abbrev pub acting_in : ℕ → Phase → Actor
acting_in lane Held = Lane lane
acting_in lane Queued = Lane lane
acting_in lane (Running worker) = Worker worker
acting_in lane (Reported result) = Lane lane

-- who acts for the lane
abbrev pub acting : ℕ → Option Flight → Actor
acting lane None = Lane lane
acting lane (Some call) = acting_in lane call.phase

-- the first of two, or the second
abbrev pub Chosen : Bool → Type 0 → Type 0 → Type 0
Chosen true a b = a
Chosen false a b = b

-- A die comes home to the one who acts, however it went; any other event is this one. An actor that holds a die makes no other event,
-- and one that holds none brings none home.
abbrev pub IsNextOf : Actor → Option Event → Event → Type 0
IsNextOf actor next e = Chosen (is_homecoming e) (actor_of e ≡ actor) (next ≡ Some e)

-- it is the next event of the lane's call
abbrev pub IsNext : (Core → ℕ → Page) → ℕ → Request → Core → Event → Type 0
IsNext encode lane request c e = IsNextOf (acting lane (c.calls lane)) (call_event encode c lane request (c.calls lane)) e

-- and answers no call
pub record IsStep (encode : Core → ℕ → Page) (lane : ℕ) (request : Request) (c : Core) (e : Event) : Type 0 where
  pub next : IsNext encode lane request c e
  pub open_still : request_of e ≡ None

-- the events of a call: all but the last are steps, and the last one answers it
pub record SoloCall (encode : Core → ℕ → Page) (c : Core) (lane : ℕ) (request : Request) (es : List Event) : Type 0 where
  pub most : List Event
  pub last : Event
  pub whole : es ≡ most ++ last ∷ []
  pub steps : Steps (IsStep encode lane request) c most
  pub next : IsNext encode lane request (after_all c most) last
  pub answers : is_some (request_of last) ≡ true

-- one call of the script; one that finds no memory makes its Skip, which is no event of any other
abbrev pub SoloAnswer : (Core → ℕ → Page) → Core → ℕ → Request → List Event → Type 0
SoloAnswer encode c lane request es = (es ≡ Skip lane request false ∷ []) ⊎ SoloCall encode c lane request es

-- ---- a script

-- the requests of each lane, and the lines in order: a lane, and which of its requests, counted from 1
pub record Script : Type 0 where
  pub lanes : List (List Request)
  pub order : List (ℕ × ℕ)

abbrev pub request_at : Script → ℕ × ℕ → Option Request
request_at script line = slice_get (unwrap_or (slice_get script.lanes line.0) []) (line.1 - 1)

-- the events of one line, and those of the later ones
pub record SoloLine (encode : Core → ℕ → Page) (c : Core) (script : Script) (line : ℕ × ℕ) (own : List Event) : Type 0 where
  pub request : Request
  pub asks : request_at script line ≡ Some request
  pub answered : SoloAnswer encode c line.0 request own

-- the lines, one after the other
abbrev pub SoloLines : (Core → ℕ → Page) → Core → Script → List (ℕ × ℕ) → List Event → Type 0
SoloLines encode c script [] es = es ≡ []
SoloLines encode c script (line ∷ lines) es =
    (own : List Event) × (rest : List Event) × (es ≡ own ++ rest) × SoloLine encode c script line own × SoloLines encode (after_all c own) script lines rest

-- ---- the last sync

-- it is the next write of the last sync
abbrev pub IsSyncNext : (Core → ℕ → Page) → Core → Event → Type 0
IsSyncNext encode c e = IsNextOf Closer (sync_event encode c Closer c.closer) e

-- and did not fail
pub record IsSyncStep (encode : Core → ℕ → Page) (c : Core) (e : Event) : Type 0 where
  pub next : IsSyncNext encode c e
  pub good : is_failure e ≡ false

-- all is stored
pub record IsStored (c : Core) : Type 0 where
  pub clean : c.unclean ≡ []
  pub all : c.closer ≡ meta_pages c.shape.blocks

-- to its end, or to the first failure
pub record SyncEnds (encode : Core → ℕ → Page) (c : Core) (es : List Event) : Type 0 where
  pub steps : Steps (IsSyncStep encode) c es
  pub stored : IsStored (after_all c es)

pub record SyncFails (encode : Core → ℕ → Page) (c : Core) (es : List Event) : Type 0 where
  pub most : List Event
  pub last : Event
  pub whole : es ≡ most ++ last ∷ []
  pub steps : Steps (IsSyncStep encode) c most
  pub next : IsSyncNext encode (after_all c most) last
  pub failed : is_failure last ≡ true

abbrev pub SoloSync : (Core → ℕ → Page) → Core → List Event → Type 0
SoloSync encode c es = SyncEnds encode c es ⊎ SyncFails encode c es

-- ---- all of it

abbrev pub enters : ℕ → List Event
enters lanes = map (λ lane. Enter lane) (range_with_len 0 lanes)

abbrev pub leaves : ℕ → List Event
leaves lanes = map (λ lane. Leave lane) (range_with_len 0 lanes)

abbrev pub SoloEnd : (Core → ℕ → Page) → Bool → Core → List Event → Type 0
SoloEnd encode true c es = SoloSync encode c es
SoloEnd encode false c es = es ≡ []

-- `last_sync` says whether the last sync is asked for
pub record SoloRun (encode : Core → ℕ → Page) (c0 : Core) (script : Script) (last_sync : Bool) (events : List Event) (c1 : Core) : Type 0 where
  pub lines : List Event
  pub settling : List Event
  pub parts : events ≡ enters c0.shape.lanes ++ (lines ++ (leaves c0.shape.lanes ++ settling))
  pub calls : SoloLines encode (after_all c0 (enters c0.shape.lanes)) script script.order lines
  pub ending : SoloEnd encode last_sync (after_all c0 (enters c0.shape.lanes ++ (lines ++ leaves c0.shape.lanes))) settling
  pub run : CoreRun c0 events c1
