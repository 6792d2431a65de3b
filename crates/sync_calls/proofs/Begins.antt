-- A `sync` begins, and nobody is in its way where it is alone.
use Rattle.std.proofs.Common.{◌≡◌, ℕ, ◌+◌, ◌≤◌, Bool, true, false, Option, Some, None, refl, ap, arith}
use Rattle.std.specs.Prelude.{nat_lt, IfSome, if◌then◌else◌}
use Rattle.std.proofs.lemmas.Bool.Decides.{nat_tests}
use Rattle.dispatcher.specs.declared.side.Side.{Side}
use Rattle.dispatcher.specs.declared.side.Side.TheVariants.{Host, Drive}
use Rattle.plain_files.specs.declared.calls.Call.{Call}
use Rattle.plain_files.specs.declared.calls.Call.TheVariants.{Create, OpenFile, Stat, Remove, Read, Write, Append, Trunc, Seal, Load, Unload, Readl, Writel, Sync}
use Rattle.plain_files.specs.declared.calls.Reply.{Reply}
use Rattle.plain_files.specs.declared.calls.Request.{Request}
use Rattle.plain_files.specs.Plain.{State, early}
use Rattle.index_lists.proofs.Puts.{put-same}
use Rattle.core_state.specs.declared.actor.Actor.TheVariants.{Lane}
use Rattle.core_state.specs.declared.event.Event.TheVariants.{Begin}
use Rattle.core_state.specs.State.{Claim, Flight, Core}
use Rattle.core_state.specs.Words.{sum_to}
use Rattle.core_state.specs.Reach.{is_sync, claim_for}
use Rattle.core_state.specs.Frames.{frames_at, weight}
use Rattle.core_state.specs.InFlight.{claims, claim_of}
use Rattle.core_state.specs.LaneEvents.{first_flight, first_frame, MayBegin}
use Rattle.core_state.specs.PlainOf.{plain}
use Rattle.core_state.specs.Coherent.{Coherent}
use Rattle.core_state.specs.Happens.{HoldsNone, after}
use Rattle.core_solo.specs.Solo.{IsStep}
use Rattle.core_solo.proofs.Nexts.{begin_next}
use Rattle.system_state.specs.declared.not_yet.NotYet.{NotYet}
use Rattle.system_state.specs.declared.not_yet.NotYet.TheVariants.{NoRoom}
use Rattle.system_lanes.specs.Waiting.{awaited_still}
use Rattle.system_metas.specs.Encode.{encode}
use Rattle.quick_calls.specs.Begun.{clashes, least_clash, waits_for, begin_waits, used_at, need_of, side_of, claim_at_side}
use Rattle.quick_calls.specs.Ways.{Waits, Refused, way_by, begin_way}
use Rattle.quick_calls.specs.Making.{IsFree}
use Rattle.quick_calls.proofs.Frees.{awaited_none, first_of_none}
use Rattle.sync_calls.specs.Stages.{IsInSync}

-- ---- it begins

pub begun_in_sync : (c : Core) (lane : ℕ) (request : Request) (side : Side) → is_sync request.call ≡ true → IsFree c lane → HoldsNone (after c (Begin lane request side)) (Lane lane) × IsInSync false (after c (Begin lane request side)) lane request 0
begun_in_sync c lane request side sync free = (
  free.none,
  record {
    sync = sync;
    call = first_flight c.blocks c.places (claim_for c.names.files request side);
    flies = put-same c.calls lane (Some (first_flight c.blocks c.places (claim_for c.names.files request side)));
    held = refl;
    request_is = refl;
    number_is = refl;
    mark = free.mark;
    within = free.idle.within;
    inside = free.idle.inside;
  },
)

pub begin_steps : (c : Core) (lane : ℕ) (request : Request) (side : Side) → MayBegin c lane request side → IsStep encode lane request c (Begin lane request side)
begin_steps c lane request side may = record { next = begin_next encode c lane request side may; open_still = refl }

-- ---- it is never refused

sync_is : (call : Call) → is_sync call ≡ true → call ≡ Sync
sync_is Sync e = refl
sync_is (Create name) e = absurd (cc)
sync_is (OpenFile name) e = absurd (cc)
sync_is (Stat name) e = absurd (cc)
sync_is (Remove name) e = absurd (cc)
sync_is (Seal name) e = absurd (cc)
sync_is (Load name bytes) e = absurd (cc)
sync_is (Unload name) e = absurd (cc)
sync_is (Read name off n) e = absurd (cc)
sync_is (Write name off bytes) e = absurd (cc)
sync_is (Append name bytes) e = absurd (cc)
sync_is (Trunc name n) e = absurd (cc)
sync_is (Readl file off n function fuel cap param) e = absurd (cc)
sync_is (Writel file off n function fuel param input) e = absurd (cc)

never_early : (s : State) (call : Call) → is_sync call ≡ true → early s call ≡ None
never_early s call sync = ap (early s) (sync_is call sync)

not_refused : (a : Option NotYet) (r : Option Reply) (w : Option NotYet) (side : Side) (span : ℕ) (reply : Reply) → r ≡ None → Refused reply ≡ way_by a r w side span → ⊥
not_refused (Some y) r w side span reply e is = absurd (cc)
not_refused None (Some x) w side span reply e is = absurd (cc)
not_refused None None (Some y) side span reply e is = absurd (cc)
not_refused None None None side span reply e is = absurd (cc)

pub sync_not_refused : (c : Core) (request : Request) (reply : Reply) → is_sync request.call ≡ true → Refused reply ≡ begin_way c request → ⊥
sync_not_refused c request reply sync is =
    not_refused (awaited_still c.lanes request.awaits) (early (plain c) request.call) (begin_waits c (claim_at_side c request)) (side_of c request) (claim_at_side c request).reach.pages reply (never_early (plain c) request.call sync) is

-- ---- nobody is in its way

not_waiting : (a : Option NotYet) (r : Option Reply) (w : Option NotYet) (side : Side) (span : ℕ) (y : NotYet) → a ≡ None → w ≡ None → Waits y ≡ way_by a r w side span → ⊥
not_waiting (Some x) r w side span y e f is = absurd (cc)
not_waiting None (Some x) w side span y e f is = absurd (cc)
not_waiting None None (Some x) side span y e f is = absurd (cc)
not_waiting None None None side span y e f is = absurd (cc)

no_clash : (c : Core) (claim : Claim) → ((l : ℕ) → c.calls l ≡ None) → least_clash c claim ≡ None
no_clash c claim still = first_of_none c.shape.lanes (λ l. clashes claim (claims c.calls l)) (λ l. ap (λ (o : Option Flight). clashes claim (claim_of o)) (still l))

used_fits : (c : Core) (side : Side) → Coherent c → used_at c side ≤ frames_at side c.shape
used_fits c Host h = h.frames.host
used_fits c Drive h = h.frames.drive

waits_none : (clash : Option ℕ) (x y frames : ℕ) → clash ≡ None → y ≡ 0 → x ≤ frames → waits_for clash x y frames ≡ None
waits_none (Some l) x y frames e z l2 = absurd (cc)
waits_none None x y frames e z fits =
    let t : nat_lt frames (x + y) ≡ false = grind (arith, nat_tests) in
    ap (λ (b : Bool). if b then Some (NoRoom x y) else None) t

-- it needs no frame
pages_none : (c : Core) (request : Request) (side : Side) → is_sync request.call ≡ true → (claim_for c.names.files request side).reach.pages ≡ 0
pages_none c request side sync =
    ap (λ (x : Call). (claim_for c.names.files (record request { call = x }) side).reach.pages) (sync_is request.call sync)

needs_none : (c : Core) (claim : Claim) → claim.reach.pages ≡ 0 → need_of c claim ≡ 0
unfolding sum_to
needs_none c claim e = ap (λ (n : ℕ). sum_to n (λ i. weight (first_frame c.blocks c.places claim i))) e

pub sync_not_waiting : (c : Core) (request : Request) (y : NotYet) → Coherent c → is_sync request.call ≡ true → IfSome request.awaits (λ a. a.1 ≤ (c.lanes a.0).ended) → ((l : ℕ) → c.calls l ≡ None) → Waits y ≡ begin_way c request → ⊥
sync_not_waiting c request y h sync awaited still is =
    let claim = claim_at_side c request in
    not_waiting (awaited_still c.lanes request.awaits) (early (plain c) request.call) (begin_waits c claim) (side_of c request) claim.reach.pages y (awaited_none c.lanes request.awaits awaited)
    (waits_none (least_clash c claim) (used_at c claim.side) (need_of c claim) (frames_at claim.side c.shape) (no_clash c claim still) (needs_none c claim (pages_none c request (side_of c request) sync)) (used_fits c claim.side h)) is
