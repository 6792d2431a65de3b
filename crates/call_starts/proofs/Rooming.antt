-- Room for a call in the run of one thread, and that nobody is in the way of a call that is alone.
use Rattle.std.proofs.Common.{◌≡◌, ℕ, ◌+◌, ◌<◌, ◌≤◌, Bool, true, false, List, [], ◌∷◌, ◌++◌, Option, Some, None, length, refl, sym, ap, ◌∙◌, subst, ⊎_elim, arith}
use Rattle.std.specs.Prelude.{◌⊎◌, nat_lt, IfSome, if◌then◌else◌, option_map}
use Rattle.std.specs.List.{find}
use Rattle.dispatcher.specs.declared.side.Side.{Side}
use Rattle.dispatcher.specs.declared.side.Side.TheVariants.{Host, Drive}
use Rattle.coherence.specs.Paired.{by_side}
use Rattle.plain_files.specs.declared.calls.Call.{Call}
use Rattle.plain_files.specs.declared.calls.Call.TheVariants.{Read, Write, Append, Trunc, Readl, Writel, Sync}
use Rattle.plain_files.specs.declared.calls.Reply.{Reply}
use Rattle.plain_files.specs.declared.calls.Request.{Request}
use Rattle.plain_files.specs.Plain.{early}
use Rattle.plain_files.specs.History.{Entry}
use Rattle.core_state.specs.declared.actor.Actor.{Actor}
use Rattle.core_state.specs.declared.actor.Actor.TheVariants.{Lane}
use Rattle.core_state.specs.declared.event.Event.{Event}
use Rattle.core_state.specs.declared.event.Event.TheVariants.{Evict, Demote, FlushOut, FlushIn}
use Rattle.core_state.specs.Words.{or_else}
use Rattle.core_state.specs.State.{Page, Flight, Claim, Core}
use Rattle.core_state.specs.Contents.{die_of}
use Rattle.core_state.specs.Reach.{is_data, is_sync, claim_for}
use Rattle.core_state.specs.PlainOf.{plain}
use Rattle.core_state.specs.Frames.{used, frames_at}
use Rattle.core_state.specs.InFlight.{claims, claim_of}
use Rattle.core_state.specs.PageEvents.{order_at, is_spare, is_demotable}
use Rattle.core_state.specs.DieEvents.{is_flushable}
use Rattle.core_state.specs.LaneEvents.{is_quick}
use Rattle.core_state.specs.Coherent.{Coherent}
use Rattle.core_state.specs.Happens.{actor_of, after}
use Rattle.core_state.specs.History.{request_of, calls_of}
use Rattle.core_solo.specs.Solo.{Steps, IsStep, acting, evict_event, demote_event, flush_event, room_event, solo_side, is_wanting}
use Rattle.core_solo.specs.Alone.{HasFrames, IsAlone}
use Rattle.core_solo.proofs.Words.{or_else_all, map_all, if_all}
use Rattle.core_solo.proofs.Nexts.{home_next, room_next, room_alone}
use Rattle.core_solo.proofs.Steps.{acting_none}
use Rattle.core_solo.proofs.Goes.{still_all}
use Rattle.system_state.specs.declared.not_yet.NotYet.{NotYet}
use Rattle.system_state.specs.declared.not_yet.NotYet.TheVariants.{NoRoom}
use Rattle.system_lanes.specs.Waiting.{awaited_still}
use Rattle.desk_turns.specs.Making.{AreOf}
use Rattle.call_begins.specs.Begun.{clashes, least_clash, waits_for, begin_waits, used_at, need_of, side_of, claim_at_side}
use Rattle.call_begins.specs.Ways.{Waits, way_by, begin_way}
use Rattle.call_begins.specs.Making.{IsFree, IsForRoom, IsWhole}
use Rattle.call_begins.proofs.Frees.{awaited_none, first_of_none}
use Rattle.call_begins.proofs.Wanting.{wants_room}
use Rattle.call_begins.specs.Steps.{lacks_room, WantsRoom, WaitsForCall}
use Rattle.call_starts.specs.Starting.{MakesRoom, AreForRoom}

-- ---- events for room

pub room_of : (lane : ℕ) (es : List Event) → AreForRoom lane es → AreOf (Lane lane) es
room_of lane [] p = tt
room_of lane (e ∷ es) p = (one e p.0, room_of lane es p.1)
  where
    one : (e : Event) → MakesRoom lane e → actor_of e ≡ Lane lane
    one (Evict actor side block) q = q
    one (Demote actor block) q = q
    one (FlushOut actor die block) q = q
    one (FlushIn actor die good left) q = q
    one _ q = absurd q

pub room_silent : (lane : ℕ) (es : List Event) → AreForRoom lane es → calls_of es ≡ []
room_silent lane [] p = refl
room_silent lane (Evict actor side block ∷ es) p = room_silent lane es p.1
room_silent lane (Demote actor block ∷ es) p = room_silent lane es p.1
room_silent lane (FlushOut actor die block ∷ es) p = room_silent lane es p.1
room_silent lane (FlushIn actor die good left ∷ es) p = room_silent lane es p.1
room_silent lane (_ ∷ es) p = absurd (p.0)

pub room_on : (lane : ℕ) (es fs : List Event) → AreForRoom lane es → AreForRoom lane fs → AreForRoom lane (es ++ fs)
room_on lane [] fs p q = q
room_on lane (e ∷ es) fs p q = (p.0, room_on lane es fs p.1 q)

none_makes : (lane : ℕ) (e : Event) → None ≡ Some e → MakesRoom lane e
none_makes lane e q = absurd (cc)

-- the next event for room is one of the lane's
pub for_room : (c : Core) (lane : ℕ) (side : Side) → (e : Event) → room_event c (Lane lane) side ≡ Some e → MakesRoom lane e
for_room c lane side =
    or_else_all (MakesRoom lane) (by_side side (or_else (evict_event c (Lane lane) Host) (demote_event c (Lane lane))) None) (or_else (evict_event c (Lane lane) Drive) (flush_event c (Lane lane))) (first side)
    (or_else_all (MakesRoom lane) (evict_event c (Lane lane) Drive) (flush_event c (Lane lane)) (evicts Drive) flushes)
  where
    evicts : (side : Side) → (e : Event) → evict_event c (Lane lane) side ≡ Some e → MakesRoom lane e
    evicts side = map_all (MakesRoom lane) (λ b. Evict (Lane lane) side b) (find (is_spare c side) (order_at side c)) (λ b e. refl)

    demotes : (e : Event) → demote_event c (Lane lane) ≡ Some e → MakesRoom lane e
    demotes = if_all (MakesRoom lane) (nat_lt (used Drive c.shape c.drive_order c.calls) c.shape.drive_frames) (option_map (λ b. Demote (Lane lane) b) (find (is_demotable c) c.host_order)) None
        (λ t. map_all (MakesRoom lane) (λ b. Demote (Lane lane) b) (find (is_demotable c) c.host_order) (λ b e. refl)) (λ t. none_makes lane)

    flushes : (e : Event) → flush_event c (Lane lane) ≡ Some e → MakesRoom lane e
    flushes = map_all (MakesRoom lane) (λ b. FlushOut (Lane lane) (die_of c.shape b) b) (find (is_flushable c) c.unclean) (λ b e. refl)

    first : (side : Side) → (e : Event) → by_side side (or_else (evict_event c (Lane lane) Host) (demote_event c (Lane lane))) None ≡ Some e → MakesRoom lane e
    first Host = or_else_all (MakesRoom lane) (evict_event c (Lane lane) Host) (demote_event c (Lane lane)) (evicts Host) demotes
    first Drive = none_makes lane

-- what follows it is too
pub whole_makes : (lane : ℕ) (e : Event) (rest : List Event) → IsWhole lane e rest → AreForRoom lane rest
whole_makes lane (Evict actor side block) rest w = subst (AreForRoom lane) (sym w) tt
whole_makes lane (Demote actor block) rest w = subst (AreForRoom lane) (sym w) tt
whole_makes lane (FlushOut actor die block) rest w = subst (AreForRoom lane) (sym w.1) (refl, tt)
whole_makes lane _ rest w = absurd w

-- ---- the run of one thread

not_quick : (call : Call) → (is_data call ≡ true) ⊎ (is_sync call ≡ true) → is_quick call ≡ false
not_quick Sync k = refl
not_quick (Read name off n) k = refl
not_quick (Write name off bytes) k = refl
not_quick (Append name bytes) k = refl
not_quick (Trunc name n) k = refl
not_quick (Readl file off n function fuel capacity param) k = refl
not_quick (Writel file off n function fuel param input) k = refl
not_quick _ k = ⊎_elim (λ (e : false ≡ true). absurd (cc)) (λ (e : false ≡ true). absurd (cc)) k

-- the first event for room is the call's next one
pub room_step : (encode : Core → ℕ → Page) (c : Core) (lane : ℕ) (request : Request) (side : Side) (e : Event) → (is_data request.call ≡ true) ⊎ (is_sync request.call ≡ true) → IsFree c lane → WantsRoom request side c → IsForRoom lane side e c → IsStep encode lane request c e
room_step encode c lane request side e kind free wants next =
    let w = wants_room c request wants.0 wants.1 wants.2 in
    record {
      next = room_next encode c lane request e free.idle.idle free.mark (not_quick request.call kind) w.0 w.2 (ap (λ (s : Side). room_event c (Lane lane) s) (sym (wants.3 ∙ w.1)) ∙ next);
      open_still = silent e (for_room c lane side e next);
    }
  where
    silent : (e : Event) → MakesRoom lane e → request_of e ≡ None
    silent (Evict actor side block) q = refl
    silent (Demote actor block) q = refl
    silent (FlushOut actor die block) q = refl
    silent (FlushIn actor die good left) q = refl
    silent _ q = absurd q

-- and a die comes home to the lane
pub home_step : (encode : Core → ℕ → Page) (c : Core) (lane : ℕ) (request : Request) (die : ℕ) (good : Bool) (left : Page) → c.calls lane ≡ None → Steps (IsStep encode lane request) c (FlushIn (Lane lane) die good left ∷ [])
home_step encode c lane request die good left idle = (record { next = home_next encode c lane request (FlushIn (Lane lane) die good left) refl (sym (acting_none c lane idle)); open_still = refl }, tt)

pub whole_steps : (encode : Core → ℕ → Page) (c : Core) (lane : ℕ) (request : Request) (e : Event) (rest : List Event) → c.calls lane ≡ None → IsWhole lane e rest → Steps (IsStep encode lane request) (after c e) rest
whole_steps encode c lane request (Evict actor side block) rest idle w = subst (Steps (IsStep encode lane request) (after c (Evict actor side block))) (sym w) tt
whole_steps encode c lane request (Demote actor block) rest idle w = subst (Steps (IsStep encode lane request) (after c (Demote actor block))) (sym w) tt
whole_steps encode c lane request (FlushOut actor die block) rest idle w =
    subst (Steps (IsStep encode lane request) (after c (FlushOut actor die block))) (sym w.1) (home_step encode (after c (FlushOut actor die block)) lane request die true w.0 idle)
whole_steps encode c lane request _ rest idle w = absurd w

-- ---- nobody is in the way

no_clash : (c : Core) (claim : Claim) → ((l : ℕ) → c.calls l ≡ None) → least_clash c claim ≡ None
no_clash c claim still = first_of_none c.shape.lanes (λ l. clashes claim (claims c.calls l)) (λ l. ap (λ (o : Option Flight). clashes claim (claim_of o)) (still l))

-- then it waits for room alone
lacks : (why : NotYet) (clash : Option ℕ) (x y frames : ℕ) → clash ≡ None → waits_for clash x y frames ≡ Some why → lacks_room why ≡ true
lacks why (Some l) x y frames e f = absurd (cc)
lacks why None x y frames e f = go (nat_lt frames (x + y)) f
  where
    go : (t : Bool) → (if t then Some (NoRoom x y) else None) ≡ Some why → lacks_room why ≡ true
    go true f = let z : NoRoom x y ≡ why = cc in ap lacks_room (sym z)
    go false f = absurd (cc)

waits_by : (why : NotYet) (a : Option NotYet) (r : Option Reply) (w : Option NotYet) (side : Side) (span : ℕ) → a ≡ None → way_by a r w side span ≡ Waits why → w ≡ Some why
waits_by why (Some y) r w side span e is = absurd (cc)
waits_by why None (Some reply) w side span e is = absurd (cc)
waits_by why None None (Some y) side span e is = cc
waits_by why None None None side span e is = absurd (cc)

pub never_for_call : (c : Core) (lane : ℕ) (request : Request) → IsAlone c lane request → c.calls lane ≡ None → WaitsForCall request c → ⊥
never_for_call c lane request alone idle waits =
    let claim = claim_at_side c request in
    let w = waits_by waits.0 (awaited_still c.lanes request.awaits) (early (plain c) request.call) (begin_waits c claim) (side_of c request) claim.reach.pages (awaited_none c.lanes request.awaits alone.awaited) waits.1 in
    let l = lacks waits.0 (least_clash c claim) (used_at c claim.side) (need_of c claim) (frames_at claim.side c.shape) (no_clash c claim (still_all c lane alone.others idle)) w in
    let f = waits.2 in
    absurd (cc)

pub never_for_room : (c : Core) (lane : ℕ) (request : Request) (side : Side) → Coherent c → HasFrames c.shape → IsAlone c lane request → IsFree c lane → WantsRoom request side c → room_event c (Lane lane) side ≡ None → ⊥
never_for_room c lane request side h frames alone free wants none =
    let w = wants_room c request wants.0 wants.1 wants.2 in
    let is : side ≡ solo_side c request = wants.3 ∙ w.1 in
    let e = room_alone c lane request h frames alone free.idle.idle free.none w.0 side (ap (λ (s : Side). is_wanting c (claim_for c.names.files request s)) is ∙ w.2) in
    let f = e.1 in
    absurd (cc)

pub never_awaits : (c : Core) (lane : ℕ) (request : Request) (why : NotYet) → IsAlone c lane request → awaited_still c.lanes request.awaits ≡ Some why → ⊥
never_awaits c lane request why alone is = let n = awaited_none c.lanes request.awaits alone.awaited in absurd (cc)
