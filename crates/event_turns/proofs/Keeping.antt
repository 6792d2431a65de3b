-- What an actor knows of its lane, its call or its worker holds again where its Hold is the same.
use Rattle.std.proofs.Common.{◌≡◌, ℕ, ◌<◌, Bool, true, false, List, Option, Some, None, refl, sym, ap, ◌∙◌, subst, arith}
use Rattle.std.specs.Prelude.{◌||◌, if◌then◌else◌, is_some, nat_lt, unwrap_or}
use Rattle.std.proofs.lemmas.Bool.Decides.{nat_tests}
use Rattle.core_state.specs.declared.actor.Actor.{Actor}
use Rattle.core_state.specs.declared.actor.Actor.TheVariants.{Lane, Worker, Flusher, Closer}
use Rattle.core_state.specs.declared.event.Event.{Event}
use Rattle.core_state.specs.State.{Page, Shape, Names, Places, Outside, Gone, LaneState, Claim, NoFrame, Phase, Held, Queued, Running, Reported, Flight, Mode, Errand, ToFill, ToFlush, ToMeta, Core}
use Rattle.core_state.specs.Contents.{contents, span_block}
use Rattle.core_state.specs.Reach.{is_sync, gathers}
use Rattle.core_state.specs.PlainOf.{plain, outcome_of}
use Rattle.core_state.specs.Dies.{owner, IsErrand}
use Rattle.core_state.specs.PageEvents.{flight_at, no_flight}
use Rattle.core_state.specs.DieEvents.{MayWriteMeta, meta_of}
use Rattle.core_state.specs.LaneEvents.{IsIdle, MayEnter, MayLeave, MaySubmit, MayReport, HasGathered, result_of}
use Rattle.core_state.specs.Coherent.{Coherent}
use Rattle.core_state.specs.Hold.{Hold, HeldLane, SeenCall, OwnedCall, hold, is_actor, is_some_actor, is_owner, cut_to, seen_call, call_seen, owned_call, call_owned}
use Rattle.core_state.specs.Happens.{HoldsNone, IsClosing, CoreRun}
use Rattle.core_hold.proofs.Actors.{is_itself}
use Rattle.core_outcomes.specs.Known.{HasAll}
use Rattle.core_outcomes.proofs.Outcomes.{owned_outcome}
use Rattle.sbpf_insn.specs.Machine.{Outcome}
use Rattle.system_state.specs.Jobs.{JobView, view_of}
use Rattle.system_lanes.specs.Phases.{flight_in}
use Rattle.desk_turns.specs.Passing.{IsItsOwn, SameCall}
use Rattle.desk_turns.proofs.Later.{none_kept, none_of, mark_of, lane_same}
use Rattle.flushes.proofs.Known.{own_kept, closing_kept}
use Rattle.event_turns.specs.MetaTurns.{MayStore}
use Rattle.event_turns.specs.PageTurns.{MayGather}
use Rattle.event_turns.specs.JobTurns.{IsToldSame, SuitsInSpan, IsUnbusy}

-- ---- a call in the actor's hands

owns : (a : Actor) (lane : ℕ) (phase : Phase) → owner lane phase ≡ Some a → is_owner a lane phase ≡ true
owns a lane phase e = ap (is_some_actor a) e ∙ is_itself a

owned_if : LaneState → Flight → Bool → Option OwnedCall
owned_if l f t = if t then Some (owned_call l f) else None

owned_here : (l : LaneState) (a : Actor) (lane : ℕ) (f : Flight) → is_owner a lane f.phase ≡ true → call_owned l a lane (Some f) ≡ Some (owned_call l f)
unfolding owned_if
owned_here l a lane f t = ap (owned_if l f) t

owned_not : (l : LaneState) (a : Actor) (lane : ℕ) (f : Flight) → is_owner a lane f.phase ≡ false → call_owned l a lane (Some f) ≡ None
unfolding owned_if
owned_not l a lane f t = ap (owned_if l f) t

owned_back : (l : LaneState) (a : Actor) (lane : ℕ) (o : Option Flight) (x : OwnedCall) → call_owned l a lane o ≡ Some x → (g : Flight) × (o ≡ Some g) × (owned_call l g ≡ x) × (is_owner a lane g.phase ≡ true)
owned_back l a lane None x e = absurd (cc)
owned_back l a lane (Some g) x e = go (is_owner a lane g.phase) refl
  where
    go : (t : Bool) → is_owner a lane g.phase ≡ t → (h : Flight) × (Some g ≡ Some h) × (owned_call l h ≡ x) × (is_owner a lane h.phase ≡ true)
    go true t = let z : Some (owned_call l g) ≡ Some x = sym (owned_here l a lane g t) ∙ e in (g, refl, cc, t)
    go false t = let z : None ≡ Some x = sym (owned_not l a lane g t) ∙ e in absurd (cc)

or_true : (x y : Bool) → y ≡ true → (x || y) ≡ true
or_true true y e = refl
or_true false y e = e

seen_here : (names : Names) (places : Places) (pages : ℕ → Page) (a : Actor) (lane : ℕ) (o : Option Flight) (f : Flight) → o ≡ Some f → is_owner a lane f.phase ≡ true → call_seen names places pages a lane o ≡ Some (seen_call names places pages f)
seen_here names places pages a lane o f e t =
    ap (call_seen names places pages a lane) e
    ∙ ap (λ (b : Bool). if b then Some (seen_call names places pages f) else None) (or_true (is_actor a (Lane lane)) (is_owner a lane f.phase) t)

cut_same : {A : Type 0} (x y k : ℕ) (rest : A) (f g : ℕ → A) → y ≡ x → k < x → cut_to y rest g ≡ cut_to x rest f → g k ≡ f k
cut_same {A} x y k rest f g e l h =
    let t : nat_lt k x ≡ true = grind (arith, nat_tests) in
    let u : nat_lt k y ≡ true = grind (arith, nat_tests) in
    let z : (if nat_lt k y then g k else rest) ≡ (if nat_lt k x then f k else rest) = ap (λ (w : ℕ → A). w k) h in
    sym (ap (λ (b : Bool). if b then g k else rest) u) ∙ (z ∙ ap (λ (b : Bool). if b then f k else rest) t)

-- the lane's call in the other core: the same one in its span, with all that its owner sees and has
pub record Again (c c2 : Core) (a : Actor) (lane : ℕ) (f : Flight) : Type 0 where
  pub call : Flight
  pub flies : c2.calls lane ≡ Some call
  pub same : SameCall f call
  pub mark : (c2.lanes lane).mark ≡ (c.lanes lane).mark
  pub owns : owner lane call.phase ≡ Some a
  pub seen : seen_call c2.names c2.places (contents c2.blocks) call ≡ seen_call c.names c.places (contents c.blocks) f

pub again : (c c2 : Core) (a : Actor) (lane : ℕ) (f : Flight) → hold c2 a ≡ hold c a → c.calls lane ≡ Some f → owner lane f.phase ≡ Some a → Again c c2 a lane f
again c c2 a lane f same flies mine =
    let t = owns a lane f.phase mine in
    let own : call_owned (c.lanes lane) a lane (c.calls lane) ≡ Some (owned_call (c.lanes lane) f) = ap (call_owned (c.lanes lane) a lane) flies ∙ owned_here (c.lanes lane) a lane f t in
    let b = owned_back (c2.lanes lane) a lane (c2.calls lane) (owned_call (c.lanes lane) f) (ap (λ (x : Hold). x.owned lane) same ∙ own) in
    let sees : Some (seen_call c2.names c2.places (contents c2.blocks) b.0) ≡ Some (seen_call c.names c.places (contents c.blocks) f)
    = sym (seen_here c2.names c2.places (contents c2.blocks) a lane (c2.calls lane) b.0 b.1 b.3)
    ∙ (ap (λ (x : Hold). x.seen lane) same ∙ seen_here c.names c.places (contents c.blocks) a lane (c.calls lane) f flies t) in
    let seen : seen_call c2.names c2.places (contents c2.blocks) b.0 ≡ seen_call c.names c.places (contents c.blocks) f = cc in
    let claim : b.0.claim ≡ f.claim = ap (λ (x : SeenCall). x.claim) seen in
    let pages : b.0.claim.reach.pages ≡ f.claim.reach.pages = ap (λ (x : Claim). x.reach.pages) claim in
    let phase : b.0.phase ≡ f.phase = ap (λ (x : OwnedCall). x.phase) b.2 in
    record {
      call = b.0;
      flies = b.1;
      same = record {
        claim = claim;
        phase = phase;
        meta = ap (λ (x : OwnedCall). x.meta) b.2;
        gathered = λ i l. cut_same f.claim.reach.pages b.0.claim.reach.pages i None f.gathered b.0.gathered pages l (ap (λ (x : OwnedCall). x.gathered) b.2);
        frame = λ i l. cut_same f.claim.reach.pages b.0.claim.reach.pages i NoFrame f.frame b.0.frame pages l (ap (λ (x : OwnedCall). x.frames) b.2);
      };
      mark = ap (λ (x : OwnedCall). x.mark) b.2;
      owns = ap (owner lane) phase ∙ mine;
      seen = seen;
    }

-- the block of a page of its span
pub block_again : (c c2 : Core) (a : Actor) (lane : ℕ) (f : Flight) → (g : Again c c2 a lane f) → (i : ℕ) → i < f.claim.reach.pages → span_block c2.places g.call.claim i ≡ span_block c.places f.claim i
block_again c c2 a lane f g i l =
    let pages : g.call.claim.reach.pages ≡ f.claim.reach.pages = ap (λ (x : Claim). x.reach.pages) g.same.claim in
    cut_same f.claim.reach.pages g.call.claim.reach.pages i None (span_block c.places f.claim) (span_block c2.places g.call.claim) pages l (ap (λ (x : SeenCall). x.blocks) g.seen)

-- what a job is told of it
pub told_again : (c c2 : Core) (a : Actor) (lane : ℕ) (f : Flight) → (g : Again c c2 a lane f) → (p : Phase) → IsToldSame (view_of c.names (record f { phase = p })) (view_of c2.names (record g.call { phase = p }))
told_again c c2 a lane f g p =
    record {
      code = ap (λ (x : SeenCall). x.code) g.seen;
      readable = ap (λ (x : SeenCall). x.readable) g.seen;
      call = record { claim = g.same.claim; phase = refl; meta = g.same.meta; gathered = g.same.gathered; frame = g.same.frame };
    }

pub at_flight : (calls : ℕ → Option Flight) (lane : ℕ) (f : Flight) → calls lane ≡ Some f → flight_at calls lane ≡ f
at_flight calls lane f e = ap (λ (o : Option Flight). unwrap_or o no_flight) e

-- ---- whose call it is

not_other : (l n : ℕ) (a : Actor) (phase : Phase) → owner n phase ≡ Some a → a ≡ Lane l → n ≡ l
not_other l n a Held e f = cc
not_other l n a Queued e f = absurd (cc)
not_other l n a (Running worker) e f = let z : Some (Worker worker) ≡ Some (Lane l) = e ∙ ap (λ (x : Actor). Some x) f in absurd (cc)
not_other l n a (Reported result) e f = cc

-- who owns a call that flies is no lane whose call is in other hands
pub own_flying : (c : Core) (a : Actor) (lane : ℕ) (f : Flight) → c.calls lane ≡ Some f → owner lane f.phase ≡ Some a → IsItsOwn c a
own_flying c a lane f flies mine = λ l g is at.
    let z : lane ≡ l = not_other l lane a f.phase mine is in
    let here : c.calls l ≡ Some f = subst (λ (n : ℕ). c.calls n ≡ Some f) z flies in
    let same : g ≡ f = cc in
    ap (λ (x : Flight). owner l x.phase) same ∙ (subst (λ (n : ℕ). owner n f.phase ≡ Some a) z mine ∙ ap (λ (x : Actor). Some x) is)

pub own_worker : (c : Core) (w : ℕ) → IsItsOwn c (Worker w)
own_worker c w = λ l f is at. absurd (cc)

-- ---- a lane without a call

pub idle_kept : (c c2 : Core) (lane : ℕ) → hold c2 (Lane lane) ≡ hold c (Lane lane) → c2.shape ≡ c.shape → IsIdle c lane → IsIdle c2 lane × ((c2.lanes lane).mark ≡ (c.lanes lane).mark)
idle_kept c c2 lane same shape p =
    let k = lane_same c c2 lane same in
    let none = none_of (c2.calls lane) (ap (λ (x : HeldLane). x.in_flight) k ∙ ap is_some p.idle) in (
      record {
        within = subst (λ (z : Shape). lane < z.lanes) (sym shape) p.within;
        inside = ap (λ (x : HeldLane). x.stage) k ∙ p.inside;
        idle = none;
      },
      mark_of (c.lanes lane) (c2.lanes lane) (c.calls lane) (c2.calls lane) p.idle none k,
    )

pub leave_kept : (c c2 : Core) (lane : ℕ) → hold c2 (Lane lane) ≡ hold c (Lane lane) → c2.shape ≡ c.shape → MayLeave c lane → MayLeave c2 lane
leave_kept c c2 lane same shape p = let k = idle_kept c c2 lane same shape p.idle in record { idle = k.0; unmarked = k.1 ∙ p.unmarked }

pub enter_kept : (c c2 : Core) (lane : ℕ) → hold c2 (Lane lane) ≡ hold c (Lane lane) → c2.shape ≡ c.shape → MayEnter c lane → MayEnter c2 lane
enter_kept c c2 lane same shape p =
    record { within = subst (λ (z : Shape). lane < z.lanes) (sym shape) p.within; outside = ap (λ (x : HeldLane). x.stage) (lane_same c c2 lane same) ∙ p.outside }

-- a lane that hasn't entered has no call and no die
outside_call : (c : Core) (lane : ℕ) (o : Option Flight) → Coherent c → (c.lanes lane).stage ≡ Outside → c.calls lane ≡ o → o ≡ None
outside_call c lane None h out e = refl
outside_call c lane (Some f) h out e = let t = h.dies.in_turn lane f e in let z = t.1 in absurd (cc)

pub own_outside : (c : Core) (lane : ℕ) → Coherent c → (c.lanes lane).stage ≡ Outside → IsItsOwn c (Lane lane)
own_outside c lane h out = λ l f is flies.
    let z : lane ≡ l = cc in
    let none : c.calls lane ≡ None = outside_call c lane (c.calls lane) h out refl in
    let w = ap c.calls z in
    absurd (cc)

not_outside : (c : Core) (lane : ℕ) (f : Flight) → Coherent c → (c.lanes lane).stage ≡ Outside → c.calls lane ≡ Some f → ⊥
not_outside c lane f h out e = let none = outside_call c lane (c.calls lane) h out refl in absurd (cc)

no_errand : (c : Core) (lane die : ℕ) (holder : Actor) (errand : Errand) → Coherent c → (c.lanes lane).stage ≡ Outside → holder ≡ Lane lane → IsErrand c.shape c.places c.blocks c.lanes c.calls die holder errand → ⊥
no_errand c lane die holder (ToFill l i) h out is e = not_outside c lane e.call h out (subst (λ (n : ℕ). c.calls n ≡ Some e.call) (not_other lane l holder e.call.phase e.owns is) e.flies)
no_errand c lane die (Lane l) (ToFlush b version page) h out is e = let z : l ≡ lane = cc in let y = e.3.inside in let x = ap c.lanes z in absurd (cc)
no_errand c lane die (Worker w) (ToFlush b version page) h out is e = absurd (cc)
no_errand c lane die (Flusher w) (ToFlush b version page) h out is e = absurd (cc)
no_errand c lane die Closer (ToFlush b version page) h out is e = absurd (cc)
no_errand c lane die (Lane l) (ToMeta number bytes) h out is e = let z : l ≡ lane = cc in not_outside c lane e.2.flight h out (subst (λ (n : ℕ). c.calls n ≡ Some e.2.flight) z e.2.flies)
no_errand c lane die (Worker w) (ToMeta number bytes) h out is e = absurd (cc)
no_errand c lane die (Flusher w) (ToMeta number bytes) h out is e = absurd (cc)
no_errand c lane die Closer (ToMeta number bytes) h out is e = absurd (cc)

pub none_outside : (c : Core) (lane : ℕ) → Coherent c → (c.lanes lane).stage ≡ Outside → HoldsNone c (Lane lane)
none_outside c lane h out = λ die o e mine. no_errand c lane die o.holder o.errand h out mine (h.dies.right die o e)

-- ---- pages of the meta data

writes_kept : (c c2 : Core) (a : Actor) (n : ℕ) → hold c2 a ≡ hold c a → IsItsOwn c a → MayWriteMeta c a n → MayWriteMeta c2 a n
writes_kept c c2 (Lane l) n same own p =
    let s = p.0 in
    let g = again c c2 (Lane l) l s.flight same s.flies (own l s.flight refl s.flies) in (
      record { flight = g.call; flies = g.flies; sync = ap (λ (x : Claim). is_sync x.request.call) g.same.claim ∙ s.sync },
      g.mark ∙ p.1,
      ap meta_of g.flies ∙ (g.same.meta ∙ (sym (ap meta_of s.flies) ∙ p.2)),
    )
writes_kept c c2 (Worker w) n same own p = p
writes_kept c c2 (Flusher f) n same own p = p
writes_kept c c2 Closer n same own p = let z = ap (λ (x : Hold). x.closer) same in let y : c2.closer ≡ c.closer = cc in y ∙ p

pub store_kept : (c c2 : Core) (a : Actor) (n : ℕ) (es : List Event) → CoreRun c es c2 → Coherent c2 → hold c2 a ≡ hold c a → c2.shape ≡ c.shape → MayStore c a n → MayStore c2 a n
store_kept c c2 a n es r h same shape p =
    record {
      none = none_kept c c2 a h same shape p.none;
      own = own_kept c c2 a same p.own;
      closing = λ e. closing_kept c c2 es r h shape (p.closing e);
      writes = writes_kept c c2 a n same p.own p.writes;
    }

-- ---- pages of a span

pub gather_kept : (c c2 : Core) (a : Actor) (lane i : ℕ) (mode : Mode) → Coherent c2 → hold c2 a ≡ hold c a → c2.shape ≡ c.shape → MayGather c a lane i mode → MayGather c2 a lane i mode
gather_kept c c2 a lane i mode h same shape p =
    let w = p.wants in
    let g = again c c2 a lane p.call same w.flies w.owns in
    let claim = sym g.same.claim in
    record {
      none = none_kept c c2 a h same shape p.none;
      call = g.call;
      wants = record {
        flies = g.flies;
        owns = g.owns;
        unmarked = g.mark ∙ w.unmarked;
        within = subst (λ (x : Claim). i < x.reach.pages) claim w.within;
        wanted = subst (λ (x : Claim). gathers x.request.call x.reach i ≡ true) claim w.wanted;
        missing = g.same.gathered i w.within ∙ w.missing;
      };
      mode_is = ap (λ (x : Claim). x.reach.mode) g.same.claim ∙ p.mode_is;
    }

pub own_gathering : (c : Core) (a : Actor) (lane i : ℕ) (mode : Mode) → MayGather c a lane i mode → IsItsOwn c a
own_gathering c a lane i mode p = own_flying c a lane p.call p.wants.flies p.wants.owns

-- ---- calls with a function

pub submit_kept : (c c2 : Core) (lane : ℕ) → hold c2 (Lane lane) ≡ hold c (Lane lane) → MaySubmit c lane → MaySubmit c2 lane
submit_kept c c2 lane same p =
    let g = again c c2 (Lane lane) lane p.call same p.flies (ap (owner lane) p.held) in
    record {
      call = g.call;
      flies = g.flies;
      held = g.same.phase ∙ p.held;
      drive = ap (λ (x : Claim). x.side) g.same.claim ∙ p.drive;
      unmarked = g.mark ∙ p.unmarked;
      empty = λ i l. let m : i < p.call.claim.reach.pages = subst (λ (x : Claim). i < x.reach.pages) g.same.claim l in g.same.gathered i m ∙ p.empty i m;
    }

pub report_kept : (c c2 : Core) (worker lane : ℕ) → hold c2 (Worker worker) ≡ hold c (Worker worker) → MayReport c worker lane → MayReport c2 worker lane
report_kept c c2 worker lane same p =
    let g = again c c2 (Worker worker) lane p.call same p.flies (ap (owner lane) p.runs) in
    record {
      call = g.call;
      flies = g.flies;
      runs = g.same.phase ∙ p.runs;
      all = λ unmarked i l w.
          let m : i < p.call.claim.reach.pages = subst (λ (x : Claim). i < x.reach.pages) g.same.claim l in
          let v : gathers p.call.claim.request.call p.call.claim.reach i ≡ true = subst (λ (x : Claim). gathers x.request.call x.reach i ≡ true) g.same.claim w in
          ap (λ (o : Option Page). is_some o) (g.same.gathered i m) ∙ p.all (sym g.mark ∙ unmarked) i m v;
    }

runs_on : (w l : ℕ) (p : Phase) → is_owner (Worker w) l p ≡ true → p ≡ Running w
runs_on w l Held t = absurd (cc)
runs_on w l Queued t = absurd (cc)
runs_on w l (Running x) t = let z : x ≡ w = grind (arith, nat_tests) in ap (λ (k : ℕ). Running k) z
runs_on w l (Reported result) t = absurd (cc)

pub unbusy_kept : (c c2 : Core) (worker : ℕ) → hold c2 (Worker worker) ≡ hold c (Worker worker) → IsUnbusy c worker → IsUnbusy c2 worker
unbusy_kept c c2 worker same p = λ l f flies runs.
    let own : call_owned (c2.lanes l) (Worker worker) l (c2.calls l) ≡ Some (owned_call (c2.lanes l) f) = ap (call_owned (c2.lanes l) (Worker worker) l) flies ∙ owned_here (c2.lanes l) (Worker worker) l f (owns (Worker worker) l f.phase (ap (owner l) runs)) in
    let b = owned_back (c.lanes l) (Worker worker) l (c.calls l) (owned_call (c2.lanes l) f) (sym (ap (λ (x : Hold). x.owned l) same) ∙ own) in
    p l b.0 b.1 (runs_on worker l b.0.phase b.3)

-- ---- the result of a run

has_all : (c : Core) (lane : ℕ) (f : Flight) → HasGathered f → HasAll (seen_call c.names c.places (contents c.blocks) f) (owned_call (c.lanes lane) f)
has_all c lane f all = λ i l w.
    let t : nat_lt i f.claim.reach.pages ≡ true = grind (arith, nat_tests) in
    ap (λ (b : Bool). is_some {T = Page} (if b then f.gathered i else None)) t ∙ all i l w

outcome_kept : (c c2 : Core) (a : Actor) (lane : ℕ) (f : Flight) → Coherent c → Coherent c2 → hold c2 a ≡ hold c a → c.calls lane ≡ Some f → owner lane f.phase ≡ Some a → HasGathered f → outcome_of (plain c2) f.claim.request.call ≡ outcome_of (plain c) f.claim.request.call
outcome_kept c c2 a lane f h h2 same flies mine all =
    let t = owns a lane f.phase mine in
    let seen = seen_call c.names c.places (contents c.blocks) f in
    let owned = owned_call (c.lanes lane) f in
    let s : (hold c a).seen lane ≡ Some seen = seen_here c.names c.places (contents c.blocks) a lane (c.calls lane) f flies t in
    let o : (hold c a).owned lane ≡ Some owned = ap (call_owned (c.lanes lane) a lane) flies ∙ owned_here (c.lanes lane) a lane f t in
    let has = has_all c lane f all in
    owned_outcome c2 a lane seen owned h2 (ap (λ (x : Hold). x.seen lane) same ∙ s) (ap (λ (x : Hold). x.owned lane) same ∙ o) has
    ∙ sym (owned_outcome c a lane seen owned h s o has)

reported_with : Bool → Outcome → Phase
reported_with mark x = Reported (if mark then None else Some x)

-- what a worker reports is known before its turn
pub result_kept : (c c2 : Core) (worker lane : ℕ) → Coherent c → Coherent c2 → hold c2 (Worker worker) ≡ hold c (Worker worker) → MayReport c worker lane → result_of c2 lane ≡ result_of c lane
unfolding reported_with
result_kept c c2 worker lane h h2 same p = by (c.lanes lane).mark refl
  where
    mine : owner lane p.call.phase ≡ Some (Worker worker)
    mine = ap (owner lane) p.runs

    g : Again c c2 (Worker worker) lane p.call
    g = again c c2 (Worker worker) lane p.call same p.flies mine

    x : Outcome
    x = outcome_of (plain c) (flight_at c.calls lane).claim.request.call

    y : Outcome
    y = outcome_of (plain c2) (flight_at c2.calls lane).claim.request.call

    by : (t : Bool) → (c.lanes lane).mark ≡ t → result_of c2 lane ≡ result_of c lane
    by true e = ap (λ (b : Bool). reported_with b y) (g.mark ∙ e) ∙ sym (ap (λ (b : Bool). reported_with b x) e)
    by false e =
        let z : y ≡ x
        = ap (λ (w : Flight). outcome_of (plain c2) w.claim.request.call) (at_flight c2.calls lane g.call g.flies)
        ∙ (ap (λ (w : Claim). outcome_of (plain c2) w.request.call) g.same.claim
        ∙ (outcome_kept c c2 (Worker worker) lane p.call h h2 same p.flies mine (p.all e)
        ∙ sym (ap (λ (w : Flight). outcome_of (plain c) w.claim.request.call) (at_flight c.calls lane p.call p.flies)))) in
        ap (λ (b : Bool). reported_with b y) (g.mark ∙ e) ∙ (ap (reported_with false) z ∙ sym (ap (λ (b : Bool). reported_with b x) e))

-- a job that suits the call in its span suits it again
pub suits_again : {J : Type 0} (suits : J → JobView → Type 0) (job : J) (c c2 : Core) (a : Actor) (lane : ℕ) (f : Flight) (p q : Phase) → Again c c2 a lane f → c.calls lane ≡ Some f → q ≡ p → SuitsInSpan suits job (view_of c.names (flight_in c lane p)) → suits job (view_of c2.names (flight_in c2 lane q))
suits_again suits job c c2 a lane f p q g flies e still =
    let here = at_flight c.calls lane f flies in
    let there = at_flight c2.calls lane g.call g.flies in
    still (view_of c2.names (flight_in c2 lane q))
    (subst (λ (z : Flight × Flight × Phase). IsToldSame (view_of c.names (record z.0 { phase = p })) (view_of c2.names (record z.1 { phase = z.2 }))) (λ i. (sym here i, sym there i, sym e i)) (told_again c c2 a lane f g p))

-- ---- closing

no_call : (c : Core) (lane : ℕ) (o : Option Flight) → Coherent c → ((l : ℕ) → l < c.shape.lanes → (c.lanes l).stage ≡ Gone) → c.calls lane ≡ o → o ≡ None
no_call c lane None h left e = refl
no_call c lane (Some f) h left e = let t = h.dies.in_turn lane f e in let z = left lane t.0 in let y = t.1 in absurd (cc)

-- where every lane has left, no call is in flight
pub closes : (c : Core) → Coherent c → ((l : ℕ) → l < c.shape.lanes → (c.lanes l).stage ≡ Gone) → IsClosing c
closes c h left = record { left = left; none = λ l. no_call c l (c.calls l) h left refl }
