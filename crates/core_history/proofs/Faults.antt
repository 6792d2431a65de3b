-- Each `fault` has its failed die.
use Rattle.std.proofs.Common.{◌≡◌, ℕ, ◌+◌, ◌≤◌, Bool, true, false, List, [], ◌∷◌, length, Option, Some, None, refl, sym, ap, ◌∙◌, subst, inl, inr, ⊎_elim, arith}
use Rattle.std.specs.Prelude.{◌⊎◌, ◌||◌, not, if◌then◌else◌}
use Rattle.index_lists.specs.Words.{put, one_if, count, without}
use Rattle.index_lists.proofs.Counts.{count-here, count-tail, count-without_other, length-without}
use Rattle.index_lists.proofs.Puts.{put-each}
use Rattle.plain_files.specs.declared.calls.Call.{Call}
use Rattle.plain_files.specs.declared.calls.Reply.{Reply}
use Rattle.plain_files.specs.History.{Entry, is_fault}
use Rattle.plain_files.specs.Plain.{State, answer}
use Rattle.core_lanes.specs.Actor.{Actor}
use Rattle.core_lanes.specs.Actor.TheVariants.{Lane, Worker, Flusher, Closer}
use Rattle.core_lanes.specs.Event.{Event}
use Rattle.core_lanes.specs.Event.TheVariants.{Enter, Leave, Quick, Skip, Begin, Copy, Take, DieOut, FillIn, Submit, Fetch, Report, End, Evict, Demote, FlushOut, FlushIn, MetaIn}
use Rattle.core_lanes.specs.Purpose.TheVariants.{Fill, Meta}
use Rattle.core_lanes.specs.State.{LaneState, Inside, Gone, File, Flight, Errand, ToFill, ToFlush, ToMeta, Out, Core}
use Rattle.core_lanes.specs.Reach.{file_for}
use Rattle.core_lanes.specs.PlainOf.{plain}
use Rattle.core_lanes.specs.Resizing.{follows}
use Rattle.core_lanes.specs.PageEvents.{flight_at}
use Rattle.core_lanes.specs.DieEvents.{marked_if, marked_by, filled_on, filled_by, flushed_on, flushed_by, stored_on, stored_by}
use Rattle.core_lanes.specs.LaneEvents.{replied}
use Rattle.core_lanes.specs.EndEvent.{has_changed, ended_of, ended_storing, ended_plainly, ended_by_fault, MayEnd}
use Rattle.core_lanes.specs.Happens.{Happens, CoreRun, after}
use Rattle.core_lanes.specs.History.{entry_of, and_then, calls_of, is_failure, failures, faults}
use Rattle.core_history.proofs.Replies.{answer_other}

-- the list has each lane with a mark
abbrev Covers : List ℕ → (ℕ → LaneState) → Type 0
Covers xs lanes = (l : ℕ) → (lanes l).mark ≡ true → 1 ≤ count l xs

abbrev fault_in : Option Entry → ℕ
fault_in None = 0
fault_in (Some e) = one_if (is_fault e.reply)

-- a list for the lanes after an event
record Counted (xs : List ℕ) (lanes : ℕ → LaneState) (new failed : ℕ) : Type 0 where
  ys : List ℕ
  covers : Covers ys lanes
  less : new + length ys ≤ length xs + failed

stays : (xs : List ℕ) (lanes : ℕ → LaneState) (failed : ℕ) → Covers xs lanes → Counted xs lanes 0 failed
stays xs lanes failed h = record { ys = xs; covers = h; less = omega arith }

-- a lane is put in a place where its mark is no new one
kept : (xs : List ℕ) (lanes : ℕ → LaneState) (lane : ℕ) (x : LaneState) (failed : ℕ) → (x.mark ≡ true → (lanes lane).mark ≡ true) → Covers xs lanes → Counted xs (put lanes lane x) 0 failed
kept xs lanes lane x failed less h = record { ys = xs; covers = put-each (λ (l : ℕ) (w : LaneState). w.mark ≡ true → 1 ≤ count l xs) lanes lane x (λ e. h lane (less e)) (λ l n e. h l e); less = omega arith }

marked : (xs : List ℕ) (lanes : ℕ → LaneState) (lane : ℕ) (failed : Bool) → Covers xs lanes → Counted xs (put lanes lane (marked_if failed (lanes lane))) 0 (one_if failed)
marked xs lanes lane true h = record {
  ys = lane ∷ xs;
  covers = put-each (λ (l : ℕ) (w : LaneState). w.mark ≡ true → 1 ≤ count l (lane ∷ xs)) lanes lane (marked_if true (lanes lane))
      (λ e. omega (arith, count-here lane xs)) (λ l n e. let k = h l e in omega (arith, count-tail l lane xs));
  less = omega arith;
}
marked xs lanes lane false h = kept xs lanes lane (marked_if false (lanes lane)) 0 (same (lanes lane).mark) h
  where
    same : (m : Bool) → (m || false) ≡ true → m ≡ true
    same true e = refl
    same false e = e

marked_for : (xs : List ℕ) (lanes : ℕ → LaneState) (actor : Actor) (failed : Bool) → Covers xs lanes → Counted xs (marked_by actor failed lanes) 0 (one_if failed)
marked_for xs lanes (Lane l) failed h = marked xs lanes l failed h
marked_for xs lanes (Worker w) failed h = stays xs lanes (one_if failed) h
marked_for xs lanes (Flusher f) failed h = stays xs lanes (one_if failed) h
marked_for xs lanes Closer failed h = stays xs lanes (one_if failed) h

-- a reply clears the lane's mark
cleared : (xs : List ℕ) (lanes : ℕ → LaneState) (lane new : ℕ) → (new ≡ 0) ⊎ ((new ≡ 1) × ((lanes lane).mark ≡ true)) → Covers xs lanes → Counted xs (put lanes lane (replied (lanes lane))) new 0
cleared xs lanes lane new z h = record {
  ys = without lane xs;
  covers = put-each (λ (l : ℕ) (w : LaneState). w.mark ≡ true → 1 ≤ count l (without lane xs)) lanes lane (replied (lanes lane))
      (λ e. absurd (cc)) (λ l n e. let m = h l e in omega (arith, count-without_other l lane xs n));
  less = ⊎_elim (λ e. omega (arith, length-without lane xs)) (λ e. let m = h lane e.1 in let n = e.0 in omega (arith, length-without lane xs)) z;
}

answered : (r : Reply) (s : State) (call : Call) → r ≡ (answer s call).reply → one_if (is_fault r) ≡ 0
answered r s call e = ap (λ (q : Reply). one_if (is_fault q)) e ∙ ap one_if (answer_other s call)

pub followed : (c : Core) (found : Option File) (s : State) → (follows c found s).lanes ≡ c.lanes
followed c None s = refl
followed c (Some f) s = refl

-- the lanes after an End
pub ended_lanes : (c : Core) (lane : ℕ) (call : Flight) (reply : Reply) → (ended_of c lane call reply).lanes ≡ put c.lanes lane (replied (c.lanes lane))
ended_lanes c lane call reply = go (c.lanes lane).mark (has_changed call reply)
  where
    go : (t u : Bool) → (if t then ended_by_fault c lane call else (if u then ended_storing c lane call else ended_plainly c lane call)).lanes ≡ put c.lanes lane (replied (c.lanes lane))
    go true u = refl
    go false true = ap (λ (lanes : ℕ → LaneState). put lanes lane (replied (lanes lane))) (followed c (file_for c.names.files call.claim.request.call) (answer (plain c) call.claim.request.call).state)
    go false false = refl

event_counted : (e : Event) (c : Core) (xs : List ℕ) → Covers xs c.lanes → Happens c e (after c e) → Counted xs (after c e).lanes (fault_in (entry_of e)) (one_if (is_failure e))
event_counted (Enter lane) c xs h s = kept xs c.lanes lane (record (c.lanes lane) { stage = Inside }) 0 (λ e. e) h
event_counted (Leave lane) c xs h s = kept xs c.lanes lane (record (c.lanes lane) { stage = Gone }) 0 (λ e. e) h
event_counted (Quick lane request reply) c xs h s = cleared xs c.lanes lane (one_if (is_fault reply)) (inl (answered reply (plain c) request.call s.may.reply_is)) h
event_counted (Skip lane request fault) c xs h s = go fault s.may.marked
  where
    go : (t : Bool) → (t ≡ true → (c.lanes lane).mark ≡ true) → Counted xs (put c.lanes lane (replied (c.lanes lane))) (fault_in (entry_of (Skip lane request t))) 0
    go true m = cleared xs c.lanes lane 1 (inr (refl, m refl)) h
    go false m = cleared xs c.lanes lane 0 (inl refl) h
event_counted (Begin lane request side) c xs h s = stays xs c.lanes 0 h
event_counted (Copy actor lane i) c xs h s = stays xs c.lanes 0 h
event_counted (Take actor lane i) c xs h s = stays xs c.lanes 0 h
event_counted (DieOut actor die (Fill lane i)) c xs h s = stays xs c.lanes 0 h
event_counted (DieOut actor die (Meta page bytes)) c xs h s = stays xs c.lanes 0 h
event_counted (FillIn actor die good) c xs h s = go (c.dies die).out
  where
    on : (errand : Errand) → Counted xs (filled_on c die good errand).lanes 0 (one_if (not good))
    on (ToFill lane i) = marked xs c.lanes lane (not good) h
    on (ToFlush b v p) = stays xs c.lanes (one_if (not good)) h
    on (ToMeta n bytes) = stays xs c.lanes (one_if (not good)) h

    go : (o : Option Out) → Counted xs (filled_by c die good o).lanes 0 (one_if (not good))
    go None = stays xs c.lanes (one_if (not good)) h
    go (Some out) = on out.errand
event_counted (Submit lane) c xs h s = stays xs c.lanes 0 h
event_counted (Fetch worker lane) c xs h s = stays xs c.lanes 0 h
event_counted (Report worker lane) c xs h s = stays xs c.lanes 0 h
event_counted (End lane request reply) c xs h s =
    let may = s.may in
    subst (λ (ls : ℕ → LaneState). Counted xs ls (one_if (is_fault reply)) 0) (sym (ended_lanes c lane (flight_at c.calls lane) reply))
    (cleared xs c.lanes lane (one_if (is_fault reply)) (by_mark (c.lanes lane).mark refl may) h)
  where
    by_mark : (m : Bool) → (c.lanes lane).mark ≡ m → MayEnd c lane request reply → (one_if (is_fault reply) ≡ 0) ⊎ ((one_if (is_fault reply) ≡ 1) × ((c.lanes lane).mark ≡ true))
    by_mark true e may = inr (ap (λ (r : Reply). one_if (is_fault r)) (may.marked e), e)
    by_mark false e may = inl (answered reply (plain c) may.call.claim.request.call (may.unmarked e).reply_is)
event_counted (Evict actor side block) c xs h s = stays xs c.lanes 0 h
event_counted (Demote actor block) c xs h s = stays xs c.lanes 0 h
event_counted (FlushOut actor die block) c xs h s = stays xs c.lanes 0 h
event_counted (FlushIn actor die good left) c xs h s = go (c.dies die).out
  where
    on : (errand : Errand) → Counted xs (flushed_on c actor die good left errand).lanes 0 (one_if (not good))
    on (ToFill lane i) = stays xs c.lanes (one_if (not good)) h
    on (ToFlush b v p) = marked_for xs c.lanes actor (not good) h
    on (ToMeta n bytes) = stays xs c.lanes (one_if (not good)) h

    go : (o : Option Out) → Counted xs (flushed_by c actor die good left o).lanes 0 (one_if (not good))
    go None = stays xs c.lanes (one_if (not good)) h
    go (Some out) = on out.errand
event_counted (MetaIn actor die good left) c xs h s = go (c.dies die).out
  where
    on : (errand : Errand) → Counted xs (stored_on c actor die good left errand).lanes 0 (one_if (not good))
    on (ToFill lane i) = stays xs c.lanes (one_if (not good)) h
    on (ToFlush b v p) = stays xs c.lanes (one_if (not good)) h
    on (ToMeta n bytes) = marked_for xs c.lanes actor (not good) h

    go : (o : Option Out) → Counted xs (stored_by c actor die good left o).lanes 0 (one_if (not good))
    go None = stays xs c.lanes (one_if (not good)) h
    go (Some out) = on out.errand

faults_and : (o : Option Entry) (h : List Entry) → faults (and_then o h) ≡ fault_in o + faults h
faults_and None h = omega arith
faults_and (Some e) h = refl

run_counted : (events : List Event) (c0 c1 : Core) (xs : List ℕ) → Covers xs c0.lanes → CoreRun c0 events c1 → faults (calls_of events) ≤ failures events + length xs
run_counted [] c0 c1 xs h s = omega arith
run_counted (e ∷ es) c0 c1 xs h s =
    let k = event_counted e c0 xs h s.0 in
    let r = run_counted es (after c0 e) c1 k.ys k.covers s.1 in
    let l = k.less in
    omega (arith, faults_and (entry_of e) (calls_of es))

pub run_faults : (c0 c1 : Core) (events : List Event) → ((lane : ℕ) → (c0.lanes lane).mark ≡ false) → CoreRun c0 events c1 → faults (calls_of events) ≤ failures events
run_faults c0 c1 events none s = let r = run_counted events c0 c1 [] (λ l e. let k = none l in absurd (cc)) s in omega arith
