-- A lane gets its mark where a read or write of a die fails, and not else.
use Rattle.std.proofs.Common.{◌≡◌, ℕ, ◌+◌, ◌<◌, ◌≤◌, Bool, true, false, List, [], ◌∷◌, ◌++◌, Option, Some, None, refl, sym, ap, ◌∙◌, subst, append_assoc, arith}
use Rattle.std.specs.Prelude.{◌||◌, not}
use Rattle.std.specs.declared.snapshot.Snapshot.{Snapshot}
use mathlib.Core.List.{map-append}
use Rattle.turn_cell.specs.declared.book.Entry.{Entry}
use Rattle.turn_cell.specs.declared.view.View.{View}
use Rattle.turn_cell.specs.Events.{events_of}
use Rattle.turn_cell.specs.History.{StartsWith}
use Rattle.index_lists.specs.Words.{put, one_if}
use Rattle.index_lists.proofs.Puts.{put-each}
use Rattle.core_state.specs.declared.actor.Actor.{Actor}
use Rattle.core_state.specs.declared.actor.Actor.TheVariants.{Lane, Worker, Flusher, Closer}
use Rattle.core_state.specs.declared.event.Event.{Event}
use Rattle.core_state.specs.declared.event.Event.TheVariants.{Enter, Leave, Quick, Skip, Begin, Copy, Take, DieOut, FillIn, Submit, Fetch, Report, End, Evict, Demote, FlushOut, FlushIn, MetaIn}
use Rattle.core_state.specs.declared.event.Purpose.TheVariants.{Fill, Meta}
use Rattle.core_state.specs.State.{LaneState, Inside, Gone, Errand, ToFill, ToFlush, ToMeta, Out, Core}
use Rattle.core_state.specs.PageEvents.{flight_at}
use Rattle.core_state.specs.DieEvents.{marked_if, marked_by, filled_on, filled_by, flushed_on, flushed_by, stored_on, stored_by}
use Rattle.core_state.specs.LaneEvents.{replied}
use Rattle.core_state.specs.Happens.{CoreRun, after, after_all}
use Rattle.core_state.specs.History.{is_failure, failures}
use Rattle.core_history.proofs.Faults.{ended_lanes}
use Rattle.desk_turns.specs.Passing.{core_after, core_seen}
use Rattle.desk_turns.proofs.Holding.{run_split}
use Rattle.call_finishes.specs.Finishing.{SawFailure}

-- ---- one event

abbrev Unmarked : (ℕ → LaneState) → ℕ → Type 0
Unmarked lanes lane = (lanes lane).mark ≡ false

put_mark : (lanes : ℕ → LaneState) (at : ℕ) (x : LaneState) (lane : ℕ) → ((lanes at).mark ≡ false → x.mark ≡ false) → Unmarked lanes lane → Unmarked (put lanes at x) lane
put_mark lanes at x lane here m = put-each (λ (l : ℕ) (w : LaneState). (lanes l).mark ≡ false → w.mark ≡ false) lanes at x here (λ l n e. e) lane m

or_false : (a b : Bool) → b ≡ false → a ≡ false → (a || b) ≡ false
or_false true b f e = absurd (cc)
or_false false b f e = f

good_mark : (lanes : ℕ → LaneState) (at : ℕ) (good : Bool) (lane : ℕ) → not good ≡ false → Unmarked lanes lane → Unmarked (put lanes at (marked_if (not good) (lanes at))) lane
good_mark lanes at good lane f m = put_mark lanes at (marked_if (not good) (lanes at)) lane (or_false (lanes at).mark (not good) f) m

good_by : (lanes : ℕ → LaneState) (actor : Actor) (good : Bool) (lane : ℕ) → not good ≡ false → Unmarked lanes lane → Unmarked (marked_by actor (not good) lanes) lane
good_by lanes (Lane l) good lane f m = good_mark lanes l good lane f m
good_by lanes (Worker w) good lane f m = m
good_by lanes (Flusher n) good lane f m = m
good_by lanes Closer good lane f m = m

unmarked : (e : Event) (c : Core) (lane : ℕ) → is_failure e ≡ false → Unmarked c.lanes lane → Unmarked (after c e).lanes lane
unmarked (Enter l) c lane f m = put_mark c.lanes l (record (c.lanes l) { stage = Inside }) lane (λ e. e) m
unmarked (Leave l) c lane f m = put_mark c.lanes l (record (c.lanes l) { stage = Gone }) lane (λ e. e) m
unmarked (Quick l request reply) c lane f m = put_mark c.lanes l (replied (c.lanes l)) lane (λ e. refl) m
unmarked (Skip l request fault) c lane f m = put_mark c.lanes l (replied (c.lanes l)) lane (λ e. refl) m
unmarked (Begin l request side) c lane f m = m
unmarked (Copy actor l i) c lane f m = m
unmarked (Take actor l i) c lane f m = m
unmarked (DieOut actor die (Fill l i)) c lane f m = m
unmarked (DieOut actor die (Meta page bytes)) c lane f m = m
unmarked (FillIn actor die good) c lane f m = go (c.dies die).out
  where
    on : (errand : Errand) → Unmarked (filled_on c die good errand).lanes lane
    on (ToFill l i) = good_mark c.lanes l good lane f m
    on (ToFlush b v p) = m
    on (ToMeta n bytes) = m

    go : (o : Option Out) → Unmarked (filled_by c die good o).lanes lane
    go None = m
    go (Some out) = on out.errand
unmarked (Submit l) c lane f m = m
unmarked (Fetch worker l) c lane f m = m
unmarked (Report worker l) c lane f m = m
unmarked (End l request reply) c lane f m =
    subst (λ (ls : ℕ → LaneState). Unmarked ls lane) (sym (ended_lanes c l (flight_at c.calls l) reply)) (put_mark c.lanes l (replied (c.lanes l)) lane (λ e. refl) m)
unmarked (Evict actor side block) c lane f m = m
unmarked (Demote actor block) c lane f m = m
unmarked (FlushOut actor die block) c lane f m = m
unmarked (FlushIn actor die good left) c lane f m = go (c.dies die).out
  where
    on : (errand : Errand) → Unmarked (flushed_on c actor die good left errand).lanes lane
    on (ToFill l i) = m
    on (ToFlush b v p) = good_by c.lanes actor good lane f m
    on (ToMeta n bytes) = m

    go : (o : Option Out) → Unmarked (flushed_by c actor die good left o).lanes lane
    go None = m
    go (Some out) = on out.errand
unmarked (MetaIn actor die good left) c lane f m = go (c.dies die).out
  where
    on : (errand : Errand) → Unmarked (stored_on c actor die good left errand).lanes lane
    on (ToFill l i) = m
    on (ToFlush b v p) = m
    on (ToMeta n bytes) = good_by c.lanes actor good lane f m

    go : (o : Option Out) → Unmarked (stored_by c actor die good left o).lanes lane
    go None = m
    go (Some out) = on out.errand

-- ---- runs

rose : (es : List Event) (c d : Core) (lane : ℕ) → CoreRun c es d → Unmarked c.lanes lane → (d.lanes lane).mark ≡ true → 1 ≤ failures es
rose [] c d lane r m k = absurd (let z = ap (λ (x : Core). (x.lanes lane).mark) r in cc)
rose (e ∷ es) c d lane r m k = go (is_failure e) refl (λ f. rose es (after c e) d lane r.1 (unmarked e c lane f m) k)
  where
    go : (t : Bool) → is_failure e ≡ t → (is_failure e ≡ false → 1 ≤ failures es) → 1 ≤ one_if (is_failure e) + failures es
    go true f rest = let z = ap one_if f in omega arith
    go false f rest = let z = rest f in omega arith

failures_on : (es fs : List Event) → failures (es ++ fs) ≡ failures es + failures fs
failures_on [] fs = omega arith
failures_on (e ∷ es) fs = let z = failures_on es fs in omega arith

events_on : (h k : List (Entry Event)) → failures (events_of (h ++ k)) ≡ failures (events_of h) + failures (events_of k)
events_on h k = ap failures (map-append (λ (z : Entry Event). z.event) h k) ∙ failures_on (events_of h) (events_of k)

module _ {S : Type 0} (core : S → Core) where
  -- a lane without a mark has one later, so a die has failed meanwhile
  pub saw_failure : (o : Snapshot S) (v w : View (Snapshot S) Event) (lane : ℕ) (before : List (Entry Event)) → StartsWith before v.seen → StartsWith w.seen before → CoreRun (core o.value) (events_of before) (core_after core o before) →
      ((core_seen core o v).lanes lane).mark ≡ false → ((core_after core o before).lanes lane).mark ≡ true → SawFailure v w
  saw_failure o v w lane before since until run clear marked =
      let rest = since.0 in
      let events : events_of before ≡ events_of v.seen ++ events_of rest = ap events_of since.1 ∙ map-append (λ (z : Entry Event). z.event) v.seen rest in
      let r = run_split (events_of v.seen) (events_of rest) (core o.value) (core_after core o before) (subst (λ (z : List Event). CoreRun (core o.value) z (core_after core o before)) events run) in
      let k = rose (events_of rest) (core_seen core o v) (core_after core o before) lane r.1 clear marked in
      let a = ap failures events ∙ failures_on (events_of v.seen) (events_of rest) in
      let b : failures (events_of w.seen) ≡ failures (events_of before) + failures (events_of until.0) = ap (λ h. failures (events_of h)) until.1 ∙ events_on before until.0 in
      omega arith

-- and it has been since an earlier view
pub saw_since : {S : Type 0} (v u w : View (Snapshot S) Event) → StartsWith u.seen v.seen → SawFailure u w → SawFailure v w
saw_since v u w since saw =
    let a : failures (events_of u.seen) ≡ failures (events_of v.seen) + failures (events_of since.0) = ap (λ h. failures (events_of h)) since.1 ∙ events_on v.seen since.0 in
    omega arith
