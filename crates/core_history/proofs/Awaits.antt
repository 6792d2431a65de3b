-- A call that ends stands behind those that it awaits.
use Rattle.std.proofs.Common.{◌≡◌, ℕ, ◌+◌, ◌≤◌, Bool, true, false, List, [], ◌∷◌, ◌++◌, length, Option, Some, None, refl, sym, ap, ◌∙◌, subst, arith}
use Rattle.std.specs.Prelude.{◌==◌, not, if◌then◌else◌, IfSome, unwrap_or}
use Rattle.std.proofs.lemmas.Bool.Decides.{nat_tests}
use Rattle.index_lists.specs.Words.{put, one_if}
use Rattle.index_lists.proofs.Puts.{put-each, put-some}
use Rattle.plain_files.specs.declared.calls.Request.{Request}
use Rattle.plain_files.specs.declared.calls.Reply.{Reply}
use Rattle.plain_files.specs.History.{Entry, calls_in}
use Rattle.plain_files.specs.Plain.{State, answer}
use Rattle.core_lanes.specs.Actor.{Actor}
use Rattle.core_lanes.specs.Actor.TheVariants.{Lane, Worker, Flusher, Closer}
use Rattle.core_lanes.specs.Event.{Event}
use Rattle.core_lanes.specs.Event.TheVariants.{Enter, Leave, Quick, Skip, Begin, Copy, Take, DieOut, FillIn, Submit, Fetch, Report, End, Evict, Demote, FlushOut, FlushIn, MetaIn}
use Rattle.core_lanes.specs.Purpose.TheVariants.{Fill, Meta}
use Rattle.core_lanes.specs.State.{Claim, NoFrame, OnLoan, LaneState, Mode, Shared, Exclusive, Inside, Gone, File, Flight, Errand, ToFill, ToFlush, ToMeta, Out, Core}
use Rattle.core_lanes.specs.Contents.{span_block}
use Rattle.core_lanes.specs.Reach.{by_mode, file_for}
use Rattle.core_lanes.specs.PlainOf.{plain}
use Rattle.core_lanes.specs.Resizing.{follows}
use Rattle.core_lanes.specs.PageEvents.{no_flight, flight_at, with_gathered}
use Rattle.core_lanes.specs.DieEvents.{marked_if, marked_by, counted, counted_by, filled_of, filled_on, filled_by, flushed_on, flushed_by, stored_on, stored_by}
use Rattle.core_lanes.specs.LaneEvents.{HasAwaited, replied}
use Rattle.core_lanes.specs.EndEvent.{has_changed, ended_of, ended_storing, ended_plainly, ended_by_fault}
use Rattle.core_lanes.specs.Happens.{Happens, CoreRun, after}
use Rattle.core_lanes.specs.History.{entry_of, and_then, calls_of, request_of, AreAwaited}
use Rattle.core_lanes.proofs.Phases.{flight_is}
use Rattle.core_history.proofs.Faults.{ended_lanes}

-- ---- what is counted

-- how many calls each lane has ended, and that each call in flight stands behind what it awaits
record IsCounted (c : Core) (h : List Entry) : Type 0 where
  ended : (lane : ℕ) → (c.lanes lane).ended ≡ length (calls_in lane h)
  awaited : (lane : ℕ) (call : Flight) → c.calls lane ≡ Some call → HasAwaited c.lanes call.claim.request

abbrev AllAwaited : (ℕ → LaneState) → (ℕ → Option Flight) → Type 0
AllAwaited lanes calls = (lane : ℕ) (call : Flight) → calls lane ≡ Some call → HasAwaited lanes call.claim.request

-- where no lane has ended fewer calls
rises_awaited : (lanes lanes2 : ℕ → LaneState) → ((l : ℕ) → (lanes l).ended ≤ (lanes2 l).ended) → (request : Request) → HasAwaited lanes request → HasAwaited lanes2 request
rises_awaited lanes lanes2 more request h = go request.awaits h
  where
    go : (o : Option (ℕ × ℕ)) → IfSome o (λ awaited. awaited.1 ≤ (lanes awaited.0).ended) → IfSome o (λ awaited. awaited.1 ≤ (lanes2 awaited.0).ended)
    go None h = tt
    go (Some w) h = let k = more w.0 in omega arith

flight_awaited : (lanes : ℕ → LaneState) (calls : ℕ → Option Flight) (lane : ℕ) → AllAwaited lanes calls → HasAwaited lanes (flight_at calls lane).claim.request
flight_awaited lanes calls lane h = go (calls lane) refl
  where
    go : (o : Option Flight) → calls lane ≡ o → HasAwaited lanes (flight_at calls lane).claim.request
    go None e = subst (λ (f : Flight). HasAwaited lanes f.claim.request) (sym (ap (λ (o : Option Flight). unwrap_or o no_flight) e)) tt
    go (Some call) e = subst (λ (f : Flight). HasAwaited lanes f.claim.request) (sym (flight_is calls lane call e)) (h lane call e)

put_awaited : (lanes : ℕ → LaneState) (calls : ℕ → Option Flight) (lane : ℕ) (call : Flight) → HasAwaited lanes call.claim.request → AllAwaited lanes calls → AllAwaited lanes (put calls lane (Some call))
put_awaited lanes calls lane call new h = put-some (λ (l : ℕ) (x : Flight). HasAwaited lanes x.claim.request) calls lane call new (λ l x d f. h l x f)

gone_awaited : (lanes : ℕ → LaneState) (calls : ℕ → Option Flight) (lane : ℕ) → AllAwaited lanes calls → AllAwaited lanes (put calls lane None)
gone_awaited lanes calls lane h = put-each (λ (l : ℕ) (o : Option Flight). (x : Flight) → o ≡ Some x → HasAwaited lanes x.claim.request) calls lane None (λ x e. absurd (cc)) (λ l d x e. h l x e)

-- ---- how lanes move

-- the lanes after an event: their counts are as they were, but that of the lane whose call it ends
abbrev more_of : ℕ → Option Entry → ℕ
more_of lane None = 0
more_of lane (Some e) = one_if (e.lane == lane)

same_ended : (lanes : ℕ → LaneState) (lane : ℕ) (x : LaneState) → x.ended ≡ (lanes lane).ended → (l : ℕ) → (put lanes lane x l).ended ≡ (lanes l).ended
same_ended lanes lane x e = put-each (λ (l : ℕ) (s : LaneState). s.ended ≡ (lanes l).ended) lanes lane x e (λ l d. refl)

zero_more : (n m : ℕ) → n ≡ m → n ≡ m + 0
zero_more n m e = omega arith

replied_ended : (lanes : ℕ → LaneState) (lane : ℕ) (l : ℕ) → (put lanes lane (replied (lanes lane)) l).ended ≡ (lanes l).ended + one_if (lane == l)
replied_ended lanes lane = put-each (λ (l : ℕ) (s : LaneState). s.ended ≡ (lanes l).ended + one_if (lane == l)) lanes lane (replied (lanes lane))
    (let k : (lane == lane) ≡ true = grind (arith, nat_tests) in let z = ap one_if k in omega arith)
    (λ l d. let k : (lane == l) ≡ false = grind (arith, nat_tests) in let z = ap one_if k in omega arith)

marked_ended : (actor : Actor) (failed : Bool) (lanes : ℕ → LaneState) (l : ℕ) → (marked_by actor failed lanes l).ended ≡ (lanes l).ended
marked_ended (Lane k) failed lanes l = same_ended lanes k (marked_if failed (lanes k)) refl l
marked_ended (Worker w) failed lanes l = refl
marked_ended (Flusher f) failed lanes l = refl
marked_ended Closer failed lanes l = refl

event_ends : (e : Event) (c : Core) (l : ℕ) → ((after c e).lanes l).ended ≡ (c.lanes l).ended + more_of l (entry_of e)
event_ends (Enter lane) c l = zero_more _ _ (same_ended c.lanes lane (record (c.lanes lane) { stage = Inside }) refl l)
event_ends (Leave lane) c l = zero_more _ _ (same_ended c.lanes lane (record (c.lanes lane) { stage = Gone }) refl l)
event_ends (Quick lane request reply) c l = replied_ended c.lanes lane l
event_ends (Skip lane request fault) c l = replied_ended c.lanes lane l
event_ends (Begin lane request side) c l = zero_more _ _ refl
event_ends (Copy actor lane i) c l = zero_more _ _ refl
event_ends (Take actor lane i) c l = zero_more _ _ refl
event_ends (DieOut actor die (Fill lane i)) c l = zero_more _ _ refl
event_ends (DieOut actor die (Meta page bytes)) c l = zero_more _ _ refl
event_ends (FillIn actor die good) c l = zero_more _ _ (go (c.dies die).out)
  where
    on : (errand : Errand) → ((filled_on c die good errand).lanes l).ended ≡ (c.lanes l).ended
    on (ToFill lane i) = same_ended c.lanes lane (marked_if (not good) (c.lanes lane)) refl l
    on (ToFlush b v p) = refl
    on (ToMeta n bytes) = refl

    go : (o : Option Out) → ((filled_by c die good o).lanes l).ended ≡ (c.lanes l).ended
    go None = refl
    go (Some out) = on out.errand
event_ends (Submit lane) c l = zero_more _ _ refl
event_ends (Fetch worker lane) c l = zero_more _ _ refl
event_ends (Report worker lane) c l = zero_more _ _ refl
event_ends (End lane request reply) c l = ap (λ (lanes : ℕ → LaneState). (lanes l).ended) (ended_lanes c lane (flight_at c.calls lane) reply) ∙ replied_ended c.lanes lane l
event_ends (Evict actor side block) c l = zero_more _ _ refl
event_ends (Demote actor block) c l = zero_more _ _ refl
event_ends (FlushOut actor die block) c l = zero_more _ _ refl
event_ends (FlushIn actor die good left) c l = zero_more _ _ (go (c.dies die).out)
  where
    on : (errand : Errand) → ((flushed_on c actor die good left errand).lanes l).ended ≡ (c.lanes l).ended
    on (ToFill lane i) = refl
    on (ToFlush b v p) = marked_ended actor (not good) c.lanes l
    on (ToMeta n bytes) = refl

    go : (o : Option Out) → ((flushed_by c actor die good left o).lanes l).ended ≡ (c.lanes l).ended
    go None = refl
    go (Some out) = on out.errand
event_ends (MetaIn actor die good left) c l = zero_more _ _ (go (c.dies die).out)
  where
    on : (errand : Errand) → ((stored_on c actor die good left errand).lanes l).ended ≡ (c.lanes l).ended
    on (ToFill lane i) = refl
    on (ToFlush b v p) = refl
    on (ToMeta n bytes) = marked_ended actor (not good) c.lanes l

    go : (o : Option Out) → ((stored_by c actor die good left o).lanes l).ended ≡ (c.lanes l).ended
    go None = refl
    go (Some out) = on out.errand

-- ---- how calls move

-- the calls after an End
ended_calls : (c : Core) (lane : ℕ) (call : Flight) (reply : Reply) → (ended_of c lane call reply).calls ≡ put c.calls lane None
ended_calls c lane call reply = go (c.lanes lane).mark (has_changed call reply)
  where
    stay : (found : Option File) (s : State) → (follows c found s).calls ≡ c.calls
    stay None s = refl
    stay (Some f) s = refl

    go : (t u : Bool) → (if t then ended_by_fault c lane call else (if u then ended_storing c lane call else ended_plainly c lane call)).calls ≡ put c.calls lane None
    go true u = refl
    go false true = ap (λ (calls : ℕ → Option Flight). put calls lane None) (stay (file_for c.names.files call.claim.request.call) (answer (plain c) call.claim.request.call).state)
    go false false = refl

quick_calls : (c : Core) (found : Option File) (s : State) → (follows c found s).calls ≡ c.calls
quick_calls c None s = refl
quick_calls c (Some f) s = refl

counted_awaited : (lanes : ℕ → LaneState) (calls : ℕ → Option Flight) (actor : Actor) (good : Bool) → AllAwaited lanes calls → AllAwaited lanes (counted_by actor good calls)
counted_awaited lanes calls (Lane l) good h = put-each (λ (k : ℕ) (o : Option Flight). (x : Flight) → o ≡ Some x → HasAwaited lanes x.claim.request) calls l (counted good (calls l)) (go (calls l) refl) (λ k d x e. h k x e)
  where
    go : (o : Option Flight) → calls l ≡ o → (x : Flight) → counted good o ≡ Some x → HasAwaited lanes x.claim.request
    go None e x f = absurd (cc)
    go (Some call) e x f =
        let s : call.claim ≡ x.claim = cc in
        subst (λ (k : Claim). HasAwaited lanes k.request) s (h l call e)
counted_awaited lanes calls (Worker w) good h = h
counted_awaited lanes calls (Flusher f) good h = h
counted_awaited lanes calls Closer good h = h

-- each call after an event stands behind what it awaits, by the counts before
event_awaits : (e : Event) (c : Core) → Happens c e (after c e) → AllAwaited c.lanes c.calls → AllAwaited c.lanes (after c e).calls
event_awaits (Enter lane) c s h = h
event_awaits (Leave lane) c s h = h
event_awaits (Quick lane request reply) c s h = subst (AllAwaited c.lanes) (sym (quick_calls c (file_for c.names.files request.call) (answer (plain c) request.call).state)) h
event_awaits (Skip lane request fault) c s h = h
event_awaits (Begin lane request side) c s h = put_awaited c.lanes c.calls lane _ s.may.ready.awaited h
event_awaits (Copy actor lane i) c s h = put_awaited c.lanes c.calls lane _ (flight_awaited c.lanes c.calls lane h) h
event_awaits (Take actor lane i) c s h = put_awaited c.lanes c.calls lane _ (flight_awaited c.lanes c.calls lane h) h
event_awaits (DieOut actor die (Fill lane i)) c s h = h
event_awaits (DieOut actor die (Meta page bytes)) c s h = h
event_awaits (FillIn actor die good) c s h = go (c.dies die).out
  where
    mode_claim : (m : Mode) (call : Flight) (i : ℕ) (page : List ℕ) → HasAwaited c.lanes call.claim.request → HasAwaited c.lanes (by_mode m (record call { frame = put call.frame i NoFrame }) (with_gathered call i page OnLoan)).claim.request
    mode_claim Shared call i page w = w
    mode_claim Exclusive call i page w = w

    if_good : (t : Bool) (lane i : ℕ) (call : Flight) (at : Option ℕ) → HasAwaited c.lanes call.claim.request → AllAwaited c.lanes (filled_of c die t lane i call at).calls
    if_good true lane i call at w = put_awaited c.lanes c.calls lane _ (mode_claim call.claim.reach.mode call i _ w) h
    if_good false lane i call at w = h

    on : (errand : Errand) → AllAwaited c.lanes (filled_on c die good errand).calls
    on (ToFill lane i) = if_good good lane i (flight_at c.calls lane) (span_block c.places (flight_at c.calls lane).claim i) (flight_awaited c.lanes c.calls lane h)
    on (ToFlush b v p) = h
    on (ToMeta n bytes) = h

    go : (o : Option Out) → AllAwaited c.lanes (filled_by c die good o).calls
    go None = h
    go (Some out) = on out.errand
event_awaits (Submit lane) c s h = put_awaited c.lanes c.calls lane _ (flight_awaited c.lanes c.calls lane h) h
event_awaits (Fetch worker lane) c s h = put_awaited c.lanes c.calls lane _ (flight_awaited c.lanes c.calls lane h) h
event_awaits (Report worker lane) c s h = put_awaited c.lanes c.calls lane _ (flight_awaited c.lanes c.calls lane h) h
event_awaits (End lane request reply) c s h = subst (AllAwaited c.lanes) (sym (ended_calls c lane (flight_at c.calls lane) reply)) (gone_awaited c.lanes c.calls lane h)
event_awaits (Evict actor side block) c s h = h
event_awaits (Demote actor block) c s h = h
event_awaits (FlushOut actor die block) c s h = h
event_awaits (FlushIn actor die good left) c s h = go (c.dies die).out
  where
    on : (errand : Errand) → AllAwaited c.lanes (flushed_on c actor die good left errand).calls
    on (ToFill lane i) = h
    on (ToFlush b v p) = h
    on (ToMeta n bytes) = h

    go : (o : Option Out) → AllAwaited c.lanes (flushed_by c actor die good left o).calls
    go None = h
    go (Some out) = on out.errand
event_awaits (MetaIn actor die good left) c s h = go (c.dies die).out
  where
    on : (errand : Errand) → AllAwaited c.lanes (stored_on c actor die good left errand).calls
    on (ToFill lane i) = h
    on (ToFlush b v p) = h
    on (ToMeta n bytes) = counted_awaited c.lanes c.calls actor good h

    go : (o : Option Out) → AllAwaited c.lanes (stored_by c actor die good left o).calls
    go None = h
    go (Some out) = on out.errand

-- ---- a run

calls_in_more : (lane : ℕ) (h : List Entry) (o : Option Entry) → length (calls_in lane (h ++ and_then o [])) ≡ length (calls_in lane h) + more_of lane o
calls_in_more lane [] None = omega arith
calls_in_more lane [] (Some e) = go (e.lane == lane)
  where
    go : (t : Bool) → length (if t then e.call ∷ [] else []) ≡ 0 + one_if t
    go true = omega arith
    go false = omega arith
calls_in_more lane (x ∷ h) o = go (x.lane == lane) (calls_in_more lane h o)
  where
    go : (t : Bool) → length (calls_in lane (h ++ and_then o [])) ≡ length (calls_in lane h) + more_of lane o →
        length (if t then x.call ∷ calls_in lane (h ++ and_then o []) else calls_in lane (h ++ and_then o [])) ≡ length (if t then x.call ∷ calls_in lane h else calls_in lane h) + more_of lane o
    go true ih = omega arith
    go false ih = ih

counts_on : (e : Event) (c : Core) (h : List Entry) → Happens c e (after c e) → IsCounted c h → IsCounted (after c e) (h ++ and_then (entry_of e) [])
counts_on e c h s k = record {
  ended = λ l. let a = event_ends e c l in let b = k.ended l in let m = calls_in_more l h (entry_of e) in omega arith;
  awaited = λ l call f. rises_awaited c.lanes (after c e).lanes (λ j. let a = event_ends e c j in omega arith) call.claim.request (event_awaits e c s k.awaited l call f);
}

-- the request of a call that an event ends, stands behind what it awaits
ends_awaited : (e : Event) (c : Core) (h : List Entry) (request : Request) → Happens c e (after c e) → IsCounted c h → request_of e ≡ Some request → HasAwaited c.lanes request
ends_awaited (Quick lane r reply) c h request s k f = subst (HasAwaited c.lanes) (some_is r request f) s.may.ready.awaited
  where
    some_is : (r q : Request) → Some r ≡ Some q → r ≡ q
    some_is r q e = cc
ends_awaited (Skip lane r fault) c h request s k f = subst (HasAwaited c.lanes) (some_is r request f) s.may.awaited
  where
    some_is : (r q : Request) → Some r ≡ Some q → r ≡ q
    some_is r q e = cc
ends_awaited (End lane r reply) c h request s k f = subst (HasAwaited c.lanes) (sym s.may.request_is ∙ some_is r request f) (k.awaited lane s.may.call s.may.flies)
  where
    some_is : (r q : Request) → Some r ≡ Some q → r ≡ q
    some_is r q e = cc
ends_awaited _ c h request s k f = absurd (cc)

-- of requests that are awaited by the counts
by_counts : (c : Core) (h : List Entry) (request : Request) → IsCounted c h → HasAwaited c.lanes request → IfSome request.awaits (λ awaited. awaited.1 ≤ length (calls_in awaited.0 h))
by_counts c h request k w = go request.awaits w
  where
    go : (o : Option (ℕ × ℕ)) → IfSome o (λ awaited. awaited.1 ≤ (c.lanes awaited.0).ended) → IfSome o (λ awaited. awaited.1 ≤ length (calls_in awaited.0 h))
    go None w = tt
    go (Some a) w = subst (λ (n : ℕ). a.1 ≤ n) (k.ended a.0) w

calls_append : (es fs : List Event) → calls_of (es ++ fs) ≡ calls_of es ++ calls_of fs
calls_append [] fs = refl
calls_append (e ∷ es) fs = go (entry_of e) (calls_append es fs)
  where
    go : (o : Option Entry) → calls_of (es ++ fs) ≡ calls_of es ++ calls_of fs → and_then o (calls_of (es ++ fs)) ≡ and_then o (calls_of es) ++ calls_of fs
    go None ih = ih
    go (Some x) ih = ap (λ (xs : List Entry). x ∷ xs) ih

append_assoc_entry : (h : List Entry) (o : Option Entry) (xs : List Entry) → (h ++ and_then o []) ++ xs ≡ h ++ and_then o xs
append_assoc_entry [] None xs = refl
append_assoc_entry [] (Some e) xs = refl
append_assoc_entry (x ∷ h) o xs = ap (λ (ys : List Entry). x ∷ ys) (append_assoc_entry h o xs)

append_nil_entry : (h : List Entry) → h ++ [] ≡ h
append_nil_entry [] = refl
append_nil_entry (x ∷ h) = ap (λ (ys : List Entry). x ∷ ys) (append_nil_entry h)

run_awaited : (before : List Event) (c : Core) (h : List Entry) (e : Event) (rest : List Event) (c1 : Core) (request : Request) → IsCounted c h → CoreRun c (before ++ e ∷ rest) c1 → request_of e ≡ Some request →
    IfSome request.awaits (λ awaited. awaited.1 ≤ length (calls_in awaited.0 (h ++ calls_of before)))
run_awaited [] c h e rest c1 request k r f =
    subst (λ (xs : List Entry). IfSome request.awaits (λ awaited. awaited.1 ≤ length (calls_in awaited.0 xs))) (sym (append_nil_entry h)) (by_counts c h request k (ends_awaited e c h request r.0 k f))
run_awaited (b ∷ before) c h e rest c1 request k r f =
    subst (λ (xs : List Entry). IfSome request.awaits (λ awaited. awaited.1 ≤ length (calls_in awaited.0 xs))) (append_assoc_entry h (entry_of b) (calls_of before))
    (run_awaited before (after c b) (h ++ and_then (entry_of b) []) e rest c1 request (counts_on b c h r.0 k) r.1 f)

pub calls_wait : (c0 c1 : Core) (events : List Event) → ((lane : ℕ) → c0.calls lane ≡ None) → ((lane : ℕ) → (c0.lanes lane).ended ≡ 0) → CoreRun c0 events c1 → AreAwaited events
calls_wait c0 c1 events none fresh r before rest e request split f =
    run_awaited before c0 [] e rest c1 request (record { ended = fresh; awaited = λ lane call g. let n = none lane in absurd (cc) }) (subst (λ (es : List Event). CoreRun c0 es c1) split r) f
