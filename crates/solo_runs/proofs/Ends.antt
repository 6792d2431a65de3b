-- What the answer to a call leaves of the lanes: how many calls each has ended, and no mark.
use Rattle.std.proofs.Common.{◌≡◌, ℕ, ◌+◌, ◌<◌, Bool, true, false, List, [], ◌∷◌, Option, Some, None, refl, sym, ap, ◌∙◌, subst, ⊎_elim, arith}
use Rattle.std.specs.Prelude.{◌≢◌, ◌==◌, not, is_some}
use Rattle.std.proofs.lemmas.Bool.Decides.{nat_tests}
use Rattle.index_lists.specs.Words.{put, one_if}
use Rattle.index_lists.proofs.Counts.{same_or_not}
use Rattle.index_lists.proofs.Puts.{put-same, put-each}
use Rattle.plain_files.specs.declared.calls.Request.{Request}
use Rattle.plain_files.specs.History.{Entry}
use Rattle.core_state.specs.declared.actor.Actor.{Actor}
use Rattle.core_state.specs.declared.actor.Actor.TheVariants.{Lane, Worker, Flusher, Closer}
use Rattle.core_state.specs.declared.event.Event.{Event}
use Rattle.core_state.specs.declared.event.Event.TheVariants.{Enter, Leave, Quick, Skip, Begin, Copy, Take, DieOut, FillIn, Submit, Fetch, Report, End, Evict, Demote, FlushOut, FlushIn, MetaIn}
use Rattle.core_state.specs.declared.event.Purpose.TheVariants.{Fill, Meta}
use Rattle.core_state.specs.State.{Page, LaneState, Inside, Gone, Errand, ToFill, ToFlush, ToMeta, Out, Core}
use Rattle.core_state.specs.Coherent.{Coherent}
use Rattle.core_state.specs.PageEvents.{flight_at}
use Rattle.core_state.specs.DieEvents.{marked_if, marked_by, filled_on, filled_by, flushed_on, flushed_by, stored_on, stored_by}
use Rattle.core_state.specs.LaneEvents.{replied}
use Rattle.core_state.specs.Happens.{CoreRun, after, after_all}
use Rattle.core_state.specs.History.{entry_of, and_then, calls_of, request_of}
use Rattle.core_history.proofs.Faults.{ended_lanes}
use Rattle.core_solo.specs.Solo.{Steps, IsStep, SoloCall, SoloAnswer}
use Rattle.core_solo.specs.Alone.{IsAlone, IsAtRest}
use Rattle.core_solo.proofs.Fits.{Fits}
use Rattle.core_solo.proofs.Steps.{fits_of}
use Rattle.core_solo.proofs.Bounds.{run_begins, stepped}
use Rattle.core_solo.proofs.Rests.{rest_alone}
use Rattle.core_solo.proofs.Calls.{free}
use Rattle.core_solo.proofs.Exists.{mark_after}
use Rattle.core_solo.proofs.Folds.{after_both}

-- ---- how many calls a lane has ended

abbrev more_of : ℕ → Option Entry → ℕ
more_of lane None = 0
more_of lane (Some e) = one_if (e.lane == lane)

same_ended : (lanes : ℕ → LaneState) (lane : ℕ) (x : LaneState) → x.ended ≡ (lanes lane).ended → (l : ℕ) → (put lanes lane x l).ended ≡ (lanes l).ended
same_ended lanes lane x e = put-each (λ (l : ℕ) (s : LaneState). s.ended ≡ (lanes l).ended) lanes lane x e (λ l d. refl)

zero_more : (n m : ℕ) → n ≡ m → n ≡ m + 0
zero_more n m e = omega arith

replied_ended : (lanes : ℕ → LaneState) (lane : ℕ) (l : ℕ) → (put lanes lane (replied (lanes lane)) l).ended ≡ (lanes l).ended + one_if (lane == l)
replied_ended lanes lane = put-each (λ (l : ℕ) (s : LaneState). s.ended ≡ (lanes l).ended + one_if (lane == l)) lanes lane (replied (lanes lane))
    (let k : (lane == lane) ≡ true = grind (arith, nat_tests) in let z = ap one_if k in omega arith)
    (λ l d. let k : (lane == l) ≡ false = grind (arith, nat_tests) in let z = ap one_if k in omega arith)

marked_ended : (actor : Actor) (failed : Bool) (lanes : ℕ → LaneState) (l : ℕ) → (marked_by actor failed lanes l).ended ≡ (lanes l).ended
marked_ended (Lane k) failed lanes l = same_ended lanes k (marked_if failed (lanes k)) refl l
marked_ended (Worker w) failed lanes l = refl
marked_ended (Flusher f) failed lanes l = refl
marked_ended Closer failed lanes l = refl

event_ends : (e : Event) (c : Core) (l : ℕ) → ((after c e).lanes l).ended ≡ (c.lanes l).ended + more_of l (entry_of e)
event_ends (Enter lane) c l = zero_more _ _ (same_ended c.lanes lane (record (c.lanes lane) { stage = Inside }) refl l)
event_ends (Leave lane) c l = zero_more _ _ (same_ended c.lanes lane (record (c.lanes lane) { stage = Gone }) refl l)
event_ends (Quick lane request reply) c l = replied_ended c.lanes lane l
event_ends (Skip lane request fault) c l = replied_ended c.lanes lane l
event_ends (Begin lane request side) c l = zero_more _ _ refl
event_ends (Copy actor lane i) c l = zero_more _ _ refl
event_ends (Take actor lane i) c l = zero_more _ _ refl
event_ends (DieOut actor die (Fill lane i)) c l = zero_more _ _ refl
event_ends (DieOut actor die (Meta page bytes)) c l = zero_more _ _ refl
event_ends (FillIn actor die good) c l = zero_more _ _ (go (c.dies die).out)
  where
    on : (errand : Errand) → ((filled_on c die good errand).lanes l).ended ≡ (c.lanes l).ended
    on (ToFill lane i) = same_ended c.lanes lane (marked_if (not good) (c.lanes lane)) refl l
    on (ToFlush b v p) = refl
    on (ToMeta n bytes) = refl

    go : (o : Option Out) → ((filled_by c die good o).lanes l).ended ≡ (c.lanes l).ended
    go None = refl
    go (Some out) = on out.errand
event_ends (Submit lane) c l = zero_more _ _ refl
event_ends (Fetch worker lane) c l = zero_more _ _ refl
event_ends (Report worker lane) c l = zero_more _ _ refl
event_ends (End lane request reply) c l = ap (λ (lanes : ℕ → LaneState). (lanes l).ended) (ended_lanes c lane (flight_at c.calls lane) reply) ∙ replied_ended c.lanes lane l
event_ends (Evict actor side block) c l = zero_more _ _ refl
event_ends (Demote actor block) c l = zero_more _ _ refl
event_ends (FlushOut actor die block) c l = zero_more _ _ refl
event_ends (FlushIn actor die good left) c l = zero_more _ _ (go (c.dies die).out)
  where
    on : (errand : Errand) → ((flushed_on c actor die good left errand).lanes l).ended ≡ (c.lanes l).ended
    on (ToFill lane i) = refl
    on (ToFlush b v p) = marked_ended actor (not good) c.lanes l
    on (ToMeta n bytes) = refl

    go : (o : Option Out) → ((flushed_by c actor die good left o).lanes l).ended ≡ (c.lanes l).ended
    go None = refl
    go (Some out) = on out.errand
event_ends (MetaIn actor die good left) c l = zero_more _ _ (go (c.dies die).out)
  where
    on : (errand : Errand) → ((stored_on c actor die good left errand).lanes l).ended ≡ (c.lanes l).ended
    on (ToFill lane i) = refl
    on (ToFlush b v p) = refl
    on (ToMeta n bytes) = marked_ended actor (not good) c.lanes l

    go : (o : Option Out) → ((stored_by c actor die good left o).lanes l).ended ≡ (c.lanes l).ended
    go None = refl
    go (Some out) = on out.errand

-- of these entries, those of the lane
abbrev pub ends_in : ℕ → List Entry → ℕ
ends_in lane [] = 0
ends_in lane (e ∷ es) = one_if (e.lane == lane) + ends_in lane es

more_ends : (l : ℕ) (o : Option Entry) (es : List Entry) → more_of l o + ends_in l es ≡ ends_in l (and_then o es)
more_ends l None es = omega arith
more_ends l (Some e) es = refl

pub run_ends_of : (es : List Event) (c : Core) (l : ℕ) → ((after_all c es).lanes l).ended ≡ (c.lanes l).ended + ends_in l (calls_of es)
run_ends_of [] c l = omega arith
run_ends_of (e ∷ es) c l =
    let a = run_ends_of es (after c e) l in
    let b = event_ends e c l in
    let d = more_ends l (entry_of e) (calls_of es) in
    omega arith

-- ---- marks

abbrev pub AllClear : Core → Type 0
AllClear c = (l : ℕ) → (c.lanes l).mark ≡ false

steps_mark : (encode : Core → ℕ → Page) (es : List Event) (c : Core) (lane : ℕ) (request asked : Request) → Coherent c → IsAlone c lane request → Steps (IsStep encode lane asked) c es → CoreRun c es (after_all c es) →
    (l : ℕ) → l ≢ lane → ((after_all c es).lanes l).mark ≡ (c.lanes l).mark
steps_mark encode [] c lane request asked h alone steps run l d = refl
steps_mark encode (e ∷ es) c lane request asked h alone steps run l d =
    let fit = fits_of encode c lane asked e steps.0.next in
    let one = stepped encode (e ∷ []) c (after c e) lane request asked h alone (steps.0, tt) (run.0, refl) in
    steps_mark encode es (after c e) lane request asked one.coherent one.alone steps.1 run.1 l d ∙ mark_after e c lane request h alone fit run.0 l d

replied_clear : (lanes : ℕ → LaneState) (k lane : ℕ) → k ≡ lane → (put lanes k (replied (lanes k)) lane).mark ≡ false
replied_clear lanes k lane same = ap (λ (w : ℕ). (put lanes k (replied (lanes k)) w).mark) (sym same) ∙ ap (λ (w : LaneState). w.mark) (put-same lanes k (replied (lanes k)))

answer_unmarked : (e : Event) (c : Core) (lane : ℕ) → Fits c lane e → is_some (request_of e) ≡ true → ((after c e).lanes lane).mark ≡ false
answer_unmarked (Quick k asked reply) c lane fit a = replied_clear c.lanes k lane fit
answer_unmarked (Skip k asked fault) c lane fit a = replied_clear c.lanes k lane fit
answer_unmarked (End k asked reply) c lane fit a = ap (λ (w : ℕ → LaneState). (w lane).mark) (ended_lanes c k (flight_at c.calls k) reply) ∙ replied_clear c.lanes k lane fit
answer_unmarked (Enter k) c lane fit a = absurd (cc)
answer_unmarked (Leave k) c lane fit a = absurd (cc)
answer_unmarked (Begin k asked side) c lane fit a = absurd (cc)
answer_unmarked (Copy actor k i) c lane fit a = absurd (cc)
answer_unmarked (Take actor k i) c lane fit a = absurd (cc)
answer_unmarked (DieOut actor die purpose) c lane fit a = absurd (cc)
answer_unmarked (FillIn actor die good) c lane fit a = absurd (cc)
answer_unmarked (Submit k) c lane fit a = absurd (cc)
answer_unmarked (Fetch worker k) c lane fit a = absurd (cc)
answer_unmarked (Report worker k) c lane fit a = absurd (cc)
answer_unmarked (Evict actor side b) c lane fit a = absurd (cc)
answer_unmarked (Demote actor b) c lane fit a = absurd (cc)
answer_unmarked (FlushOut actor die b) c lane fit a = absurd (cc)
answer_unmarked (FlushIn actor die good left) c lane fit a = absurd (cc)
answer_unmarked (MetaIn actor die good left) c lane fit a = absurd (cc)

call_clear : (encode : Core → ℕ → Page) (es : List Event) (c : Core) (lane : ℕ) (asked : Request) → Coherent c → IsAtRest c → lane < c.shape.lanes → AllClear c → SoloCall encode c lane asked es → CoreRun c es (after_all c es) → AllClear (after_all c es)
call_clear encode es c lane asked h rest within clear call run l =
    let alone = rest_alone c lane (free asked) rest within tt in
    let parts = run_begins call.most (call.last ∷ []) c (after_all c es) (subst (λ (xs : List Event). CoreRun c xs (after_all c es)) call.whole run) in
    let at = after_all c call.most in
    let k = stepped encode call.most c at lane (free asked) asked h alone call.steps parts.0 in
    let fit = fits_of encode at lane asked call.last call.next in
    let to : after_all c es ≡ after at call.last = ap (after_all c) call.whole ∙ after_both call.most (call.last ∷ []) c in
    ap (λ (w : Core). (w.lanes l).mark) to ∙ ⊎_elim
    (λ (s : l ≡ lane). ap (λ (w : ℕ). ((after at call.last).lanes w).mark) s ∙ answer_unmarked call.last at lane fit call.answers)
    (λ (d : l ≢ lane). mark_after call.last at lane (free asked) k.coherent k.alone fit parts.1.0 l d ∙ (steps_mark encode call.most c lane (free asked) asked h alone call.steps parts.0 l d ∙ clear l)) (same_or_not l lane)

-- an answer leaves no mark
pub answer_clear : (encode : Core → ℕ → Page) (es : List Event) (c : Core) (lane : ℕ) (asked : Request) → Coherent c → IsAtRest c → lane < c.shape.lanes → AllClear c → SoloAnswer encode c lane asked es → CoreRun c es (after_all c es) → AllClear (after_all c es)
answer_clear encode es c lane asked h rest within clear answered run = ⊎_elim
    (λ (starved : es ≡ Skip lane asked false ∷ []).
    subst (λ (xs : List Event). AllClear (after_all c xs)) (sym starved) (put-each (λ (l : ℕ) (w : LaneState). w.mark ≡ false) c.lanes lane (replied (c.lanes lane)) refl (λ l d. clear l)))
    (λ (call : SoloCall encode c lane asked es). call_clear encode es c lane asked h rest within clear call run) answered
