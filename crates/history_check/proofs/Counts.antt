-- The counts that the code keeps of the calls made, and what the machine's answer says of the verdict.
use Rattle.std.proofs.Common.{◌≡◌, ◌≢◌, inl, inr, ◌⊎◌, ℕ, zero, suc, ◌+◌, ◌<◌, ◌≤◌, List, [], ◌∷◌, ◌++◌, length, map, take, drop, set, get_or, replicate, Bool, true, false, ◌&&◌, nat_eq, eqb, Option, Some, None, ap, subst, ◌∙◌, sym, refl, arith, append_assoc, append-nil, length-append}
use Rattle.std.specs.Prelude.{slice_get, unwrap_or, if◌then◌else◌}
use Rattle.std.proofs.Math.Path.{fun_ext}
use Rattle.std.proofs.lemmas.Bool.{eqb-true, eqb-false, eq-eqb, ne_eqb}
use Rattle.std.proofs.lemmas.List.{drop_more, drop_all, length-set, get_or-set_same, get_or-set_other}
use Rattle.std.proofs.lemmas.Option.{slice_get_within, slice_get_past, unwrap_or-slice_get}
use Rattle.plain_files.specs.declared.calls.Call.{Call}
use Rattle.plain_files.specs.declared.calls.Reply.{Reply}
use Rattle.plain_files.specs.declared.calls.Request.{Request}
use Rattle.plain_files.specs.Plain.{State, answer}
use Rattle.plain_files.specs.History.{Entry, calls_in, requests_of, is_excuse}
use Rattle.history_check.specs.declared.verdict.Verdict.{Verdict}
use Rattle.history_check.specs.declared.verdict.Verdict.TheVariants.{Legal, Differs, Order}
use Rattle.history_check.specs.Held.{count_of, Moves, Disagrees}
use Rattle.history_check.specs.Histories.{IsHistory}
use Rattle.history_check.specs.Replies.{is_same_reply}
use Rattle.history_check.specs.Verdicts.{Line, entry, lines_of, made_in, next_request, are_all_made, in_order, agrees, verdict}
use Rattle.history_check.proofs.Completeness.{agrees_moved, agrees_stayed}
use Rattle.history_check.proofs.Followed.{Follows, IsNext, no_entries, next_parts, one_more, made_more, all_served}

-- So many entries were right, the counts are those of the calls among them, and the verdict is the one on what is left.
pub record IsSoFar (lanes : List (List Request)) (first : State) (lines : List Line) (counts : List ℕ) (state : State) (i : ℕ) : Type 0 where
  pub before : List Entry
  pub number : length before ≡ i
  pub follows : Follows lanes first before state
  pub spelled : (rest : List Entry) → drop i lines ≡ lines_of before rest → lines ≡ lines_of [] (before ++ rest)
  pub counted : count_of counts ≡ made_in before
  pub lanes_counted : length counts ≡ length lanes
  pub goes_on : verdict lanes first [] lines ≡ verdict lanes state before (drop i lines)

-- ---- counts

no_count : (n lane : ℕ) → count_of (replicate n 0) lane ≡ 0
no_count zero lane = refl
no_count (suc n) zero = refl
no_count (suc n) (suc lane) = no_count n lane

count_more : (counts : List ℕ) (lane count n : ℕ) → lane < length counts → count_of (set counts lane count) n ≡ (if eqb lane n then count else count_of counts n)
count_more counts lane count n within = at_test (eqb lane n) refl
  where
    at_test : (b : Bool) → eqb lane n ≡ b → count_of (set counts lane count) n ≡ (if b then count else count_of counts n)
    at_test true is =
        let same : lane ≡ n = eqb-true lane n is in
        ap (count_of (set counts lane count)) (sym same) ∙ unwrap_or-slice_get (set counts lane count) lane 0 ∙ get_or-set_same counts lane count 0 within
    at_test false is =
        let other : n ≢ lane = λ e. eqb-false lane n is (sym e) in
        unwrap_or-slice_get (set counts lane count) n 0 ∙ get_or-set_other counts lane n count 0 other ∙ sym (unwrap_or-slice_get counts n 0)

counted_more : (counts : List ℕ) (before : List Entry) (e : Entry) → count_of counts ≡ made_in before → e.lane < length counts → count_of (set counts e.lane (count_of counts e.lane + 1)) ≡ made_in (before ++ e ∷ [])
counted_more counts before e counted within = fun_ext (λ n.
    count_more counts e.lane (count_of counts e.lane + 1) n within
    ∙ at_lane n (eqb e.lane n) refl
    ∙ sym (made_more before e n))
  where
    at_lane : (n : ℕ) (b : Bool) → eqb e.lane n ≡ b → (if b then count_of counts e.lane + 1 else count_of counts n) ≡ (if b then made_in before n + 1 else made_in before n)
    at_lane n true is = ap (λ m. m + 1) (ap (λ f. f e.lane) counted ∙ ap (made_in before) (eqb-true e.lane n is))
    at_lane n false is = ap (λ f. f n) counted

-- one lane more is all made, or not
pub all_step : {L : Type 0} (f : L → List Request) (made : ℕ → ℕ) (lanes : List L) (i : ℕ) (lane : L) → i < length lanes → lane ≡ get_or lanes i lane → are_all_made (map f (drop i lanes)) i made ≡ (nat_eq (made i) (length (f lane)) && are_all_made (map f (drop (i + 1) lanes)) (i + 1) made)
all_step f made lanes i lane within is =
    ap (λ ls. are_all_made (map f ls) i made) (drop_more lanes i lane within ∙ ap (λ x. x ∷ drop (i + 1) lanes) (sym is))

-- the next request, by lanes and counts that are the same
pub next_same : (lanes same : List (List Request)) (counts alike : List ℕ) (lane k : ℕ) (o : Option Request) → lanes ≡ same → counts ≡ alike → o ≡ next_request lanes (count_of counts) lane k → next_request same (count_of alike) lane k ≡ o
next_same lanes same counts alike lane k o one two is =
    sym (is ∙ ap (λ ls. next_request ls (count_of counts) lane k) one ∙ ap (λ cs. next_request same (count_of cs) lane k) two)

-- the lanes from one on, made or not, and the whole
pub all_true : {L : Type 0} (f : L → List Request) (made : ℕ → ℕ) (lanes : List L) (i : ℕ) → length lanes ≤ i → are_all_made (map f (drop i lanes)) i made ≡ are_all_made (map f lanes) 0 made → true ≡ are_all_made (map f lanes) 0 made
all_true f made lanes i past is = ap (λ ls. are_all_made (map f ls) i made) (sym (drop_all i lanes past)) ∙ is

pub all_false : {L : Type 0} (f : L → List Request) (made : ℕ → ℕ) (lanes : List L) (i : ℕ) (lane : L) → i < length lanes → lane ≡ get_or lanes i lane → made i ≢ length (f lane) → are_all_made (map f (drop i lanes)) i made ≡ are_all_made (map f lanes) 0 made → false ≡ are_all_made (map f lanes) 0 made
all_false f made lanes i lane within is other so =
    ap (λ b. b && are_all_made (map f (drop (i + 1) lanes)) (i + 1) made) (sym (ne_eqb (made i) (length (f lane)) other))
    ∙ sym (all_step f made lanes i lane within is) ∙ so

pub all_next : {L : Type 0} (f : L → List Request) (made : ℕ → ℕ) (lanes : List L) (i : ℕ) (lane : L) → i < length lanes → lane ≡ get_or lanes i lane → made i ≡ length (f lane) → are_all_made (map f (drop i lanes)) i made ≡ are_all_made (map f lanes) 0 made → are_all_made (map f (drop (i + 1) lanes)) (i + 1) made ≡ are_all_made (map f lanes) 0 made
all_next f made lanes i lane within is here so =
    ap (λ b. b && are_all_made (map f (drop (i + 1) lanes)) (i + 1) made) (sym (eq-eqb (made i) (length (f lane)) here))
    ∙ sym (all_step f made lanes i lane within is) ∙ so

-- ---- the loop

pub so_far_none : (lanes : List (List Request)) (first : State) (lines : List Line) (counts : List ℕ) → counts ≡ replicate (length lanes) 0 → length counts ≡ length lanes → IsSoFar lanes first lines counts first 0
so_far_none lanes first lines counts none long = record {
  before = [];
  number = refl;
  follows = no_entries lanes first;
  spelled = λ rest is. is;
  counted = fun_ext (λ n. ap (λ cs. count_of cs n) none ∙ no_count (length lanes) n);
  lanes_counted = long;
  goes_on = refl;
}

left_at : (lines : List Line) (i : ℕ) (line : Line) → i < length lines → line ≡ get_or lines i line → drop i lines ≡ line ∷ drop (i + 1) lines
left_at lines i line within is = drop_more lines i line within ∙ ap (λ l. l ∷ drop (i + 1) lines) (sym is)

-- the next entry is held at its request
at_line : (lanes : List (List Request)) (first state : State) (lines : List Line) (counts : List ℕ) (i : ℕ) (line : Line) → i < length lines → line ≡ get_or lines i line → (so : IsSoFar lanes first lines counts state i) → verdict lanes first [] lines ≡ in_order (i + 1) (next_request lanes (count_of counts) line.0 line.1) (λ request. agrees (i + 1) state request.call line.2 (λ after. verdict lanes after (so.before ++ entry line.0 request.call line.2 ∷ []) (drop (i + 1) lines)))
at_line lanes first state lines counts i line within is so =
    so.goes_on
    ∙ ap (verdict lanes state so.before) (left_at lines i line within is)
    ∙ ap (λ made. in_order (length so.before + 1) (next_request lanes made line.0 line.1) (λ request. agrees (length so.before + 1) state request.call line.2 (λ after. verdict lanes after (so.before ++ entry line.0 request.call line.2 ∷ []) (drop (i + 1) lines)))) (sym so.counted)
    ∙ ap (λ n. in_order (n + 1) (next_request lanes (count_of counts) line.0 line.1) (λ request. agrees (n + 1) state request.call line.2 (λ after. verdict lanes after (so.before ++ entry line.0 request.call line.2 ∷ []) (drop (i + 1) lines)))) so.number

pub so_far_late : (lanes : List (List Request)) (first state : State) (lines : List Line) (counts : List ℕ) (i : ℕ) (line : Line) → i < length lines → line ≡ get_or lines i line → IsSoFar lanes first lines counts state i → next_request lanes (count_of counts) line.0 line.1 ≡ None → Order (i + 1) ≡ verdict lanes first [] lines
so_far_late lanes first state lines counts i line within is so none =
    sym (at_line lanes first state lines counts i line within is so
    ∙ ap (λ o. in_order (i + 1) o (λ request. agrees (i + 1) state request.call line.2 (λ after. verdict lanes after (so.before ++ entry line.0 request.call line.2 ∷ []) (drop (i + 1) lines)))) none)

at_request : (lanes : List (List Request)) (first state : State) (lines : List Line) (counts : List ℕ) (i : ℕ) (line : Line) (request : Request) → i < length lines → line ≡ get_or lines i line → (so : IsSoFar lanes first lines counts state i) → next_request lanes (count_of counts) line.0 line.1 ≡ Some request → verdict lanes first [] lines ≡ agrees (i + 1) state request.call line.2 (λ after. verdict lanes after (so.before ++ entry line.0 request.call line.2 ∷ []) (drop (i + 1) lines))
at_request lanes first state lines counts i line request within is so some =
    at_line lanes first state lines counts i line within is so
    ∙ ap (λ o. in_order (i + 1) o (λ request. agrees (i + 1) state request.call line.2 (λ after. verdict lanes after (so.before ++ entry line.0 request.call line.2 ∷ []) (drop (i + 1) lines)))) some

agrees_not : (number : ℕ) (state : State) (call : Call) (reply expected : Reply) (next : State → Verdict) → Disagrees state call reply expected → agrees number state call reply next ≡ Differs number expected
agrees_not number state call reply expected next not =
    let other : is_same_reply reply (answer state call).reply ≡ false = ap (is_same_reply reply) (sym not.machine) ∙ not.other in
    ap (λ b. if b then next state else if is_same_reply reply (answer state call).reply then next (answer state call).state else Differs number (answer state call).reply) not.none
    ∙ ap (λ b. if b then next (answer state call).state else Differs number (answer state call).reply) other
    ∙ ap (Differs number) (sym not.machine)

pub so_far_differs : (lanes : List (List Request)) (first state : State) (lines : List Line) (counts : List ℕ) (i : ℕ) (line : Line) (request : Request) (expected : Reply) → i < length lines → line ≡ get_or lines i line → IsSoFar lanes first lines counts state i → next_request lanes (count_of counts) line.0 line.1 ≡ Some request → Disagrees state request.call line.2 expected → Differs (i + 1) expected ≡ verdict lanes first [] lines
so_far_differs lanes first state lines counts i line request expected within is so some not =
    sym (at_request lanes first state lines counts i line request within is so some
    ∙ agrees_not (i + 1) state request.call line.2 expected (λ after. verdict lanes after (so.before ++ entry line.0 request.call line.2 ∷ []) (drop (i + 1) lines)) not)

agrees_on : (number : ℕ) (state : State) (call : Call) (reply : Reply) (after : State) (next : State → Verdict) → Moves state call reply after → agrees number state call reply next ≡ next after
agrees_on number state call reply after next moves =
    elim moves [
      | inl w ↦ agrees_moved number state call reply next w.0 ∙ ap next (sym w.1)
      | inr w ↦ agrees_stayed number state call reply next w.0 ∙ ap next (sym w.1)
    ]

-- a lane with a request is one of the lanes
lane_there : (lanes : List (List Request)) (lane n : ℕ) (r : Request) → slice_get (requests_of lanes lane) n ≡ Some r → lane < length lanes
lane_there lanes lane n r is = elim (slice_get_lane (slice_get lanes lane) refl) [ inl w ↦ slice_get_within lanes lane w.0 w.1 | inr w ↦ absurd (none_there w) ]
  where
    slice_get_lane : (o : Option (List Request)) → slice_get lanes lane ≡ o → ((rs : List Request) × (slice_get lanes lane ≡ Some rs)) ⊎ (slice_get lanes lane ≡ None)
    slice_get_lane None e = inr e
    slice_get_lane (Some rs) e = inl (rs, e)

    none_there : slice_get lanes lane ≡ None → ⊥
    none_there none = let e : None ≡ Some r = sym (ap (λ o. slice_get (unwrap_or o []) n) none) ∙ is in cc

pub so_far_next : (lanes : List (List Request)) (first state : State) (lines : List Line) (counts : List ℕ) (i : ℕ) (line : Line) (request : Request) → IsSoFar lanes first lines counts state i → next_request lanes (count_of counts) line.0 line.1 ≡ Some request → (line.0 < length counts) × (line.1 ≡ count_of counts line.0 + 1)
so_far_next lanes first state lines counts i line request so some =
    let next = next_parts lanes (count_of counts) line.0 line.1 request some in
    let there : line.0 < length lanes = lane_there lanes line.0 (count_of counts line.0) request next.there in
    let long = so.lanes_counted in
    (omega (arith, there, long), next.number)

pub so_far_more : (lanes : List (List Request)) (first state after : State) (lines : List Line) (counts more : List ℕ) (i : ℕ) (line : Line) (request : Request) → i < length lines → line ≡ get_or lines i line → IsSoFar lanes first lines counts state i → next_request lanes (count_of counts) line.0 line.1 ≡ Some request → Moves state request.call line.2 after → more ≡ set counts line.0 (count_of counts line.0 + 1) → IsSoFar lanes first lines more after (i + 1)
so_far_more lanes first state after lines counts more i line request within is so some moves grown =
    let e : Entry = entry line.0 request.call line.2 in
    let place = so_far_next lanes first state lines counts i line request so some in
    let P : (ℕ → ℕ) → Type 0 = λ made. IsNext lanes made line.0 line.1 request in
    let next = subst P so.counted (next_parts lanes (count_of counts) line.0 line.1 request some) in
    record {
      before = so.before ++ e ∷ [];
      number = length-push so.before e ∙ ap (λ n. n + 1) so.number;
      follows = one_more lanes first so.before state line.0 line.1 request line.2 after so.follows next moves;
      spelled = λ rest left.
          let head : line ≡ (line.0, made_in so.before line.0 + 1, line.2) = ap (λ k. (line.0, k, line.2)) next.number in
          so.spelled (e ∷ rest) (left_at lines i line within is ∙ ap (λ l. l ∷ drop (i + 1) lines) head ∙ ap (λ ls. (line.0, made_in so.before line.0 + 1, line.2) ∷ ls) left)
          ∙ ap (lines_of []) (sym (append_assoc so.before (e ∷ []) rest));
      counted = ap count_of grown ∙ counted_more counts so.before e so.counted place.0;
      lanes_counted = ap (λ cs. length cs) grown ∙ length-set counts line.0 (count_of counts line.0 + 1) ∙ so.lanes_counted;
      goes_on =
          at_request lanes first state lines counts i line request within is so some
          ∙ agrees_on (i + 1) state request.call line.2 after (λ s. verdict lanes s (so.before ++ e ∷ []) (drop (i + 1) lines)) moves;
    }
  where
    length-push : (before : List Entry) (e : Entry) → length (before ++ e ∷ []) ≡ length before + 1
    length-push before e = length-append before (e ∷ [])

-- all entries were right
at_end : (lanes : List (List Request)) (first state : State) (lines : List Line) (counts : List ℕ) (i : ℕ) → i ≤ length lines → length lines ≤ i → (so : IsSoFar lanes first lines counts state i) → verdict lanes first [] lines ≡ (if are_all_made lanes 0 (count_of counts) then Legal (length lines) else Order (length lines + 1))
at_end lanes first state lines counts i within past so =
    let number = so.number in
    let long : length so.before ≡ length lines = omega (arith, number) in
    so.goes_on
    ∙ ap (verdict lanes state so.before) (drop_all i lines past)
    ∙ ap (λ made. if are_all_made lanes 0 made then Legal (length so.before) else Order (length so.before + 1)) (sym so.counted)
    ∙ ap (λ n. if are_all_made lanes 0 (count_of counts) then Legal n else Order (n + 1)) long

pub so_far_legal : (lanes : List (List Request)) (first state : State) (lines : List Line) (counts : List ℕ) (i : ℕ) → i ≤ length lines → length lines ≤ i → IsSoFar lanes first lines counts state i → are_all_made lanes 0 (count_of counts) ≡ true → Legal (length lines) ≡ verdict lanes first [] lines
so_far_legal lanes first state lines counts i within past so all =
    sym (at_end lanes first state lines counts i within past so ∙ ap (λ b. if b then Legal (length lines) else Order (length lines + 1)) all)

pub so_far_left : (lanes : List (List Request)) (first state : State) (lines : List Line) (counts : List ℕ) (i : ℕ) → i ≤ length lines → length lines ≤ i → IsSoFar lanes first lines counts state i → are_all_made lanes 0 (count_of counts) ≡ false → Order (length lines + 1) ≡ verdict lanes first [] lines
so_far_left lanes first state lines counts i within past so left =
    sym (at_end lanes first state lines counts i within past so ∙ ap (λ b. if b then Legal (length lines) else Order (length lines + 1)) left)

pub so_far_history : (lanes : List (List Request)) (first state : State) (lines : List Line) (counts : List ℕ) (i : ℕ) → length lines ≤ i → IsSoFar lanes first lines counts state i → are_all_made lanes 0 (count_of counts) ≡ true → IsHistory lanes first lines state
so_far_history lanes first state lines counts i past so all =
    let P : (ℕ → ℕ) → Type 0 = λ made. are_all_made lanes 0 made ≡ true in
    record {
      history = so.before;
      spelled = so.spelled [] (drop_all i lines past) ∙ ap (lines_of []) (append-nil so.before);
      legal = so.follows.legal;
      serves = all_served lanes first so.before state so.follows (subst P so.counted all);
    }
