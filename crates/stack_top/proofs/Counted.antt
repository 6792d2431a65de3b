-- Calls that serve a script are as many as its lines.
use Rattle.std.proofs.Common.{◌≡◌, ℕ, ◌+◌, ◌≤◌, Bool, true, false, List, [], ◌∷◌, ◌++◌, length, map, refl, ap, ◌∙◌, sym, subst, arith, append_assoc}
use Rattle.std.specs.Prelude.{◌==◌, if◌then◌else◌}
use Rattle.std.proofs.lemmas.Bool.Decides.{nat_tests}
use Rattle.std.proofs.lemmas.List.{append-nil, length-map}
use Rattle.call_text.specs.Order.{count_in, InOrder}
use Rattle.plain_files.specs.declared.calls.Request.{Request}
use Rattle.plain_files.specs.History.{Entry, Serves, calls_in, requests_of}
use Rattle.script_words.specs.declared.script.Script.{Script}
use Rattle.script_words.specs.Lanes.{requests}

-- ---- lists with as many of each number

abbrev count : ℕ → List ℕ → ℕ
count n [] = 0
count n (x ∷ xs) = if x == n then count n xs + 1 else count n xs

-- without the first of a number
abbrev without : ℕ → List ℕ → List ℕ
without n [] = []
without n (x ∷ xs) = if x == n then xs else x ∷ without n xs

without_long : (n : ℕ) (xs : List ℕ) → 1 ≤ count n xs → length xs ≡ length (without n xs) + 1
without_long n [] some = absurd (omega (arith, some))
without_long n (x ∷ xs) some = by (without_long n xs) (x == n) some
  where
    by : (1 ≤ count n xs → length xs ≡ length (without n xs) + 1) → (t : Bool) → 1 ≤ (if t then count n xs + 1 else count n xs) → length (x ∷ xs) ≡ length (if t then xs else x ∷ without n xs) + 1
    by rest true some = omega arith
    by rest false some = let e = rest some in omega (arith, e)

without_count : (n m : ℕ) (xs : List ℕ) → 1 ≤ count n xs → count m xs ≡ (if n == m then count m (without n xs) + 1 else count m (without n xs))
without_count n m [] some = absurd (omega (arith, some))
without_count n m (x ∷ xs) some = by (without_count n m xs) (x == n) refl some
  where
    at : x ≡ n → (if x == m then count m xs + 1 else count m xs) ≡ (if n == m then count m xs + 1 else count m xs)
    at same = ap (λ (y : ℕ). if y == m then count m xs + 1 else count m xs) same

    past : (s t : Bool) (a b : ℕ) → a ≡ (if t then b + 1 else b) → (if s then a + 1 else a) ≡ (if t then (if s then b + 1 else b) + 1 else (if s then b + 1 else b))
    past true true a b e = omega (arith, e)
    past true false a b e = omega (arith, e)
    past false true a b e = omega (arith, e)
    past false false a b e = omega (arith, e)

    by : (1 ≤ count n xs → count m xs ≡ (if n == m then count m (without n xs) + 1 else count m (without n xs))) → (t : Bool) → (x == n) ≡ t → 1 ≤ (if t then count n xs + 1 else count n xs) → (if x == m then count m xs + 1 else count m xs) ≡ (if n == m then count m (if t then xs else x ∷ without n xs) + 1 else count m (if t then xs else x ∷ without n xs))
    by rest true is some = at (grind (arith, nat_tests, is))
    by rest false is some = past (x == m) (n == m) (count m xs) (count m (without n xs)) (rest some)

same_self : (n : ℕ) → (n == n) ≡ true
same_self n = grind (arith, nat_tests)

count_first : (x : ℕ) (xs : List ℕ) → 1 ≤ count x (x ∷ xs)
count_first x xs = subst (λ (t : Bool). 1 ≤ (if t then count x xs + 1 else count x xs)) (sym (same_self x)) (omega arith)

same_long : (xs ys : List ℕ) → ((n : ℕ) → count n xs ≡ count n ys) → length xs ≡ length ys
same_long [] [] same = refl
same_long [] (y ∷ ys) same = let e = same y in let f = count_first y ys in absurd (omega (arith, e, f))
same_long (x ∷ xs) ys same =
    let some : 1 ≤ count x ys = subst (λ (n : ℕ). 1 ≤ n) (same x) (count_first x xs) in
    let rest = same_long xs (without x ys) (λ n. one_less (x == n) (count n xs) (count n (without x ys)) (same n ∙ without_count x n ys some)) in
    let long = without_long x ys some in
    omega (arith, rest, long)
  where
    one_less : (t : Bool) (a b : ℕ) → (if t then a + 1 else a) ≡ (if t then b + 1 else b) → a ≡ b
    one_less true a b e = omega (arith, e)
    one_less false a b e = e

-- ---- calls and places

calls_count : (lane : ℕ) (h : List Entry) → length (calls_in lane h) ≡ count lane (map (λ e. e.lane) h)
calls_count lane [] = refl
calls_count lane (e ∷ es) = by (e.lane == lane) (calls_count lane es)
  where
    by : (t : Bool) → (length (calls_in lane es) ≡ count lane (map (λ (x : Entry). x.lane) es)) → length (if t then e.call ∷ calls_in lane es else calls_in lane es) ≡ (if t then count lane (map (λ (x : Entry). x.lane) es) + 1 else count lane (map (λ (x : Entry). x.lane) es))
    by true rest = omega (arith, rest)
    by false rest = rest

places_count : (lane : ℕ) (places : List (ℕ × ℕ)) → count_in lane places ≡ count lane (map (λ p. p.0) places)
places_count lane [] = refl
places_count lane (p ∷ ps) = by (p.0 == lane) (places_count lane ps)
  where
    by : (t : Bool) → (count_in lane ps ≡ count lane (map (λ (x : ℕ × ℕ). x.0) ps)) → (if t then count_in lane ps + 1 else count_in lane ps) ≡ (if t then count lane (map (λ (x : ℕ × ℕ). x.0) ps) + 1 else count lane (map (λ (x : ℕ × ℕ). x.0) ps))
    by true rest = omega (arith, rest)
    by false rest = rest

order_whole : (lanes : List (List Request)) (before order : List (ℕ × ℕ)) → InOrder lanes before order → (lane : ℕ) → count_in lane (before ++ order) ≡ length (requests_of lanes lane)
order_whole lanes before [] is = subst (λ (ps : List (ℕ × ℕ)). (lane : ℕ) → count_in lane ps ≡ length (requests_of lanes lane)) (sym (append-nil before)) is
order_whole lanes before (p ∷ ps) is =
    subst (λ (qs : List (ℕ × ℕ)). (lane : ℕ) → count_in lane qs ≡ length (requests_of lanes lane)) (append_assoc before (p ∷ []) ps) (order_whole lanes (before ++ p ∷ []) ps is.2)

pub calls_many : (script : Script) (calls : List Entry) → InOrder (requests script) [] script.order → Serves (requests script) calls → length calls ≡ length script.order
calls_many script calls order serves =
    let same : (lane : ℕ) → count lane (map (λ e. e.lane) calls) ≡ count lane (map (λ p. p.0) script.order) =
    λ lane. sym (calls_count lane calls) ∙ ap length (serves.each lane) ∙ length-map (requests_of (requests script) lane) (λ r. r.call) ∙ sym (order_whole (requests script) [] script.order order lane) ∙ places_count lane script.order in
    sym (length-map calls (λ e. e.lane)) ∙ same_long (map (λ e. e.lane) calls) (map (λ p. p.0) script.order) same ∙ length-map script.order (λ p. p.0)
