-- How many numbers the plans of a script's lines list.
use Rattle.std.proofs.Common.{◌≡◌, ℕ, zero, suc, ◌+◌, ◌<◌, ◌≤◌, Bool, true, false, List, [], ◌∷◌, ◌++◌, length, refl, ap, ◌∙◌, ⊎_elim, arith, length-append}
use Rattle.std.specs.Prelude.{◌≢◌, ◌==◌, ◌&&◌, not, if◌then◌else◌}
use Rattle.std.specs.List.{list_any}
use Rattle.std.proofs.lemmas.Bool.Decides.{nat_tests}
use Rattle.edge_io.specs.Memory.{is_listed}
use Rattle.index_lists.specs.Words.{one_if}
use Rattle.index_lists.proofs.Counts.{same_or_not}
use Rattle.script_words.specs.declared.script.FaultLine.{FaultLine}
use Rattle.core_state.specs.Words.{sum_to}
use Rattle.fault_lines.specs.Lines.{is_same, is_about, listing, numbers_of, says_same, distinct_lines}
use Rattle.fault_lines.proofs.Named.{numbers_named}
use Rattle.core_plans.specs.Lines.{listed_for}
use Rattle.core_plans.proofs.Sums.{sum_both, sum_below}

-- ---- how many

length_more : (m : ℕ) (xs : List ℕ) → length (listing m xs) ≡ length xs + one_if (not (is_listed m xs))
length_more m xs = go (is_listed m xs)
  where
    go : (t : Bool) → length (if t then xs else xs ++ m ∷ []) ≡ length xs + one_if (not t)
    go true = omega arith
    go false = omega (arith, length-append xs (m ∷ []))

-- what a line adds to the numbers of some calls
abbrev added : Bool → Bool → FaultLine → List FaultLine → ℕ → ℕ
added copy writing line lines die = one_if (is_about copy writing die line && not (is_listed line.nth (numbers_of copy writing die lines)))

numbers_more : (copy writing : Bool) (die : ℕ) (line : FaultLine) (lines : List FaultLine) →
    length (numbers_of copy writing die (line ∷ lines)) ≡ length (numbers_of copy writing die lines) + added copy writing line lines die
unfolding numbers_of
numbers_more copy writing die line lines = go (is_about copy writing die line)
  where
    go : (t : Bool) → length (if t then listing line.nth (numbers_of copy writing die lines) else numbers_of copy writing die lines)
        ≡ length (numbers_of copy writing die lines) + one_if (t && not (is_listed line.nth (numbers_of copy writing die lines)))
    go true = length_more line.nth (numbers_of copy writing die lines)
    go false = omega arith

all_none : (m : ℕ) (f : ℕ → ℕ) → ((j : ℕ) → j < m → f j ≡ 0) → sum_to m f ≤ 0
unfolding sum_to
all_none zero f h = omega arith
all_none (suc m) f h = let k = all_none m f (λ j l. h j (omega arith)) in let z = h m (omega arith) in omega arith

-- a function that is 0 but at one place has that as its sum at most
sum_only : (n i : ℕ) (f : ℕ → ℕ) → ((j : ℕ) → j ≢ i → f j ≡ 0) → sum_to n f ≤ f i
unfolding sum_to
sum_only zero i f none = omega arith
sum_only (suc n) i f none = ⊎_elim
    (λ (s : n ≡ i).
    let below : sum_to n f ≤ 0 = all_none n f (λ j l. none j (λ e. absurd (omega arith))) in
    let e : f n ≡ f i = ap f s in
    omega arith)
    (λ (d : n ≢ i). let k = sum_only n i f none in let z = none n d in omega arith)
    (same_or_not n i)

abbrev case_of : Bool → Bool → Bool → Bool → Bool → Bool → ℕ
case_of copy writing x y e n = one_if (is_same copy x && is_same writing y && e && not n)

-- only one of the four kinds of calls is a line's
one_kind : (x y e : Bool) (n : Bool → Bool → Bool) →
    case_of false false x y e (n false false) + case_of false true x y e (n false true) + (case_of true false x y e (n true false) + case_of true true x y e (n true true)) ≡ case_of x y x y e (n x y)
one_kind true true e n = omega arith
one_kind true false e n = omega arith
one_kind false true e n = omega arith
one_kind false false e n = omega arith

and_nothing : (x y n : Bool) → one_if (is_same x x && is_same y y && false && n) ≡ 0
and_nothing true true n = refl
and_nothing true false n = refl
and_nothing false true n = refl
and_nothing false false n = refl

at_most : (x y e n : Bool) → case_of x y x y e n ≤ one_if (not n)
at_most true true true n = omega arith
at_most true false true n = omega arith
at_most false true true n = omega arith
at_most false false true n = omega arith
at_most true true false n = omega arith
at_most true false false n = omega arith
at_most false true false n = omega arith
at_most false false false n = omega arith

unlike : (a b : ℕ) → a ≢ b → (b == a) ≡ false
unlike a b d = grind (arith, nat_tests, d)

-- what a line adds for a die and its second copy
abbrev adds : FaultLine → List FaultLine → ℕ → ℕ
adds line lines d = added false false line lines d + added false true line lines d + (added true false line lines d + added true true line lines d)

unlisted : (t : Bool) → one_if (not t) ≡ (if t then 0 else 1)
unlisted true = refl
unlisted false = refl

line_adds : (dies : ℕ) (line : FaultLine) (lines : List FaultLine) → sum_to dies (adds line lines) ≤ (if list_any (says_same line) lines then 0 else 1)
line_adds dies line lines =
    let x = line.copy in
    let y = line.writing in
    let n = λ (d : ℕ) (c w : Bool). is_listed line.nth (numbers_of c w d lines) in
    let own = λ (d : ℕ). case_of x y x y (line.die == d) (n d x y) in
    let a = sum_below dies (adds line lines) own (λ d l. let k = one_kind x y (line.die == d) (n d) in omega arith) in
    let b = sum_only dies line.die own (λ d o. ap (λ (e : Bool). case_of x y x y e (n d x y)) (unlike d line.die o) ∙ and_nothing x y (not (n d x y))) in
    let c = at_most x y (line.die == line.die) (n line.die x y) in
    let s : n line.die x y ≡ list_any (says_same line) lines = numbers_named x y line.die line.nth lines in
    let t = ap (λ (z : Bool). one_if (not z)) s ∙ unlisted (list_any (says_same line) lines) in
    omega arith

-- over any dies, the plans list no more numbers than there are lines that say different things
pub sum_lines : (dies : ℕ) (lines : List FaultLine) → sum_to dies (listed_for lines) ≤ distinct_lines lines
unfolding numbers_of
sum_lines dies [] = all_none dies (listed_for []) (λ j l. none j)
  where
    none : (j : ℕ) → listed_for [] j ≡ 0
    none j = refl
sum_lines dies (line ∷ lines) =
    let rest = sum_lines dies lines in
    let more = line_adds dies line lines in
    let both = sum_both dies (listed_for lines) (adds line lines) in
    let all = sum_below dies (listed_for (line ∷ lines)) (λ d. listed_for lines d + adds line lines d) (λ d l.
    let a = numbers_more false false d line lines in
    let b = numbers_more false true d line lines in
    let c = numbers_more true false d line lines in
    let e = numbers_more true true d line lines in
    omega arith) in
    omega arith
