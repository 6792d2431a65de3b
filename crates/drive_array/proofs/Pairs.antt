-- Two lists of dies, side by side.
use Rattle.std.proofs.Common.{◌≡◌, ◌≢◌, ℕ, zero, suc, ◌+◌, ◌<◌, List, [], ◌∷◌, ◌++◌, length, get_or, refl, ap, sym, subst, ◌∙◌, ⊎_elim, arith}
use Rattle.std.specs.Prelude.{map}
use Rattle.std.specs.List.{All, zip}
use Rattle.std.proofs.lemmas.List.{get_or_read}
use Rattle.drive_array.proofs.Cutting.{one_number}
use Rattle.std.proofs.lemmas.List.Elements.{All-head, All-tail}
use Rattle.flash_die.specs.Dies.{DieView}
use Rattle.flash_die.specs.Failures.{told_die}
use Rattle.flash_die.specs.Memory.{view_of}
use Rattle.flash_die.specs.declared.die_mem.DieMem.{DieMem}
use Rattle.flash_die.specs.declared.plan.Plan.{Plan}
use Rattle.drive_array.specs.Mirrors.{beside, CanMirror, ArePairs, IsShort}
use Rattle.drive_array.specs.Shares.{dies_of, start_plan}

-- two dies of the same pages
twins : (pages : List (List ℕ)) (plan copy : Plan) → IsShort plan → IsShort copy → CanMirror (told_die pages (start_plan plan)) (told_die pages (start_plan copy))
twins pages plan copy short_plan short_copy = record {
  sizes = refl;
  same = λ a b is_a is_b. cc;
  first_most = omega (arith, short_plan.reads, short_plan.writes);
  second_most = omega (arith, short_copy.reads, short_copy.writes);
}

-- dies of the same lists of pages
pub twins_all : (lists : List (List (List ℕ))) (plans copies : List Plan) → All (λ plan. IsShort plan) plans → All (λ plan. IsShort plan) copies → length plans ≡ length lists → length copies ≡ length lists → ArePairs (dies_of lists plans) (dies_of lists copies)
twins_all [] plans copies short_plans short_copies p c = tt
twins_all (pages ∷ lists) [] copies short_plans short_copies p c = absurd (omega arith)
twins_all (pages ∷ lists) (plan ∷ plans) [] short_plans short_copies p c = absurd (omega arith)
twins_all (pages ∷ lists) (plan ∷ plans) (copy ∷ copies) short_plans short_copies p c =
    (twins pages plan copy (All-head (λ plan. IsShort plan) plan plans short_plans) (All-head (λ plan. IsShort plan) copy copies short_copies), twins_all lists plans copies (All-tail (λ plan. IsShort plan) plan plans short_plans) (All-tail (λ plan. IsShort plan) copy copies short_copies) (omega arith) (omega arith))

-- the dies of the next pair can be mirrored
pub pairs_at : (xs ys : List DieMem) (k : ℕ) (x y : DieMem) → ArePairs (map (λ d. view_of d) xs) (map (λ d. view_of d) ys) → k < length (zip xs ys) → (let pair : DieMem × DieMem = (x, y) in pair ≡ get_or (zip xs ys) k pair) → CanMirror (view_of x) (view_of y)
pairs_at [] ys k x y are within at = absurd (omega arith)
pairs_at (a ∷ xs) [] k x y are within at = absurd (omega arith)
pairs_at (a ∷ xs) (b ∷ ys) zero x y are within at =
    let first : a ≡ x = sym (ap (λ (p : DieMem × DieMem). p.0) at) in
    let second : b ≡ y = sym (ap (λ (p : DieMem × DieMem). p.1) at) in
    subst (λ (d : DieMem). CanMirror (view_of d) (view_of y)) first (subst (λ (d : DieMem). CanMirror (view_of a) (view_of d)) second are.0)
pairs_at (a ∷ xs) (b ∷ ys) (suc k) x y are within at = pairs_at xs ys k x y are.1 (omega arith) at

module _ {X : Type 0} (make : DieView → DieView → X) where
  -- what is made of the pairs
  abbrev made_of_pairs : List (DieMem × DieMem) → List X
  made_of_pairs pairs = beside make (map (λ p. view_of p.0) pairs) (map (λ p. view_of p.1) pairs)

  beside-push : (pairs : List (DieMem × DieMem)) (x y : DieMem) → made_of_pairs (pairs ++ (x, y) ∷ []) ≡ made_of_pairs pairs ++ make (view_of x) (view_of y) ∷ []
  beside-push [] x y = refl
  beside-push (p ∷ pairs) x y = ap (λ (l : List X). make (view_of p.0) (view_of p.1) ∷ l) (beside-push pairs x y)

  -- one more
  pub beside_more : (so_far now : List X) (made : X) (pairs : List (DieMem × DieMem)) (x y : DieMem) → now ≡ so_far ++ made ∷ [] → so_far ≡ beside make (map (λ p. view_of p.0) pairs) (map (λ p. view_of p.1) pairs) → made ≡ make (view_of x) (view_of y) → now ≡ beside make (map (λ p. view_of p.0) (pairs ++ (x, y) ∷ [])) (map (λ p. view_of p.1) (pairs ++ (x, y) ∷ []))
  beside_more so_far now made pairs x y is before one =
      is ∙ ap (λ (l : List X). l ++ made ∷ []) before ∙ ap (λ (m : X). made_of_pairs pairs ++ m ∷ []) one ∙ sym (beside-push pairs x y)

  beside_zip : (xs ys : List DieMem) → made_of_pairs (zip xs ys) ≡ beside make (map (λ d. view_of d) xs) (map (λ d. view_of d) ys)
  beside_zip [] ys = refl
  beside_zip (x ∷ xs) [] = refl
  beside_zip (x ∷ xs) (y ∷ ys) = ap (λ (l : List X). make (view_of x) (view_of y) ∷ l) (beside_zip xs ys)

  same_pairs : (pairs : List (DieMem × DieMem)) → made_of_pairs (map (λ (p : DieMem × DieMem). let pair : DieMem × DieMem = (p.0, p.1) in pair) pairs) ≡ made_of_pairs pairs
  same_pairs [] = refl
  same_pairs (p ∷ pairs) = ap (λ (l : List X). make (view_of p.0) (view_of p.1) ∷ l) (same_pairs pairs)

  -- all pairs were taken
  pub beside_end : (xs ys : List DieMem) (pairs : List (DieMem × DieMem)) → map (λ (p : DieMem × DieMem). let pair : DieMem × DieMem = (p.0, p.1) in pair) pairs ≡ zip xs ys → beside make (map (λ p. view_of p.0) pairs) (map (λ p. view_of p.1) pairs) ≡ beside make (map (λ d. view_of d) xs) (map (λ d. view_of d) ys)
  beside_end xs ys pairs all = sym (same_pairs pairs) ∙ ap (λ (l : List (DieMem × DieMem)). made_of_pairs l) all ∙ beside_zip xs ys

-- one plan more is short
pub short_more : (plans : List Plan) (i : ℕ) (plan : Plan) → i < length plans → plan ≡ get_or plans i plan → IsShort plan → ((k : ℕ) (d : Plan) → k < i → IsShort (get_or plans k d)) → (k : ℕ) (d : Plan) → k < i + 1 → IsShort (get_or plans k d)
short_more plans i plan within read short so_far k d below = ⊎_elim
    (λ (here : k ≡ i). subst (λ (n : ℕ). IsShort (get_or plans n d)) (sym here) (subst (λ (p : Plan). IsShort p) (get_or_read plans i plan within read d) short))
    (λ (apart : k ≢ i). so_far k d (grind arith))
    (one_number k i)
