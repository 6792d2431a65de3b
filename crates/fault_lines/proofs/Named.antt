-- Which numbers the plans of lines list.
use Rattle.std.proofs.Common.{◌≡◌, ℕ, Bool, true, false, List, [], ◌∷◌, ◌++◌, refl, sym, ap, ◌∙◌, arith}
use Rattle.std.specs.Prelude.{◌==◌, ◌&&◌, ◌||◌, if◌then◌else◌}
use Rattle.std.specs.List.{list_any}
use Rattle.std.proofs.lemmas.Bool.Decides.{nat_tests}
use Rattle.edge_io.specs.Memory.{is_listed}
use Rattle.script_words.specs.declared.script.FaultLine.{FaultLine}
use Rattle.fault_lines.specs.Lines.{is_about, listing, numbers_of}

any_both : (test : ℕ → Bool) (xs ys : List ℕ) → list_any test (xs ++ ys) ≡ (list_any test xs || list_any test ys)
any_both test [] ys = refl
any_both test (x ∷ xs) ys = either (test x) (any_both test xs ys)
  where
    either : (t : Bool) → list_any test (xs ++ ys) ≡ (list_any test xs || list_any test ys) → (t || list_any test (xs ++ ys)) ≡ ((t || list_any test xs) || list_any test ys)
    either true e = refl
    either false e = e

or_nothing : (a : Bool) → (a || false) ≡ a
or_nothing true = refl
or_nothing false = refl

or_comm : (a b : Bool) → (a || b) ≡ (b || a)
or_comm true true = refl
or_comm true false = refl
or_comm false true = refl
or_comm false false = refl

same_number : (m n : ℕ) (xs : List ℕ) → is_listed m xs ≡ true → (m == n) ≡ true → is_listed n xs ≡ true
same_number m n xs l e = let s : m ≡ n = grind (arith, nat_tests) in ap (λ (k : ℕ). is_listed k xs) (sym s) ∙ l

-- one number more
pub listed_more : (n m : ℕ) (xs : List ℕ) → is_listed n (listing m xs) ≡ ((m == n) || is_listed n xs)
listed_more n m xs = go (is_listed m xs) refl (m == n) refl
  where
    go : (t : Bool) → is_listed m xs ≡ t → (u : Bool) → (m == n) ≡ u → is_listed n (if t then xs else xs ++ m ∷ []) ≡ (u || is_listed n xs)
    go true a true b = same_number m n xs a b
    go true a false b = refl
    go false a u b = any_both (λ k. k == n) xs (m ∷ []) ∙ (ap (λ (z : Bool). is_listed n xs || z) (or_nothing (m == n) ∙ b) ∙ or_comm (is_listed n xs) u)

-- a number is listed exactly where a line names that call
pub numbers_named : (copy writing : Bool) (die n : ℕ) (lines : List FaultLine) →
    is_listed n (numbers_of copy writing die lines) ≡ list_any (λ line. is_about copy writing die line && (line.nth == n)) lines
unfolding numbers_of
numbers_named copy writing die n [] = refl
numbers_named copy writing die n (line ∷ lines) = go (is_about copy writing die line) (numbers_named copy writing die n lines)
  where
    xs : List ℕ
    xs = numbers_of copy writing die lines

    more : Bool
    more = list_any (λ other. is_about copy writing die other && (other.nth == n)) lines

    go : (t : Bool) → is_listed n (numbers_of copy writing die lines) ≡ list_any (λ other. is_about copy writing die other && (other.nth == n)) lines →
        is_listed n (if t then listing line.nth (numbers_of copy writing die lines) else numbers_of copy writing die lines) ≡ ((t && (line.nth == n)) || list_any (λ other. is_about copy writing die other && (other.nth == n)) lines)
    go true ih = listed_more n line.nth (numbers_of copy writing die lines) ∙ ap (λ (z : Bool). (line.nth == n) || z) ih
    go false ih = ih
