-- What a row of steps that succeeded says of each of them.
use Rattle.std.proofs.Common.{◌≡◌, ℕ, zero, suc, ◌+◌, ◌<◌, ◌≤◌, List, [], ◌∷◌, Bool, true, false, cond, Option, Some, None, Result, Ok, Err, inl, inr, refl, subst, arith}
use Rattle.std.specs.Prelude.{⊤}
use Rattle.std.specs.List.{find, range_with_len, AllByRecursion}
use Rattle.std.proofs.lemmas.Bool.{cases_eq}
use Rattle.image_format.specs.declared.faults.ImageKind.{ImageKind}
use Rattle.image_format.specs.declared.faults.ImageFault.{ImageFault}
use Rattle.image_format.specs.Faults.{◌>>=◌, demand}

-- the first step succeeded, and so did the rest
pub record Went {A B : Type 0} (r : Result A ImageFault) (f : A → Result B ImageFault) (y : B) : Type 0 where
  pub value : A
  pub first : r ≡ Ok value
  pub rest : f value ≡ Ok y

pub went : {A B : Type 0} (r : Result A ImageFault) (f : A → Result B ImageFault) (y : B) → (r >>= f) ≡ Ok y → Went r f y
went (Ok x) f y is = record { value = x; first = refl; rest = is }
went (Err e) f y is = absurd cc

pub passed : {A : Type 0} (b : Bool) (kind : ImageKind) (place : ℕ) (f : ⊤ → Result A ImageFault) (y : A) → (demand b kind place >>= f) ≡ Ok y → (b ≡ true) × (f tt ≡ Ok y)
passed true kind place f y is = (refl, is)
passed false kind place f y is = absurd cc

abbrev ok : {A : Type 0} → A → Result A ImageFault
ok x = Ok x

pub same_ok : {A : Type 0} (x y : A) → ok x ≡ ok y → x ≡ y
same_ok x y is = cc

-- ---- searches that found nothing

first_is : {X : Type 0} (t : Bool) (x : X) (rest : Option X) → cond t (Some x) rest ≡ None → (t ≡ false) × (rest ≡ None)
first_is true x rest is = absurd cc
first_is false x rest is = (refl, is)

pub none_in_range : (p : ℕ → Bool) (a n k : ℕ) → find p (range_with_len a n) ≡ None → a ≤ k → k < a + n → p k ≡ false
none_in_range p a zero k is low high = absurd (omega (arith, low, high))
none_in_range p a (suc n) k is low high =
    let first = first_is (p a) a (find p (range_with_len (a + 1) n)) is in
    elim (cases_eq a k) [
      | inl same ↦ subst (λ (x : ℕ). p x ≡ false) same first.0
      | inr apart ↦ none_in_range p (a + 1) n k first.1 (omega (arith, apart, low)) (omega (arith, high))
    ]

pub none_at_all : {X : Type 0} (p : X → Bool) (xs : List X) → find p xs ≡ None → AllByRecursion (λ x. p x ≡ false) xs
none_at_all p [] is = tt
none_at_all p (x ∷ xs) is =
    let first = first_is (p x) x (find p xs) is in (first.0, none_at_all p xs first.1)
