-- Lists with one element more at the end.
use Rattle.std.proofs.Common.{◌≡◌, inl, inr, ◌⊎◌, List, [], ◌∷◌, ◌++◌, Option, None, Some, Bool, true, false, refl, ap, ◌∙◌, sym}
use Rattle.std.specs.Prelude.{if◌then◌else◌}

pub if_some : {A : Type 0} → (b : Bool) (o : Option A) (x : A) → (if b then o else None) ≡ Some x → (b ≡ true) × (o ≡ Some x)
if_some true o x is = (refl, is)
if_some false o x is = cc

pub some_same : {A : Type 0} → (x y : A) → Some x ≡ Some y → x ≡ y
some_same x y is = cc

not_nil : {A : Type 0} → (front rest : List A) (x : A) → front ++ x ∷ rest ≡ [] → ⊥
not_nil [] rest x is = cc
not_nil (f ∷ front) rest x is = cc

-- an element of a list with one more is the last one, or stands in the list
pub split_more : {A : Type 0} → (before front rest : List A) (e x : A) → before ++ e ∷ [] ≡ front ++ x ∷ rest → ((before ≡ front) × (e ≡ x)) ⊎ ((left : List A) × (before ≡ front ++ x ∷ left))
split_more [] [] rest e x is = let same : e ≡ x = cc in inl (refl, same)
split_more [] (f ∷ front) rest e x is = let tail : [] ≡ front ++ x ∷ rest = cc in absurd (not_nil front rest x (sym tail))
split_more (b ∷ before) [] rest e x is = let same : b ≡ x = cc in inr (before, ap (λ h. h ∷ before) same)
split_more (b ∷ before) (f ∷ front) rest e x is =
    let head : b ≡ f = cc in
    let tail : before ++ e ∷ [] ≡ front ++ x ∷ rest = cc in
    elim (split_more before front rest e x tail) [
      | inl w ↦ inl (ap (λ h. h ∷ before) head ∙ ap (λ t. f ∷ t) w.0, w.1)
      | inr w ↦ inr (w.0, ap (λ h. h ∷ before) head ∙ ap (λ t. f ∷ t) w.1)
    ]
