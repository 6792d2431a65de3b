-- What stands at a place of a list.
use Rattle.std.proofs.Common.{◌≡◌, ℕ, zero, suc, ◌<◌, List, [], ◌∷◌, length, refl, arith}
use Rattle.std.specs.Prelude.{slice_index_or}
use mathlib.Core.Option.{some}
use lib.ListN.{get_elem?}
use Rattle.turn_cell.specs.History.{Has}

-- the item of a place
pub record At {A : Type 0} (xs : List A) (k : ℕ) : Type 0 where
  pub item : A
  pub stands : get_elem? xs k ≡ some item
  pub is : (d : A) → slice_index_or xs k d ≡ item

pub at_place : {A : Type 0} (xs : List A) (k : ℕ) → k < length xs → At xs k
at_place [] k low = absurd (omega arith)
at_place (x ∷ xs) zero low = record { item = x; stands = refl; is = λ d. refl }
at_place (x ∷ xs) (suc k) low = let a = at_place xs k (omega arith) in record { item = a.item; stands = a.stands; is = a.is }

-- the place of an item
pub record Place {A : Type 0} (xs : List A) (x : A) : Type 0 where
  pub place : ℕ
  pub within : place < length xs
  pub is : slice_index_or xs place x ≡ x

has_place : {A : Type 0} (xs : List A) (x : A) (k : ℕ) → get_elem? xs k ≡ some x → Place xs x
has_place [] x k e = absurd (cc)
has_place (y ∷ xs) x zero e = record { place = 0; within = omega arith; is = cc }
has_place (y ∷ xs) x (suc k) e = let p = has_place xs x k e in let w = p.within in record { place = suc p.place; within = omega arith; is = p.is }

pub place_of : {A : Type 0} (xs : List A) (x : A) → Has xs x → Place xs x
place_of xs x h = has_place xs x h.0 h.1
