-- Which records satisfy a predicate. This project's own.
use Rattle.std.specs.Prelude.{ℕ, ◌+◌, ◌*◌, ◌/◌, Bool, not, ◌&&◌, ◌||◌, nat_eq, nat_le, nat_lt, List, [], ◌∷◌, length, take, drop}
use Rattle.std.specs.List.{filter, range_with_len}
use Rattle.predicates.specs.declared.pred.PredCond.{PredCond}
use Rattle.predicates.specs.declared.pred.PredCond.TheVariants as is
use Rattle.predicates.specs.declared.pred.Pred.{Pred, Cmp, And', Or', Not', more_of-Pred, end_of-Pred}

-- the number of bytes, the low one first
abbrev pub number : List ℕ → ℕ
number [] = 0
number (b ∷ bs) = b + 256 * number bs

abbrev pub field : List ℕ → ℕ → ℕ → ℕ
field bytes off size = number (take size (drop off bytes))

abbrev pub holds : PredCond → ℕ → ℕ → Bool
holds is.Eq a b = nat_eq a b
holds is.Ne a b = not (nat_eq a b)
holds is.Gt a b = nat_lt b a
holds is.Ge a b = nat_le b a
holds is.Lt a b = nat_lt a b
holds is.Le a b = nat_le a b

abbrev pub satisfies : Pred → List ℕ → Bool
satisfies (Cmp cond off size value) bytes = holds cond (field bytes off size) value
satisfies (And' s (more_of-Pred a end_of-Pred) t (more_of-Pred b end_of-Pred)) bytes = satisfies a bytes && satisfies b bytes
satisfies (Or' s (more_of-Pred a end_of-Pred) t (more_of-Pred b end_of-Pred)) bytes = satisfies a bytes || satisfies b bytes
satisfies (Not' s (more_of-Pred a end_of-Pred)) bytes = not (satisfies a bytes)

-- how many records of this width the input has; a shorter rest is no record
abbrev pub records : ℕ → List ℕ → ℕ
records width input = length input / width

-- the record of this number, from 0
abbrev pub record_at : ℕ → List ℕ → ℕ → List ℕ
record_at width input n = take width (drop (n * width) input)

-- whether the record of this number satisfies the predicate
abbrev pub is_selected : Pred → ℕ → List ℕ → ℕ → Bool
is_selected p width input n = satisfies p (record_at width input n)

-- the numbers of the records that satisfy the predicate, rising
abbrev pub select : Pred → ℕ → List ℕ → List ℕ
select p width input = filter (is_selected p width input) (range_with_len 0 (records width input))
