use Rattle.std.proofs.Common.{◌≡◌, ◌+◌, ◌-◌, ℕ, List}
use Rattle.std.specs.List.{find, range_with_len}
use Rattle.extent_map.specs.declared.places.Place.{Place}
use Rattle.extent_map.specs.Places.{is_used}
use Rattle.extent_map.specs.Owners.{TellsOwners}
use Rattle.extent_map.proofs.owners.first_owned.Given as goal

abbrev pub invariant-loop-k : goal.invariant-loop-k
invariant-loop-k l = (blocks : ℕ) (ps : List Place) → TellsOwners l.owners blocks ps → find (λ b. is_used b ps) (range_with_len (l.from + l.k) (l.count - l.k)) ≡ find (λ b. is_used b ps) (range_with_len l.from l.count)
