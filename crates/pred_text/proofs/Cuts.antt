-- Where a run is cut.
use Rattle.std.proofs.Common.{◌≡◌, ◌≤◌, List, length, Bool, not, arith}
use Rattle.std.specs.List.{position, position_or_len}
use Rattle.std.proofs.lemmas.List.Sums.{prefix_len-le-length}
use Rattle.std.specs.Option.{unwrap_or}

pub position_or : {X : Type 0} (p : X → Bool) (xs : List X) → (unwrap_or (position p xs) (length xs) ≡ position_or_len p xs) × (position_or_len p xs ≤ length xs)
position_or p xs = let w = prefix_len-le-length (λ x. not (p x)) xs in (grind (arith, w), w)
