use Rattle.std.proofs.Common.{◌≡◌, ◌<◌, ◌≤◌, ℕ, length, take, cond, false, get_or, None}
use Rattle.extent_map.specs.Places.{is_used}
use Rattle.extent_map.proofs.owners.give_up.Given as goal

abbrev pub invariant-loop-place : goal.invariant-loop-place
invariant-loop-place l = record {
  owners : (b : ℕ) → get_or l.owners.items b None ≡ cond (is_used b (take l.place-index l.gone)) None (get_or l.initial.owners.items b None);
  len : length l.owners.items ≡ length l.initial.owners.items;
  low : l.low ≤ l.lowest;
  below : (b : ℕ) → b < l.low → is_used b (take l.place-index l.gone) ≡ false;
}
