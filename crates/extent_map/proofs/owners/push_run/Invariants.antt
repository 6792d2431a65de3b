use Rattle.std.proofs.Common.{◌≡◌, ◌+◌, ◌≤◌, ◌++◌, ℕ, length, get_or, None}
use Rattle.std.specs.List.{range_with_len}
use Rattle.std.specs.Vec.{vec_capacity}
use Rattle.extent_map.specs.Places.{owner_of, pages_on}
use Rattle.extent_map.specs.Owners.{or_else}
use Rattle.extent_map.proofs.owners.push_run.Given as goal

abbrev pub invariant-loop-k : goal.invariant-loop-k
invariant-loop-k l = record {
  placed : l.placed.items ≡ l.initial.placed.items ++ pages_on l.e.file l.e.page (range_with_len l.e.block l.k);
  owners : (b : ℕ) → get_or l.owners.items b None ≡ or_else (owner_of b (pages_on l.e.file l.e.page (range_with_len l.e.block l.k))) (get_or l.initial.owners.items b None);
  len : length l.owners.items ≡ length l.initial.owners.items;
  capacity : vec_capacity l.initial.placed ≤ vec_capacity l.placed;
  count : length l.placed.items ≡ length l.initial.placed.items + l.k;
}
