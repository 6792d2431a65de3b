use Rattle.std.proofs.Common.{◌≡◌, ◌+◌, ◌-◌, ◌≤◌, ◌++◌, ℕ, length, take, drop, get_or, None}
use Rattle.std.specs.Vec.{vec_capacity}
use Rattle.extent_map.specs.Places.{owner_of, pages_on}
use Rattle.extent_map.specs.Owners.{or_else, unowned, HaveOwners}
use Rattle.extent_map.proofs.owners.push_free.Given as goal

abbrev pub invariant-loop-k : goal.invariant-loop-k
invariant-loop-k l = record {
  within : l.block ≤ length l.owners.items;
  len : length l.owners.items ≡ length l.initial.owners.items;
  capacity : vec_capacity l.initial.placed ≤ vec_capacity l.placed;
  count : length l.placed.items ≡ length l.initial.placed.items + l.k;
  enough : l.n - l.k ≤ length (unowned l.block (drop l.block l.owners.items));
  full : HaveOwners l.block l.owners.items;
  placed : l.placed.items ++ pages_on l.file (l.page + l.k) (take (l.n - l.k) (unowned l.block (drop l.block l.owners.items))) ≡ l.initial.placed.items ++ pages_on l.file l.page (take l.n (unowned l.lowest (drop l.lowest l.initial.owners.items)));
  owners : (b : ℕ) → or_else (owner_of b (pages_on l.file (l.page + l.k) (take (l.n - l.k) (unowned l.block (drop l.block l.owners.items))))) (get_or l.owners.items b None) ≡ or_else (owner_of b (pages_on l.file l.page (take l.n (unowned l.lowest (drop l.lowest l.initial.owners.items))))) (get_or l.initial.owners.items b None);
}
