use Rattle.std.proofs.Common.{◌≡◌, ◌+◌, ◌-◌, ◌≤◌, length, drop}
use Rattle.extent_map.proofs.Extents.{more_of}
use Rattle.extent_map.proofs.order.run_from.Given as goal

abbrev pub invariant-loop-count : goal.invariant-loop-count
invariant-loop-count l = record {
  some : 1 ≤ l.count;
  within : l.at + l.count ≤ length l.placed;
  total : l.count + more_of l.first.file (l.first.page + l.count) (l.first.block + l.count) (drop (l.at + l.count) l.placed) ≡ 1 + more_of l.first.file (l.first.page + 1) (l.first.block + 1) (drop (l.at + 1) l.placed);
}

abbrev pub decreases-loop-count : goal.decreases-loop-count
decreases-loop-count l = length l.placed - (l.at + l.count)
