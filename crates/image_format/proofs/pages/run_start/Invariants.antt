use Rattle.std.proofs.Common.{◌≡◌, ◌≤◌, length, drop}
use Rattle.extent_map.specs.Places.{runs}
use Rattle.image_format.proofs.pages.run_start.Given as goal

abbrev pub invariant-loop-k : goal.invariant-loop-k
invariant-loop-k l = record {
  within : l.at ≤ length l.map.placed;
  value : runs (drop l.at l.map.placed) ≡ drop l.k (runs l.map.placed);
}
