use Rattle.std.proofs.Common.{◌≡◌, ◌-◌, length, drop}
use Rattle.std.specs.Prelude.{slice_get}
use Rattle.extent_map.specs.Places.{runs}
use Rattle.extent_map.proofs.map.ExtentMap.extent.Given as goal

abbrev pub invariant-loop-at : goal.invariant-loop-at
invariant-loop-at l = slice_get (runs (drop l.at l.self-inside.placed.items)) l.left ≡ slice_get (runs l.self-inside.placed.items) l.i

abbrev pub decreases-loop-at : goal.decreases-loop-at
decreases-loop-at l = length l.self-inside.placed.items - l.at
