use Rattle.std.proofs.Common.{◌≡◌, ◌≤◌, ◌+◌, ◌*◌, ◌-◌, ◌++◌, length, drop, replicate}
use Rattle.extent_map.specs.Places.{runs}
use Rattle.image_format.specs.Numbers.{part}
use Rattle.image_format.specs.Encoding.{entry_part}
use Rattle.image_format.proofs.pages.entry_page.Given as goal

abbrev pub invariant-loop-k : goal.invariant-loop-k
invariant-loop-k l = record {
  value : l.into ≡ part (entry_part l.blocks (runs l.map.placed)) (4096 * l.i) (16 * l.k) ++ replicate (4096 - 16 * l.k) 0;
  within : l.at ≤ length l.map.placed;
  rest : runs (drop l.at l.map.placed) ≡ drop (256 * l.i + l.k) (runs l.map.placed);
}
