use Rattle.std.proofs.Common.{◌≡◌, ◌-◌, ◌++◌, map, replicate, false}
use Rattle.std.specs.List.{range_with_len}
use Rattle.image_format.specs.Bitmap.{is_set}
use Rattle.image_format.proofs.bitmap.written_in.Given as goal

abbrev pub invariant-loop-b : goal.invariant-loop-b
invariant-loop-b l = l.written ≡ map (is_set l.bits) (range_with_len 0 l.b) ++ replicate (l.blocks - l.b) false
