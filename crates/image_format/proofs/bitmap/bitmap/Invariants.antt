use Rattle.std.proofs.Common.{◌≡◌, ◌-◌, ◌*◌, length}
use Rattle.std.specs.List.{range_with_len, find}
use Rattle.image_format.specs.Bitmap.{is_stray}
use Rattle.image_format.specs.Tables.{blocks_in}
use Rattle.image_format.proofs.bitmap.bitmap.Given as goal

abbrev pub invariant-loop-b : goal.invariant-loop-b
invariant-loop-b l = find (is_stray l.bits (blocks_in l.map)) (range_with_len l.b (8 * length l.bits - l.b)) ≡ find (is_stray l.bits (blocks_in l.map)) (range_with_len 0 (8 * length l.bits))
