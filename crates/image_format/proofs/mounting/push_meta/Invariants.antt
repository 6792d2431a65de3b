use Rattle.std.proofs.Common.{◌≡◌, ◌++◌, map}
use Rattle.std.specs.List.{range_with_len}
use Rattle.image_format.specs.Encoding.{meta_page}
use Rattle.image_format.proofs.mounting.push_meta.Given as goal

abbrev pub invariant-loop-i : goal.invariant-loop-i
invariant-loop-i l = l.into.items ≡ l.initial.into.items ++ map (meta_page l.meta) (range_with_len 0 l.i)
