use Rattle.std.proofs.Common.{◌≡◌, ◌++◌, ◌*◌}
use Rattle.image_format.specs.Numbers.{part}
use Rattle.image_format.specs.Encoding.{meta_bytes}
use Rattle.image_format.proofs.image.add_meta.Given as goal

abbrev pub invariant-loop-i : goal.invariant-loop-i
invariant-loop-i l = l.into.items ≡ l.initial.into.items ++ part (meta_bytes l.meta) 0 (4096 * l.i)
