use Rattle.std.proofs.Common.{◌≡◌, ◌*◌, ◌-◌, ◌++◌, replicate}
use Rattle.image_format.specs.Numbers.{part}
use Rattle.image_format.specs.Encoding.{bits_part}
use Rattle.image_format.proofs.pages.bits_page.Given as goal

abbrev pub invariant-loop-k : goal.invariant-loop-k
invariant-loop-k l = l.into ≡ part (bits_part l.blocks l.written) (4096 * l.i) l.k ++ replicate (4096 - l.k) 0
