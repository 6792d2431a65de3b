use Rattle.std.proofs.Common.{◌≡◌, ◌*◌, ◌-◌, ◌++◌, length, replicate}
use Rattle.image_format.specs.Numbers.{part}
use Rattle.image_format.specs.Encoding.{record_part}
use Rattle.image_format.proofs.pages.record_page.Given as goal

abbrev pub invariant-loop-k : goal.invariant-loop-k
invariant-loop-k l = record {
  value : l.into ≡ part (record_part l.names.files) (4096 * l.i) (128 * l.k) ++ replicate (4096 - 128 * l.k) 0;
  whole : length l.into ≡ 4096;
}
