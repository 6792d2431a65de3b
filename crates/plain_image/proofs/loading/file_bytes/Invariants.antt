use Rattle.std.proofs.Common.{◌≡◌, ◌*◌, length, take, drop}
use Rattle.std.specs.List.{flat_map}
use Rattle.image_format.specs.Tables.{blocks_in}
use Rattle.image_format.specs.Whole.{content_of}
use Rattle.plain_image.proofs.loading.file_bytes.Given as goal

abbrev pub invariant-loop-k : goal.invariant-loop-k
invariant-loop-k l = record {
  value : l.bytes.items ≡ flat_map (content_of l.meta l.body) (take l.k (drop l.before (blocks_in l.meta.extents)));
  len : length l.bytes.items ≡ 4096 * l.k;
}
