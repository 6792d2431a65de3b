use Rattle.std.proofs.Common.{◌≡◌, ap, ◌∙◌}
use Rattle.image_format.specs.Image.{mounts_to}
use Rattle.image_format.specs.Encoding.{image_bytes}
use Rattle.image_format.specs.Whole.{IsValid}
use Rattle.image_format.proofs.Imaged.{image_made}
use Rattle.image_format.proofs.Remounting.{remounted}
use Rattle.image_format.proofs.image.image_of.Goals as goal

pub returns-clause-bytes : goal.returns-clause-bytes
returns-clause-bytes c =
    image_made c.args.meta.now c.args.blocks.now c.in_ok-bytes.bytes.items c.add_meta.new.into.items c.add_blocks.new.into.items c.in_ok-bytes.ensures.items c.in_ok-add_meta.ensures c.in_ok-add_blocks.ensures.value

pub returns-clause-mounts : goal.returns-clause-mounts
returns-clause-mounts c whole =
    let m = c.args.meta.now in
    let body = c.args.blocks.now in
    let valid : IsValid m body = record {
      drive = c.blocks-drive.ensures.limits;
      table = c.len-names.ensures.sound;
      sound = c.blocks-extents.ensures.sound;
      whole = c.in_ok-add_blocks.ensures.whole;
    } in
    let bytes : c.add_blocks.new.into.items ≡ image_bytes m body =
    image_made m body c.in_ok-bytes.bytes.items c.add_meta.new.into.items c.add_blocks.new.into.items c.in_ok-bytes.ensures.items c.in_ok-add_meta.ensures c.in_ok-add_blocks.ensures.value in
    ap mounts_to bytes ∙ remounted m body valid whole
