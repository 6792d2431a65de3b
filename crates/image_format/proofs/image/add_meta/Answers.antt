use Rattle.std.proofs.Common.{◌∙◌, arith}
use Rattle.page_base.specs.Drive.{meta_pages}
use Rattle.image_format.specs.Encoding.{meta_bytes}
use Rattle.image_format.proofs.Imaged.{meta_more, meta_all, meta_length}
use Rattle.image_format.proofs.image.add_meta.Goals as goal

pub loop-i-preserved : goal.loop-i-preserved
loop-i-preserved c =
    c.in_ok-add_page.ensures.value ∙ meta_more (meta_bytes c.args.meta.now) c.args.into.now.items c.loop-i.into.items _ c.loop-i.i c.loop-i.invariant c.meta_page.ensures

pub returns : goal.returns
returns c =
    let m = c.args.meta.now in
    let all = meta_length m c.len-names.ensures.sound c.blocks-blocks.ensures.sound c.requires in
    meta_all (meta_bytes m) c.args.into.now.items c.loop-i.into.items c.loop-i.i (meta_pages m.geometry.blocks) all (omega (arith, c.meta_pages-i-end.ensures.value)) c.loop-i.invariant
