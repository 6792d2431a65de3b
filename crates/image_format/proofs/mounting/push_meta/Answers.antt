use Rattle.std.proofs.Common.{◌++◌, ◌∷◌, [], map, ap, sym, ◌∙◌, append_assoc}
use Rattle.std.specs.List.{range_with_len}
use Rattle.image_format.specs.Encoding.{meta_page}
use Rattle.image_format.proofs.Marks.{range_more}
use Rattle.image_format.proofs.mounting.push_meta.Goals as goal

pub loop-i-preserved : goal.loop-i-preserved
loop-i-preserved c =
    let m = c.args.meta.now in
    let made = map (meta_page m) (range_with_len 0 c.loop-i.i) in
    c.in_ok-push.ensures.items ∙ ap (λ p. c.loop-i.into.items ++ p ∷ []) c.meta_page.ensures ∙ ap (λ ps. ps ++ meta_page m c.loop-i.i ∷ []) c.loop-i.invariant
    ∙ append_assoc c.args.into.now.items made (meta_page m c.loop-i.i ∷ []) ∙ ap (λ ps. c.args.into.now.items ++ ps) (sym (range_more (meta_page m) c.loop-i.i))
