use Rattle.std.proofs.Common.{◌≡◌, ◌++◌, replicate, false, get_or, ap, sym, ◌∙◌, []}
use Rattle.std.proofs.lemmas.Bool.{cond-false}
use Rattle.image_format.specs.Whole.{content_of}
use Rattle.plain_image.proofs.Steps.{block_read}
use Rattle.plain_image.proofs.loading.add_block.Goals as goal
use Rattle.plain_image.proofs.loading.add_block.Goals.{then-get, else-get}

pub returns-clause-value : goal.returns-clause-value
returns-clause-value c =
    let m = c.args.meta.now in
    let b = c.args.block in
    let body = c.args.body.now in
    let piece : c.if-get.piece ≡ content_of m body b = elim c.if-get.branch [
      | then-get w ↦ w.piece-is ∙ block_read m.written body b c.get.result w.index-body-block.result w.read.new.into c.get.ensures.value w.if-get.true w.index-body-block.is c.requires.body w.read.ensures.whole w.read.ensures.value
      | else-get w ↦ w.piece-is ∙ sym (cond-false (get_or m.written b false) (get_or body b []) (replicate 4096 0) (sym c.get.ensures.value ∙ w.if-get.false))
    ] in
    c.in_ok-extend_from_slice.ensures.items ∙ ap (λ ys. c.args.into.now.items ++ ys) piece
