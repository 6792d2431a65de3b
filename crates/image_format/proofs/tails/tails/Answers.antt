use Rattle.std.proofs.Common.{◌≡◌, ◌+◌, None, ap, sym, ◌∙◌, refl, arith}
use Rattle.std.specs.Prelude.{slice_get, option_map, option_copied}
use Rattle.std.proofs.lemmas.Option.{slice_get-map, slice_get_within}
use Rattle.image_format.specs.declared.faults.ImageKind.TheVariants.{Tail}
use Rattle.image_format.specs.Faults.{fault}
use Rattle.image_format.specs.Tails.{shares, has_tail}
use Rattle.image_format.specs.Tables.{stored_of, stored_files, blocks_in}
use Rattle.image_format.proofs.Cursors.{stored_at}
use Rattle.image_format.proofs.Ends.{share_at, pages_left, tail_here, tail_later, tail_none, no_tail, some_tail}
use Rattle.image_format.proofs.tails.tails.Goals as goal

pub loop-file-init : goal.loop-file-init
loop-file-init c = record { rest = omega (arith, c.requires.covered); value = refl }

pub has_tail-requires-clause-covered : goal.has_tail-requires-clause-covered
has_tail-requires-clause-covered c =
    let f = c.in-Some.file.now in
    let files = stored_files c.args.names.now in
    omega (arith, c.loop-file.invariant.rest, pages_left files c.loop-file.i (stored_of f) (stored_at c.args.names.now.files c.loop-file.i f (sym c.in-Some.ensures.value)))

pub returns-then-has_tail : goal.returns-then-has_tail
returns-then-has_tail c =
    let f = c.in-Some.file.now in
    let files = stored_files c.args.names.now in
    let bs = blocks_in c.args.map.now in
    let p = has_tail c.args.bits.now c.args.body.now in
    let share = share_at (stored_of f) c.loop-file.start bs in
    let here = stored_at c.args.names.now.files c.loop-file.i f (sym c.in-Some.ensures.value) in
    some_tail c.args.bits.now c.args.body.now (shares files bs) share (tail_here p files bs c.loop-file.i c.loop-file.start (stored_of f) _ here (sym (c.has_tail.ensures share refl refl) ∙ c.if-has_tail.true) c.loop-file.invariant.value)
    ∙ ap (λ k. fault Tail k) (sym c.from.ensures)

pub loop-file-preserved : goal.loop-file-preserved
loop-file-preserved c =
    let f = c.in-Some.file.now in
    let files = stored_files c.args.names.now in
    let bs = blocks_in c.args.map.now in
    let p = has_tail c.args.bits.now c.args.body.now in
    let share = share_at (stored_of f) c.loop-file.start bs in
    let here = stored_at c.args.names.now.files c.loop-file.i f (sym c.in-Some.ensures.value) in
    record {
      rest = omega (arith, c.loop-file.invariant.rest, pages_left files c.loop-file.i (stored_of f) here, c.page_count-start.ensures);
      value = tail_later p files bs c.loop-file.i c.loop-file.start (c.loop-file.start + c.page_count-start.result) (stored_of f) _ here (ap (λ n. c.loop-file.start + n) c.page_count-start.ensures) (sym (c.has_tail.ensures share refl refl) ∙ c.if-has_tail.false) c.loop-file.invariant.value;
    }

pub returns : goal.returns
returns c =
    let files = stored_files c.args.names.now in
    let bs = blocks_in c.args.map.now in
    let p = has_tail c.args.bits.now c.args.body.now in
    let none : slice_get c.args.names.now.files c.loop-file.i ≡ None = sym (ap option_copied (sym c.in_default.is) ∙ c.at.ensures.value) in
    no_tail c.args.bits.now c.args.body.now (shares files bs) (tail_none p files bs c.loop-file.i c.loop-file.start _ (slice_get-map stored_of c.args.names.now.files c.loop-file.i ∙ ap (option_map stored_of) none) c.loop-file.invariant.value)

pub overflow_add-start : goal.overflow_add-start
overflow_add-start c =
    let f = c.in-Some.file.now in
    let files = stored_files c.args.names.now in
    omega (arith, c.loop-file.invariant.rest, pages_left files c.loop-file.i (stored_of f) (stored_at c.args.names.now.files c.loop-file.i f (sym c.in-Some.ensures.value)), c.page_count-start.ensures, c.blocks-blocks.ensures.sound.count, c.blocks-blocks.ensures.sound.blocks)

pub overflow_add-i : goal.overflow_add-i
overflow_add-i c = omega (arith, slice_get_within c.args.names.now.files c.loop-file.i c.in-Some.file.now (sym c.in-Some.ensures.value), c.in-Some.ensures.sound.count)

pub loop-file-smaller : goal.loop-file-smaller
loop-file-smaller c = omega (arith, slice_get_within c.args.names.now.files c.loop-file.i c.in-Some.file.now (sym c.in-Some.ensures.value))
