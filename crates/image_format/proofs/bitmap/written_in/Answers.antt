use Rattle.std.proofs.Common.{◌≡◌, ◌-◌, ◌∙◌, set, replicate, false, ap, arith}
use Rattle.image_format.specs.Bitmap.{is_set, written_in}
use Rattle.image_format.proofs.Marks.{bits_within, bits_step, bits_done}
use Rattle.image_format.proofs.bitmap.written_in.Goals as goal

pub loop-b-init : goal.loop-b-init
loop-b-init c =
    let all : c.args.blocks ≡ c.args.blocks - 0 = omega arith in
    c.in_ok-written.ensures ∙ ap (λ n. replicate n false) all

pub set-requires : goal.set-requires
set-requires c = bits_within (is_set c.args.bits.now) c.args.blocks c.loop-b.b c.loop-b.written c.loop-b-test.true c.loop-b.invariant

pub loop-b-preserved : goal.loop-b-preserved
loop-b-preserved c = c.set.ensures ∙ ap (set c.loop-b.written c.loop-b.b) c.is_set.ensures ∙ bits_step (is_set c.args.bits.now) c.args.blocks c.loop-b.b c.loop-b.written c.loop-b-test.true c.loop-b.invariant

pub returns : goal.returns
unfolding written_in
returns c = bits_done (is_set c.args.bits.now) c.args.blocks c.loop-b.b c.loop-b.written (omega arith) c.loop-b.invariant
