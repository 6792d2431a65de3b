use Rattle.std.proofs.Common.{◌+◌, ◌*◌, ◌∷◌, [], ap, ◌∙◌, refl, arith}
use Rattle.page_base.specs.Bytes.{patched}
use Rattle.image_format.specs.Encoding.{bits_part, byte_from}
use Rattle.image_format.proofs.Areas.{filled_none, filled_step, filled_all}
use Rattle.image_format.proofs.Written.{bits_length, bits_slot}
use Rattle.image_format.proofs.pages.bits_page.Goals as goal

pub loop-k-init : goal.loop-k-init
loop-k-init c = filled_none (bits_part c.args.blocks c.args.written.now) _ c.args.into.now (4096 * c.args.i) 0 refl c.clear_from.ensures.value

pub loop-k-preserved : goal.loop-k-preserved
loop-k-preserved c =
    let written = c.args.written.now in
    let area = bits_part c.args.blocks written in
    let a = 4096 * c.args.i in
    let k = c.loop-k.k in
    let byte = byte_from written (8 * (a + k)) in
    let next = filled_step area c.loop-k.into (byte ∷ []) a k 1 c.loop-k.invariant (omega (arith, bits_length c.args.blocks written)) (omega arith) (omega arith) (bits_slot c.args.blocks written (a + k) (omega arith)) in
    c.patch.ensures.value ∙ ap (λ b. patched c.loop-k.into k (b ∷ [])) c.byte_from-byte.ensures ∙ next

pub returns : goal.returns
returns c = filled_all (bits_part c.args.blocks c.args.written.now) c.loop-k.into (4096 * c.args.i) c.loop-k.k (omega arith) c.loop-k.invariant
