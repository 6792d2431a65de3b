use Rattle.std.proofs.Common.{◌≡◌, ◌+◌, ◌-◌, ◌*◌, suc, length, ap, sym, ◌∙◌, arith}
use Rattle.std.specs.List.{find, range_with_len}
use Rattle.image_format.specs.declared.faults.ImageKind.TheVariants.{Bitmap}
use Rattle.image_format.specs.Faults.{fault}
use Rattle.image_format.specs.Bitmap.{is_stray}
use Rattle.image_format.specs.Tables.{blocks_in}
use Rattle.image_format.proofs.Marks.{stray_none, stray_some, found_here, found_later, found_none}
use Rattle.image_format.proofs.bitmap.bitmap.Goals as goal

pub loop-b-init : goal.loop-b-init
loop-b-init c =
    let all : 8 * length c.args.bits.now - 0 ≡ 8 * length c.args.bits.now = omega arith in
    ap (λ n. find (is_stray c.args.bits.now (blocks_in c.args.map.now)) (range_with_len 0 n)) all

pub returns-then-is_stray : goal.returns-then-is_stray
returns-then-is_stray c =
    let b = c.loop-b.b in
    let n = 8 * length c.args.bits.now in
    let left : n - b ≡ suc (n - (b + 1)) = omega (arith, c.loop-b-test.true) in
    stray_some (blocks_in c.args.map.now) c.args.bits.now b (found_here (is_stray c.args.bits.now (blocks_in c.args.map.now)) b (n - b) (n - (b + 1)) _ left (sym c.is_stray.ensures ∙ c.if-is_stray.true) c.loop-b.invariant) ∙ ap (λ k. fault Bitmap k) (sym c.from.ensures)

pub loop-b-preserved : goal.loop-b-preserved
loop-b-preserved c =
    let b = c.loop-b.b in
    let n = 8 * length c.args.bits.now in
    let left : n - b ≡ suc (n - (b + 1)) = omega (arith, c.loop-b-test.true) in
    found_later (is_stray c.args.bits.now (blocks_in c.args.map.now)) b (n - b) (n - (b + 1)) _ left (sym c.is_stray.ensures ∙ c.if-is_stray.false) c.loop-b.invariant

pub returns : goal.returns
returns c =
    let n = 8 * length c.args.bits.now in
    stray_none (blocks_in c.args.map.now) c.args.bits.now (found_none (is_stray c.args.bits.now (blocks_in c.args.map.now)) c.loop-b.b (n - c.loop-b.b) _ (omega (arith, c.loop-b-test.false)) c.loop-b.invariant)
