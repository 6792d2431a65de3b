use Rattle.std.proofs.Common.{◌≡◌, ◌+◌, ◌-◌, ◌*◌, ◌++◌, replicate, ap, ◌∙◌, refl, arith}
use Rattle.std.specs.Prelude.{slice_get}
use Rattle.image_format.specs.Numbers.{part}
use Rattle.image_format.specs.Encoding.{record_part, record_at}
use Rattle.image_format.proofs.Areas.{filled_none, filled_step, filled_all}
use Rattle.image_format.proofs.Written.{record_length, record_slot, record_short}
use Rattle.image_format.proofs.pages.record_page.Goals as goal

pub loop-k-init : goal.loop-k-init
loop-k-init c = record {
  value = filled_none (record_part c.args.names.now.files) _ c.args.into.now (4096 * c.args.i) (128 * 0) refl c.clear_from.ensures.value;
  whole = c.clear_from.ensures.whole;
}

pub loop-k-preserved : goal.loop-k-preserved
loop-k-preserved c =
    let t = c.args.names.now in
    let area = record_part t.files in
    let a = 4096 * c.args.i in
    let k = c.loop-k.k in
    let j = 32 * c.args.i + k in
    let sound = c.len-len.ensures.sound in
    let next = filled_step area c.loop-k.into (record_at (slice_get t.files j)) a (128 * k) 128 c.loop-k.invariant.value (omega (arith, record_length t sound)) (omega arith) (record_short t j sound) (record_slot t j (a + 128 * k) sound (omega arith) (omega arith)) in
    let more : 128 * k + 128 ≡ 128 * (k + 1) = omega arith in
    record {
      value = c.put_record.ensures.value ∙ next ∙ ap (λ n. part area a n ++ replicate (4096 - n) 0) more;
      whole = c.put_record.ensures.whole;
    }

pub returns : goal.returns
returns c = filled_all (record_part c.args.names.now.files) c.loop-k.into (4096 * c.args.i) (128 * c.loop-k.k) (omega arith) c.loop-k.invariant.value
