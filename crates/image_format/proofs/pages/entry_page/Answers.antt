use Rattle.std.proofs.Common.{◌≡◌, ◌+◌, ◌-◌, ◌*◌, ◌≤◌, ◌++◌, length, drop, replicate, ap, ◌∙◌, refl, arith}
use Rattle.std.specs.Prelude.{slice_get}
use Rattle.std.proofs.lemmas.List.{drop-drop}
use Rattle.page_base.specs.Bytes.{patched}
use Rattle.extent_map.specs.Places.{runs}
use Rattle.image_format.specs.Numbers.{part}
use Rattle.image_format.specs.Encoding.{entry_part, entry_at}
use Rattle.image_format.proofs.Areas.{filled_none, filled_step, filled_all, get_behind}
use Rattle.image_format.proofs.Written.{entry_length, entry_slot, entry_short, fewer_runs}
use Rattle.image_format.proofs.pages.entry_page.Goals as goal

pub loop-k-init : goal.loop-k-init
loop-k-init c =
    let none : 256 * c.args.i ≡ 256 * c.args.i + 0 = omega arith in
    record {
      value = filled_none (entry_part c.args.blocks (runs c.args.map.now.placed)) _ c.args.into.now (4096 * c.args.i) (16 * 0) refl c.clear_from.ensures.value;
      within = c.run_start-at.ensures.within;
      rest = c.run_start-at.ensures.value ∙ ap (λ n. drop n (runs c.args.map.now.placed)) none;
    }

pub loop-k-preserved : goal.loop-k-preserved
loop-k-preserved c =
    let placed = c.args.map.now.placed in
    let es = runs placed in
    let area = entry_part c.args.blocks es in
    let a = 4096 * c.args.i in
    let k = c.loop-k.k in
    let j = 256 * c.args.i + k in
    let few : length es ≤ c.args.blocks = omega (arith, fewer_runs placed, c.blocks-blocks.ensures.sound.count, c.requires.size) in
    let fields : slice_get (runs (drop c.loop-k.at placed)) 0 ≡ slice_get es j = ap (λ xs. slice_get xs 0) c.loop-k.invariant.rest ∙ get_behind es j in
    let next = filled_step area c.loop-k.into (entry_at (slice_get es j)) a (16 * k) 16 c.loop-k.invariant.value (omega (arith, entry_length c.args.blocks es few, c.requires.page)) (omega arith) (entry_short (slice_get es j)) (entry_slot c.args.blocks es j (a + 16 * k) few (omega arith) (omega (arith, c.requires.page))) in
    let more : 16 * k + 16 ≡ 16 * (k + 1) = omega arith in
    let step : j + 1 ≡ 256 * c.args.i + (k + 1) = omega arith in
    record {
      value = c.put_entry-at.ensures.value ∙ ap (λ o. patched c.loop-k.into (16 * k) (entry_at o)) fields ∙ next ∙ ap (λ n. part area a n ++ replicate (4096 - n) 0) more;
      within = c.put_entry-at.ensures.within;
      rest = c.put_entry-at.ensures.next ∙ ap (drop 1) c.loop-k.invariant.rest ∙ drop-drop 1 j es ∙ ap (λ n. drop n es) step;
    }

pub returns : goal.returns
returns c = filled_all (entry_part c.args.blocks (runs c.args.map.now.placed)) c.loop-k.into (4096 * c.args.i) (16 * c.loop-k.k) (omega arith) c.loop-k.invariant.value
