use Rattle.std.proofs.Common.{◌≡◌, ◌+◌, ◌++◌, length, take, drop, ap, sym, ◌∙◌, arith}
use Rattle.std.specs.List.{flat_map}
use Rattle.std.proofs.lemmas.List.{length-take}
use Rattle.image_format.specs.Tables.{blocks_in}
use Rattle.image_format.specs.Whole.{content_of}
use Rattle.image_format.proofs.Ends.{place_below, no_place}
use Rattle.plain_image.proofs.Steps.{block_more}
use Rattle.plain_image.proofs.loading.file_bytes.Goals as goal
use Rattle.plain_image.proofs.loading.file_bytes.Goals.{in-Some+in_ok-add_block, in_default}

pub loop-k-init : goal.loop-k-init
loop-k-init c = record { value = c.in_ok-bytes.ensures.items; len = ap length c.in_ok-bytes.ensures.items }

pub add_block-requires-clause-written : goal.add_block-requires-clause-written
add_block-requires-clause-written c =
    let sound = c.blocks-blocks.ensures.sound in
    let m = c.args.meta.now in
    let below = place_below m.extents.blocks m.extents.placed (c.args.before + c.loop-k.k) c.in-Some.place sound.within (sym c.place_at.ensures ∙ c.in-Some.is) in
    omega (arith, below, c.requires.placed.size.extents, c.requires.placed.size.written)

pub add_block-requires-clause-body : goal.add_block-requires-clause-body
add_block-requires-clause-body c =
    let sound = c.blocks-blocks.ensures.sound in
    let m = c.args.meta.now in
    let below = place_below m.extents.blocks m.extents.placed (c.args.before + c.loop-k.k) c.in-Some.place sound.within (sym c.place_at.ensures ∙ c.in-Some.is) in
    omega (arith, below, c.requires.placed.size.extents, c.requires.placed.pages)

pub loop-k-preserved : goal.loop-k-preserved
loop-k-preserved c =
    let m = c.args.meta.now in
    let content = content_of m c.args.body.now in
    let k = c.loop-k.k in
    elim c.match-place_at.branch [
      | in-Some+in_ok-add_block w ↦ record {
        value = ap (λ v. v.items) w.bytes-is ∙ w.in_ok-add_block.ensures.value ∙ ap (λ ys. ys ++ content w.in-Some.place.block) c.loop-k.invariant.value
            ∙ sym (block_more content m.extents.placed c.args.before k w.in-Some.place (sym c.place_at.ensures ∙ w.in-Some.is));
        len = ap (λ v. length v.items) w.bytes-is ∙ omega (arith, w.in_ok-add_block.ensures.len, c.loop-k.invariant.len);
      }
      | in_default w ↦ absurd (no_place m.extents.placed (c.args.before + k) (sym w.in_default.is ∙ c.place_at.ensures) (omega (arith, c.loop-k-test.true, c.page_count-pages.ensures, c.requires.there)))
    ]

pub returns-clause-value : goal.returns-clause-value
returns-clause-value c =
    let m = c.args.meta.now in
    let k : c.loop-k.k ≡ c.page_count-pages.result = omega (arith, c.loop-k-test.false, c.loop-k.auto.k-end) in
    c.new.ensures ∙ c.truncate.ensures.items ∙ ap (take c.args.len) (c.loop-k.invariant.value ∙ ap (λ n. flat_map (content_of m c.args.body.now) (take n (drop c.args.before (blocks_in m.extents)))) (k ∙ c.page_count-pages.ensures))

pub returns-clause-len : goal.returns-clause-len
returns-clause-len c =
    let k : c.loop-k.k ≡ c.page_count-pages.result = omega (arith, c.loop-k-test.false, c.loop-k.auto.k-end) in
    ap length c.new.ensures ∙ omega (arith, ap length c.truncate.ensures.items, length-take c.args.len c.loop-k.bytes.items, c.loop-k.invariant.len, k, c.page_count-pages.ensures)
