use Rattle.std.proofs.Common.{◌≡◌, ◌-◌, ◌*◌, ap, ◌∙◌, arith, rules}
use Rattle.extent_map.specs.Places.{runs}
use Rattle.image_format.specs.Numbers.{part}
use Rattle.image_format.specs.Layout.{entry_pages}
use Rattle.image_format.specs.Encoding.{header_part, entry_part, bits_part}
use Rattle.image_format.proofs.Regions.{header_at, records_at, entries_at, bits_at}
use Rattle.image_format.proofs.pages.meta_page.Goals as goal

pub returns-then-i-eq0 : goal.returns-then-i-eq0
returns-then-i-eq0 c =
    let m = c.args.meta.now in
    c.header_page.ensures ∙ ap (header_part m.geometry) c.next_id.ensures ∙ header_at m c.args.i c.if-i-eq0.true

pub returns-then-i-lt129 : goal.returns-then-i-lt129
returns-then-i-lt129 c = c.record_page.ensures ∙ records_at c.args.meta.now c.args.i c.len-files.ensures.sound (omega arith) c.if-i-lt129.true

pub returns-then-i-entries : goal.returns-then-i-entries
returns-then-i-entries c =
    let m = c.args.meta.now in
    let i = c.args.i in
    let blocks : c.blocks-blocks.result ≡ m.geometry.blocks = c.blocks-blocks.ensures.value ∙ c.requires.size.extents in
    let entries : c.div_ceil-entries.result ≡ entry_pages m.geometry.blocks = rw (c.div_ceil-entries.ensures, blocks) (search rules) in
    c.entry_page.ensures ∙ ap (λ b. part (entry_part b (runs m.extents.placed)) (4096 * (i - 129)) 4096) blocks ∙ entries_at m i c.len-files.ensures.sound c.blocks-blocks.ensures.sound c.requires.size c.if-i-lt129.false (omega (arith, entries, c.if-i-entries.true))

pub returns : goal.returns
returns c =
    let m = c.args.meta.now in
    let i = c.args.i in
    let blocks : c.blocks-blocks.result ≡ m.geometry.blocks = c.blocks-blocks.ensures.value ∙ c.requires.size.extents in
    let entries : c.div_ceil-entries.result ≡ entry_pages m.geometry.blocks = rw (c.div_ceil-entries.ensures, blocks) (search rules) in
    c.bits_page.ensures ∙ ap (λ b. part (bits_part b m.written) (4096 * (i - 129 - c.div_ceil-entries.result)) 4096) blocks ∙ ap (λ n. part (bits_part m.geometry.blocks m.written) (4096 * (i - 129 - n)) 4096) entries
    ∙ bits_at m i c.len-files.ensures.sound c.blocks-blocks.ensures.sound c.requires.size (omega (arith, entries, c.if-i-entries.false))
