use Rattle.std.proofs.Common.{◌≡◌, ◌<◌, ◌≤◌, Some, None, length, ap, sym, ◌∙◌, refl, arith}
use Rattle.std.specs.Prelude.{slice_get, option_map, option_copied}
use Rattle.std.proofs.lemmas.Option.{slice_get-map, slice_get_within}
use Rattle.page_base.specs.Bytes.{Pages}
use Rattle.extent_map.specs.Places.{Places}
use Rattle.image_format.specs.Entries.{page_after}
use Rattle.image_format.specs.Tables.{stored_of, stored_files}
use Rattle.image_format.proofs.Cursors.{found_page, moves_on, none_left, stored_at}
use Rattle.image_format.proofs.entries.next_page.Goals as goal

pub returns-then-cover-pages-clause-value : goal.returns-then-cover-pages-clause-value
returns-then-cover-pages-clause-value c =
    let f = c.in-Some.file.now in
    let here : slice_get c.args.names.now.files c.loop-file.cover.index ≡ Some f = sym c.in-Some.ensures.value in
    let lt : c.loop-file.cover.page < Pages f.len = omega (arith, c.page_count-pages.ensures, c.if-cover-pages.true) in
    let found = found_page (length c.loop-file.cover.map.placed) c.loop-file.cover.index c.loop-file.cover.page (stored_files c.args.names.now) (stored_of f) c.loop-file.invariant.placed.cursor (stored_at c.args.names.now.files c.loop-file.cover.index f here) lt in
    rw c.page_count-pages.ensures (sym (ap (λ (s : Places). page_after (length s.placed) (stored_files c.args.names.now)) (sym c.loop-file.invariant.map) ∙ found))

pub returns-then-cover-pages-clause-page : goal.returns-then-cover-pages-clause-page
returns-then-cover-pages-clause-page c =
    let f = c.in-Some.file.now in
    let here : slice_get c.args.names.now.files c.loop-file.cover.index ≡ Some f = sym c.in-Some.ensures.value in
    (refl, record { file = stored_of f; here = stored_at c.args.names.now.files c.loop-file.cover.index f here; id = refl; left = omega (arith, c.page_count-pages.ensures, c.if-cover-pages.true) })

pub loop-file-smaller : goal.loop-file-smaller
loop-file-smaller c =
    let f = c.in-Some.file.now in
    let here : slice_get c.args.names.now.files c.loop-file.cover.index ≡ Some f = sym c.in-Some.ensures.value in
    omega (arith, slice_get_within c.args.names.now.files c.loop-file.cover.index f here)

pub loop-file-preserved : goal.loop-file-preserved
loop-file-preserved c =
    let f = c.in-Some.file.now in
    let here : slice_get c.args.names.now.files c.loop-file.cover.index ≡ Some f = sym c.in-Some.ensures.value in
    let past : Pages f.len ≤ c.loop-file.cover.page = omega (arith, c.page_count-pages.ensures, c.if-cover-pages.false) in
    let cursor = moves_on (length c.loop-file.cover.map.placed) c.loop-file.cover.index c.loop-file.cover.page (stored_files c.args.names.now) (stored_of f) c.loop-file.invariant.placed.cursor (stored_at c.args.names.now.files c.loop-file.cover.index f here) past in
    record { placed = record { places = c.loop-file.invariant.placed.places; cursor = cursor }; map = c.loop-file.invariant.map; ended = c.loop-file.invariant.ended }

pub returns-clause-value : goal.returns-clause-value
returns-clause-value c =
    let here : slice_get c.args.names.now.files c.loop-file.cover.index ≡ None = sym (ap option_copied (sym c.in_default.is) ∙ c.at.ensures.value) in
    let none = none_left (length c.loop-file.cover.map.placed) c.loop-file.cover.index c.loop-file.cover.page (stored_files c.args.names.now) c.loop-file.invariant.placed.cursor (slice_get-map stored_of c.args.names.now.files c.loop-file.cover.index ∙ ap (option_map stored_of) here) in
    sym (ap (λ (s : Places). page_after (length s.placed) (stored_files c.args.names.now)) (sym c.loop-file.invariant.map) ∙ none)
