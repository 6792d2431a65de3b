use Rattle.std.proofs.Common.{◌≡◌, Ok, false, ap, sym, ◌∙◌, rules}
use Rattle.std.proofs.lemmas.Result.{err_from_is_err_and}
use Rattle.extent_map.specs.Places.{Places}
use Rattle.image_format.specs.Layout.{entry_pages}
use Rattle.image_format.specs.Tables.{stored_files, blocks_in}
use Rattle.image_format.specs.Reading.{cover}
use Rattle.image_format.proofs.Steps.{fails_as}
use Rattle.image_format.proofs.Parts.{entered, entered_as, blocks_ok, blocks_fail, cover_fails}
use Rattle.image_format.proofs.Covers.{none_placed}
use Rattle.image_format.proofs.mounting.read_extents.Goals as goal

pub entries-requires-clause-placed : goal.entries-requires-clause-placed
entries-requires-clause-placed c = none_placed c.args.names.now c.in_ok-empty.empty false (ap (λ (s : Places). s.placed) c.in_ok-empty.ensures)

pub returns-in_err-entries-clause-value : goal.returns-in_err-entries-clause-value
returns-in_err-entries-clause-value c =
    let h = c.args.h in
    let files = stored_files c.args.names.now in
    let count : c.div_ceil-count.result ≡ entry_pages h.blocks = rw c.div_ceil-count.ensures (search rules) in
    let all = entered_as h files c.args.bytes.now c.in_ok-empty.empty c.div_ceil-count.result c.record_page_count.result c.in_ok-empty.ensures count c.record_page_count.ensures in
    let p = err_from_is_err_and c.from_residual-in_err-entries.result c.from_residual-in_err-entries.ensures.1 in
    rw (p.1, p.2) (blocks_fail c.in_err-entries.field-0.0 h files c.args.bytes.now (fails_as c.in_err-entries.field-0.0 (entered h files c.args.bytes.now) _ (sym all) c.in_err-entries.ensures.value))

pub returns-in_err-all_covered-clause-value : goal.returns-in_err-all_covered-clause-value
returns-in_err-all_covered-clause-value c =
    let h = c.args.h in
    let files = stored_files c.args.names.now in
    let count : c.div_ceil-count.result ≡ entry_pages h.blocks = rw c.div_ceil-count.ensures (search rules) in
    let all = entered_as h files c.args.bytes.now c.in_ok-empty.empty c.div_ceil-count.result c.record_page_count.result c.in_ok-empty.ensures count c.record_page_count.ensures in
    let p = err_from_is_err_and c.from_residual-in_err-all_covered.result c.from_residual-in_err-all_covered.ensures.1 in
    rw (p.1, p.2) (cover_fails c.in_err-all_covered.field-0.0 h files c.args.bytes.now (cover c.entries.new.so_far) (sym all ∙ c.in_ok-entries.ensures.value) c.in_err-all_covered.ensures.value)

pub returns-clause-value : goal.returns-clause-value
returns-clause-value c =
    let h = c.args.h in
    let files = stored_files c.args.names.now in
    let count : c.div_ceil-count.result ≡ entry_pages h.blocks = rw c.div_ceil-count.ensures (search rules) in
    let all = entered_as h files c.args.bytes.now c.in_ok-empty.empty c.div_ceil-count.result c.record_page_count.result c.in_ok-empty.ensures count c.record_page_count.ensures in
    blocks_ok h files c.args.bytes.now (cover c.entries.new.so_far) (sym all ∙ c.in_ok-entries.ensures.value) c.in_ok-all_covered.ensures.value ∙ ap (λ (s : Places). Ok (blocks_in s)) (sym c.in_ok-all_covered.ensures.map)
