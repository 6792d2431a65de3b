use Rattle.std.proofs.Common.{◌≡◌, Ok, false, ap, sym, ◌∙◌}
use Rattle.std.proofs.lemmas.Result.{err_from_is_err_and}
use Rattle.name_table.specs.Files.{Table}
use Rattle.image_format.specs.Layout.{layout}
use Rattle.image_format.specs.declared.layout.Layout.{Layout}
use Rattle.image_format.specs.Records.{records}
use Rattle.image_format.specs.Tables.{stored_files}
use Rattle.image_format.specs.Reading.{listing}
use Rattle.image_format.proofs.Steps.{fails_as}
use Rattle.image_format.proofs.Parts.{listed, files_ok, files_fail}
use Rattle.image_format.proofs.mounting.read_names.Goals as goal

pub returns-in_err-records-clause-value : goal.returns-in_err-records-clause-value
returns-in_err-records-clause-value c =
    let h = c.args.h in
    let bytes = c.args.bytes.now in
    let empty = c.in_ok-empty.empty in
    let all : records c.layout_of-layout.result h.next c.layout_of-layout.result.records 4096 (record { files = stored_files empty; last = 0; ended = false }) bytes ≡ listed h bytes =
    ap (λ (l : Layout). records l h.next l.records 4096 (record { files = stored_files empty; last = 0; ended = false }) bytes) c.layout_of-layout.ensures.value
    ∙ ap (λ (t : Table). records (layout h.version) h.next (layout h.version).records 4096 (record { files = stored_files t; last = 0; ended = false }) bytes) c.in_ok-empty.ensures in
    let p = err_from_is_err_and c.from_residual-in_err-records.result c.from_residual-in_err-records.ensures.1 in
    rw (p.1, p.2) (files_fail c.in_err-records.field-0.0 h bytes (fails_as c.in_err-records.field-0.0 (listed h bytes) _ (sym all) c.in_err-records.ensures.value))

pub returns-clause-value : goal.returns-clause-value
returns-clause-value c =
    let h = c.args.h in
    let bytes = c.args.bytes.now in
    let empty = c.in_ok-empty.empty in
    let all : records c.layout_of-layout.result h.next c.layout_of-layout.result.records 4096 (record { files = stored_files empty; last = 0; ended = false }) bytes ≡ listed h bytes =
    ap (λ (l : Layout). records l h.next l.records 4096 (record { files = stored_files empty; last = 0; ended = false }) bytes) c.layout_of-layout.ensures.value
    ∙ ap (λ (t : Table). records (layout h.version) h.next (layout h.version).records 4096 (record { files = stored_files t; last = 0; ended = false }) bytes) c.in_ok-empty.ensures in
    files_ok h bytes (listing c.records.new.so_far) (sym all ∙ c.in_ok-records.ensures.value) ∙ ap (λ (t : Table). Ok (stored_files t)) (sym c.set_next.ensures)
