use Rattle.std.proofs.lemmas.Result.{err_from_is_err_and}
use Rattle.image_format.specs.Tables.{stored_files, blocks_in}
use Rattle.image_format.specs.Reading.{parts_of}
use Rattle.image_format.proofs.Parts.{records_fail, entries_fail, bitmap_fails, tails_fail, all_meant}
use Rattle.image_format.proofs.mounting.read_parts.Goals as goal

pub returns-in_err-names-clause-value : goal.returns-in_err-names-clause-value
returns-in_err-names-clause-value c =
    let p = err_from_is_err_and c.from_residual.result c.from_residual.ensures.1 in
    rw (p.1, p.2) (records_fail c.in_err-names.field-0.0 c.args.h (parts_of c.args.p) c.in_err-names.ensures.value)

pub returns-in_err-extents-clause-value : goal.returns-in_err-extents-clause-value
returns-in_err-extents-clause-value c =
    let p = err_from_is_err_and c.from_residual-in_err-extents.result c.from_residual-in_err-extents.ensures.1 in
    rw (p.1, p.2) (entries_fail c.in_err-extents.field-0.0 c.args.h (parts_of c.args.p) (stored_files c.in_ok-names.names) c.in_ok-names.ensures.value c.in_err-extents.ensures.value)

pub returns-in_err-bitmap-clause-value : goal.returns-in_err-bitmap-clause-value
returns-in_err-bitmap-clause-value c =
    let p = err_from_is_err_and c.from_residual-in_err-bitmap.result c.from_residual-in_err-bitmap.ensures.1 in
    rw (p.1, p.2) (bitmap_fails c.in_err-bitmap.field-0.0 c.args.h (parts_of c.args.p) (stored_files c.in_ok-names.names) (blocks_in c.in_ok-extents.extents) c.in_ok-names.ensures.value c.in_ok-extents.ensures.value c.in_err-bitmap.ensures)

pub returns-in_err-tails-clause-value : goal.returns-in_err-tails-clause-value
returns-in_err-tails-clause-value c =
    let p = err_from_is_err_and c.from_residual-in_err-tails.result c.from_residual-in_err-tails.ensures.1 in
    rw (p.1, p.2) (tails_fail c.in_err-tails.field-0.0 c.args.h (parts_of c.args.p) (stored_files c.in_ok-names.names) (blocks_in c.in_ok-extents.extents) c.in_ok-names.ensures.value c.in_ok-extents.ensures.value c.in_ok-bitmap.ensures c.in_err-tails.ensures)

pub returns-clause-value : goal.returns-clause-value
returns-clause-value c = all_meant c.args.h (parts_of c.args.p) (stored_files c.in_ok-names.names) (blocks_in c.in_ok-extents.extents) c.in_ok-names.ensures.value c.in_ok-extents.ensures.value c.in_ok-bitmap.ensures c.in_ok-tails.ensures
