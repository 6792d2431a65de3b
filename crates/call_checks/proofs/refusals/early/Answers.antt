use Rattle.std.proofs.Common.{◌≡◌, Bool, Option, ap, ◌∙◌}
use Rattle.name_table.specs.declared.files.FileRec.{FileRec}
use Rattle.call_checks.specs.Checks.{row_for, lacks_function, early_by}
use Rattle.call_checks.proofs.Refused.{early_is}
use Rattle.call_checks.proofs.refusals.early.Goals as goal

pub returns : goal.returns
returns c = λ shape places pages.
    c.early_by.ensures
    ∙ (ap (λ (f : Option FileRec). early_by c.args.call.now f c.lacks_function.result) c.file_for-file.ensures
    ∙ (ap (early_by c.args.call.now (row_for c.args.names.now.files c.args.call.now)) c.lacks_function.ensures
    ∙ early_is shape c.args.names.now c.args.functions.now places pages c.args.call.now))
