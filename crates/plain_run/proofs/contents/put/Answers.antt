use Rattle.std.proofs.Common.{◌≢◌, length, sym, ◌∙◌}
use Rattle.std.proofs.lemmas.Bool.{eqb-false}
use Rattle.plain_run.proofs.Puts.{put_lengthened}
use Rattle.plain_run.proofs.contents.put.Goals as goal

pub returns-clause-ok : goal.returns-clause-ok
returns-clause-ok c =
    let some : length c.args.bytes.now ≢ 0 = eqb-false _ _ (sym c.is_empty.ensures ∙ c.if-is_empty.false) in
    put_lengthened c.args.file.now.items c.lengthen.new.file.items c.overwrite.new.file.items c.args.bytes.now c.args.off some c.in_ok-lengthen.ensures.ok c.overwrite.ensures
