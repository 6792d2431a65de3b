use Rattle.std.proofs.Common.{Option, subst}
use Rattle.std.proofs.lemmas.Result.{err_from_is_err_and}
use Rattle.edge_io.specs.Edges.{Names}
use Rattle.plain_files.specs.Plain.{file_of}
use Rattle.plain_image.specs.Opened.{Opened}
use Rattle.stack_top.specs.Selecting.{selects_in, select_on}
use Rattle.stack_top.specs.Decided.{IsDecided}
use Rattle.stack_top.specs.Works.{Work}
use Rattle.stack_top.proofs.Walks.{after}
use Rattle.stack_top.proofs.selecting.select.Goals as goal

pub returns-in_err-opened-clause-decided : goal.returns-in_err-opened-clause-decided
returns-in_err-opened-clause-decided g c =
    let p = err_from_is_err_and c.from_residual.result c.from_residual.ensures.1 in
    rw (p.1, p.2) (c.in_err-opened.ensures.err (λ opened. select_on opened c.args.file.now c.args.pred.now c.args.width.now))

pub selects_in-requires-clause-few : goal.selects_in-requires-clause-few
selects_in-requires-clause-few g c = c.in_ok-opened.ensures.fits.few

pub selects_in-requires-clause-each : goal.selects_in-requires-clause-each
selects_in-requires-clause-each g c = c.in_ok-opened.ensures.fits.each

pub returns-clause-decided : goal.returns-clause-decided
returns-clause-decided g c =
    let files = c.in_ok-opened.opened.drive.plain.files in
    let next : Opened → Work = λ opened. select_on opened c.args.file.now c.args.pred.now c.args.width.now in
    let P : Option Names → Type 0 = λ names. IsDecided names (g.R.Room.faults c.read_image.new.room) (g.R.Room.faults c.selects_in.new.room) (selects_in (file_of c.args.file.now files) c.args.pred.now c.args.width.now) c.selects_in.result in
    after _ _ (g.R.Room.faults c.read_image.new.room) _ _ _ _ (c.in_ok-opened.ensures.ok.goes_on next)
    c.read_image.ensures.later (subst P c.read_image.ensures.same c.selects_in.ensures.decided)
