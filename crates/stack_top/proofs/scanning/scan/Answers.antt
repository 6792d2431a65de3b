use Rattle.std.proofs.Common.{Option, subst}
use Rattle.std.proofs.lemmas.Result.{err_from_is_err_and}
use Rattle.edge_io.specs.Edges.{Names}
use Rattle.plain_files.specs.Plain.{file_of}
use Rattle.plain_image.specs.Opened.{Opened}
use Rattle.stack_top.specs.Scanning.{scans_in, scan_on}
use Rattle.stack_top.specs.Decided.{IsDecided}
use Rattle.stack_top.specs.Works.{Work}
use Rattle.stack_top.proofs.Walks.{after}
use Rattle.stack_top.proofs.scanning.scan.Goals as goal

pub returns-in_err-opened-clause-decided : goal.returns-in_err-opened-clause-decided
returns-in_err-opened-clause-decided g c =
    let p = err_from_is_err_and c.from_residual.result c.from_residual.ensures.1 in
    let asked = c.args.asked.now in
    rw (p.1, p.2) (c.in_err-opened.ensures.err (λ opened. scan_on opened asked.file asked.object asked.pieces asked.param))

pub returns-clause-decided : goal.returns-clause-decided
returns-clause-decided g c =
    let asked = c.args.asked.now in
    let files = c.in_ok-opened.opened.drive.plain.files in
    let next : Opened → Work = λ opened. scan_on opened asked.file asked.object asked.pieces asked.param in
    let P : Option Names → Type 0 = λ names. IsDecided names (g.R.Room.faults c.read_image.new.room) (g.R.Room.faults c.scans_in.new.room) (scans_in (file_of asked.file files) asked.object asked.pieces asked.param) c.scans_in.result in
    after _ _ (g.R.Room.faults c.read_image.new.room) _ _ _ _ (c.in_ok-opened.ensures.ok.goes_on next)
    c.read_image.ensures.later (subst P c.read_image.ensures.same c.scans_in.ensures.decided)
