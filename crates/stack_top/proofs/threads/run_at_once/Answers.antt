use Rattle.std.proofs.Common.{Option, subst}
use Rattle.std.proofs.lemmas.Result.{err_from_is_err_and}
use Rattle.edge_io.specs.Edges.{Names}
use Rattle.plain_image.specs.Opened.{opened}
use Rattle.stack_top.specs.Scripts.{run_on}
use Rattle.stack_top.specs.Decided.{IsDecided}
use Rattle.stack_top.proofs.Walks.{after}
use Rattle.stack_top.proofs.threads.run_at_once.Goals as goal

pub returns-in_err-opened-clause-decided : goal.returns-in_err-opened-clause-decided
returns-in_err-opened-clause-decided g c =
    let p = err_from_is_err_and c.from_residual.result c.from_residual.ensures.1 in
    rw (p.1, p.2) (c.in_err-opened.ensures.err (λ opened. run_on opened c.args.asked.now.script c.args.asked.now.out c.args.asked.now.setup))

pub returns-clause-decided : goal.returns-clause-decided
returns-clause-decided g c =
    let P : Option Names → Type 0 = λ names. IsDecided names (g.R.Room.faults c.read_image.new.room) (g.R.Room.faults c.run_on.new.room) (run_on (opened c.in_ok-opened.ensures.ok.bytes c.in_ok-opened.opened.drive) c.args.asked.now.script c.args.asked.now.out c.args.asked.now.setup) c.run_on.result in
    after _ _ (g.R.Room.faults c.read_image.new.room) _ _ _ _ (c.in_ok-opened.ensures.ok.goes_on (λ opened. run_on opened c.args.asked.now.script c.args.asked.now.out c.args.asked.now.setup))
    c.read_image.ensures.later (subst P c.read_image.ensures.same (c.run_on.ensures.decided c.in_ok-opened.ensures.ok.bytes c.in_ok-opened.ensures.ok.mounts c.in_ok-opened.ensures.ok.drive))

pub run_on-requires : goal.run_on-requires
run_on-requires g c = (c.type_bounds.sync-W, (c.type_bounds.sync-G, (record { bytes = c.in_ok-opened.ensures.ok.bytes; mounts = c.in_ok-opened.ensures.ok.mounts }, c.requires.crew)))
