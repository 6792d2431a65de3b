use Rattle.std.proofs.Common.{◌≡◌, ◌<◌, ap, arith}
use Rattle.std.proofs.lemmas.Result.{err_from_is_err_and}
use Rattle.flash_die.specs.Dies.{DieView}
use Rattle.mirror_die.specs.Mirror.{MirrorView}
use Rattle.mirror_die.specs.Views.{view_of}
use Rattle.mirror_die.proofs.Rebuilding.{rebuilding_more, rebuilt, rebuild_stopped, stale_of-none}
use Rattle.mirror_die.proofs.mirror.MirrorDie.rebuild.Goals as goal

pub returns-in_err-restore-clause-steps : goal.returns-in_err-restore-clause-steps
returns-in_err-restore-clause-steps g c =
    let old : MirrorView = view_of c.args.self.now in
    let within : c.loop-number.number < old.first.size = omega (arith, c.loop-number-test.true, c.pages-number-end.ensures) in
    let failed = err_from_is_err_and c.from_residual.result c.from_residual.ensures.1 in
    rw (failed.1, failed.2) (rebuild_stopped old c.loop-number.number c.args.page.now (view_of c.loop-number.self) c.loop-number.page _ c.restore.new.buffer (view_of c.restore.new.self) c.loop-number.invariant within c.in_err-restore.ensures.step)

pub loop-number-preserved : goal.loop-number-preserved
loop-number-preserved g c =
    let old : MirrorView = view_of c.args.self.now in
    let within : c.loop-number.number < old.first.size = omega (arith, c.loop-number-test.true, c.pages-number-end.ensures) in
    rebuilding_more old c.loop-number.number c.args.page.now (view_of c.loop-number.self) c.loop-number.page (view_of c.restore.new.self) c.restore.new.buffer c.loop-number.invariant c.loop-number.self.mirrors within c.in_ok-restore.ensures.step c.in_ok-restore.ensures.after

pub returns-clause-steps : goal.returns-clause-steps
returns-clause-steps g c =
    let old : MirrorView = view_of c.args.self.now in
    rebuilt old c.loop-number.number c.args.page.now (view_of c.loop-number.self) c.loop-number.page c.loop-number.invariant (omega (arith, c.loop-number-test.false, c.pages-number-end.ensures))

pub returns-clause-ok : goal.returns-clause-ok
returns-clause-ok g c =
    let now : MirrorView = view_of c.loop-number.self in
    let size : now.first.size ≡ (view_of c.args.self.now).first.size = ap (λ (d : DieView). d.size) c.loop-number.invariant.same in
    stale_of-none now.fresh (λ at below. c.loop-number.invariant.done at (omega (arith, c.loop-number-test.false, c.pages-number-end.ensures, c.loop-number.self.mirrors.marks)))
