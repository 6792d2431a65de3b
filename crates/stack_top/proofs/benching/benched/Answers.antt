use Rattle.stack_top.proofs.BenchPlans.{bench_told, only_prints}
use Rattle.stack_top.proofs.benching.benched.Goals as goal

pub returns : goal.returns
returns c = λ bytes mounts is.
    bench_told bytes c.args.image.drive c.args.image.meta c.args.image.pages.items c.args.script.now c.args.start c.args.calls c.in_ok-lines.lines c.of.result mounts is
    (c.in_ok-lines.ensures.mounts bytes mounts) c.in_ok-lines.ensures.benched (only_prints c.of.result c.in_ok-acts.acts c.in_ok-lines.lines c.of.ensures c.in_ok-acts.ensures)
