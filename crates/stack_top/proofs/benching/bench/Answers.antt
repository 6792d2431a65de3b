use Rattle.std.proofs.Common.{None, arith}
use Rattle.std.proofs.lemmas.Result.{err_from_is_err_and}
use Rattle.plain_image.specs.Opened.{Opened, opened}
use Rattle.stack_top.specs.Benching.{bench_on}
use Rattle.stack_top.specs.Images.{dash_image}
use Rattle.stack_top.specs.Scripts.{opens}
use Rattle.stack_top.specs.Works.{Work}
use Rattle.stack_top.proofs.Walks.{after}
use Rattle.stack_top.proofs.benching.bench.Goals as goal

pub returns-in_err-opened : goal.returns-in_err-opened
returns-in_err-opened c =
    let p = err_from_is_err_and c.from_residual.result c.from_residual.ensures.1 in
    record { decided = λ told before now. rw (p.1, p.2) (c.in_err-opened.ensures.err told before now (λ image. bench_on image c.args.start c.args.calls)) }

pub bench_on-requires : goal.bench_on-requires
bench_on-requires c =
    let o = c.in_ok-opened.ensures.ok None in
    record { mounted = record { bytes = o.bytes; mounts = o.mounts } }

pub returns : goal.returns
returns c = record {
  decided = λ told before now.
      let next : Opened → Work = λ image. bench_on image c.args.start c.args.calls in
      let o = c.in_ok-opened.ensures.ok told in
      after told before before now (opens dash_image next) (next (opened o.bytes c.in_ok-opened.opened.drive)) c.bench_on.result (o.goes_on next) (omega arith)
      (c.bench_on.ensures.decided o.bytes o.mounts o.drive told before now);
}
