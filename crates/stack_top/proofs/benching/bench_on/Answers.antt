use Rattle.std.proofs.Common.{◌∙◌}
use Rattle.std.proofs.lemmas.Result.{err_from_is_err_and}
use Rattle.plain_image.specs.Opened.{opened}
use Rattle.stack_top.proofs.BenchPlans.{bench_unread, bench_read}
use Rattle.stack_top.proofs.benching.bench_on.Goals as goal

pub returns-in_err-script : goal.returns-in_err-script
returns-in_err-script c =
    let p = err_from_is_err_and c.from_residual-in_err-script.result c.from_residual-in_err-script.ensures.1 in
    record {
      decided = λ bytes mounts drive told before now. rw (p.1, p.2)
          (
          bench_unread (opened bytes c.args.image.drive) c.args.start c.args.calls c.dies-dies.result c.as_bytes.result.now c.in_err-script.field-0.0 told before now
          c.dies-dies.ensures.value (c.as_bytes.ensures.value ∙ (c.as_str.ensures ∙ c.in_ok-text.ensures)) c.in_err-script.ensures.script
          );
    }

pub returns : goal.returns
returns c = record {
  decided = λ bytes mounts drive told before now.
      bench_read (opened bytes c.args.image.drive) c.in_ok-script.script c.args.start c.args.calls c.dies-dies.result c.as_bytes.result.now c.in_ok-plan.plan told before now
      c.dies-dies.ensures.value (c.as_bytes.ensures.value ∙ (c.as_str.ensures ∙ c.in_ok-text.ensures)) c.in_ok-script.ensures.script (c.in_ok-plan.ensures bytes mounts drive);
}
