use Rattle.std.proofs.Common.{ap, ◌∙◌, ◌++◌, string_bytes}
use Rattle.bench_script.specs.Script.{script}
use Rattle.bench_script.proofs.Lines.{line_more}
use Rattle.bench_script.proofs.script.make_script.Goals as goal

pub loop-preserved : goal.loop-preserved
loop-preserved c =
    line_more (string_bytes c.loop.text) (string_bytes c.push_str.new.self) (script c.args.start c.args.calls) c.args.calls c.loop.counter c.loop.state c.after_line-state.result
    c.loop-test.true (c.in_ok-push_str.ensures.bytes ∙ ap (λ b. string_bytes c.loop.text ++ b) (c.as_str.ensures.value ∙ c.in_ok-drawn.ensures)) c.after_line-state.ensures c.loop.invariant
