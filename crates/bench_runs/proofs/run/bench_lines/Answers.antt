use Rattle.std.proofs.Common.{sym, ◌∙◌}
use Rattle.core_state.specs.History.{calls_of}
use Rattle.bench_runs.proofs.Printed.{told_of, benched}
use Rattle.bench_runs.proofs.run.bench_lines.Goals as goal

pub lines_of-requires : goal.lines_of-requires
lines_of-requires c = record { told = (calls_of c.in_ok-ran.ensures.ran.events, told_of c.args.meta c.args.pages.items c.args.script.now c.in_ok-ran.ran c.in_ok-ran.ensures.ran c.as_slice-logs.result.now c.as_slice-logs.ensures.value c.requires.limits) }

pub returns-clause-benched : goal.returns-clause-benched
returns-clause-benched c = benched c.args.meta c.args.pages.items c.args.script.now c.in_ok-ran.ran c.in_ok-ran.ensures.ran c.as_slice-logs.result.now c.as_slice-logs.ensures.value c.requires.limits c.args.start c.args.calls c.lines_of.result (sym c.are_fed.ensures ∙ c.if-not-are_fed.false) c.lines_of.ensures.lines
