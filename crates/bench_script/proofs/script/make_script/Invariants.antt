use Rattle.std.proofs.Common.{◌≡◌, ◌-◌, ◌++◌, string_bytes}
use Rattle.bench_script.specs.Script.{lines, script}
use Rattle.bench_script.proofs.script.make_script.Given as goal

abbrev pub invariant-loop : goal.invariant-loop
invariant-loop l = string_bytes l.text ++ lines (l.calls - l.counter) l.state ≡ script l.start l.calls
