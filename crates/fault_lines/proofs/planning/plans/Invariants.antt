use Rattle.std.proofs.Common.{◌≡◌, map}
use Rattle.std.specs.List.{range_with_len}
use Rattle.fault_lines.specs.Lines.{plan_for}
use Rattle.fault_lines.proofs.planning.plans.Given as goal

abbrev pub invariant-loop-die : goal.invariant-loop-die
invariant-loop-die l = l.made.items ≡ map (plan_for l.lines l.copy) (range_with_len 0 l.die)
