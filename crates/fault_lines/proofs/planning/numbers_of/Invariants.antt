use Rattle.std.proofs.Common.{◌≡◌, ◌≤◌, length, drop}
use Rattle.fault_lines.specs.Lines.{numbers_of}
use Rattle.fault_lines.proofs.planning.numbers_of.Given as goal

abbrev pub invariant-loop-left : goal.invariant-loop-left
invariant-loop-left l = record {
  within : l.left ≤ length l.lines;
  named : l.numbers.items ≡ numbers_of l.copy l.writing l.die (drop l.left l.lines);
}

abbrev pub decreases-loop-left : goal.decreases-loop-left
decreases-loop-left l = l.left
