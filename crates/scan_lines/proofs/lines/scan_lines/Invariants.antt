use Rattle.std.proofs.Common.{◌≡◌, drop, ◌++◌, string_bytes}
use Rattle.scan_lines.specs.Lines.{lines_from}
use Rattle.scan_lines.proofs.lines.scan_lines.Given as goal

abbrev pub invariant-loop-i : goal.invariant-loop-i
invariant-loop-i l = string_bytes l.text ++ lines_from l.i (drop l.i l.replies) ≡ lines_from 0 l.replies
