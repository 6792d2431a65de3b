use Rattle.std.proofs.Common.{◌≡◌, drop, ◌++◌, string_bytes}
use Rattle.std.specs.List.{flat_map}
use Rattle.select_lines.specs.Lines.{number_line}
use Rattle.select_lines.proofs.lines.select_lines.Given as goal

abbrev pub invariant-loop-number : goal.invariant-loop-number
invariant-loop-number l = string_bytes l.text ++ flat_map number_line (drop l.number-index l.numbers) ≡ flat_map number_line l.numbers
