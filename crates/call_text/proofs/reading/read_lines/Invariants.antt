use Rattle.std.proofs.Common.{◌≡◌, ◌+◌, ◌≤◌, ◌^◌, map, drop}
use Rattle.call_text.specs.Scripts.{read_lines, nothing}
use Rattle.call_text.specs.Building.{seen, IsKept}
use Rattle.call_text.proofs.reading.read_lines.Given as goal

abbrev pub invariant-loop-i : goal.invariant-loop-i
invariant-loop-i l = record {
  rest : read_lines (l.i + 1) (seen l.script) (map (λ x. x.now) (drop l.i l.lines)) ≡ read_lines 1 nothing (map (λ x. x.now) l.lines);
  kept : IsKept l.script;
  bytes : l.script.bytes ≤ 2 ^ 28;
}
