use Rattle.std.proofs.Common.{◌≡◌, ◌+◌, ◌≤◌, [], map, drop}
use Rattle.sbpf_insn.specs.Cells.{slots}
use Rattle.sbpf_text.specs.Asm.{settle}
use Rattle.sbpf_text.proofs.assembling.settle.Given as goal

abbrev pub invariant-loop-i : goal.invariant-loop-i
invariant-loop-i l = record {
  rest : settle l.labels (l.i + 1) l.code.insns (map (λ x. x.now) (drop l.i l.lines)) ≡ settle l.labels 1 [] (map (λ x. x.now) l.lines);
  small : slots l.code.insns ≤ 4096;
}
