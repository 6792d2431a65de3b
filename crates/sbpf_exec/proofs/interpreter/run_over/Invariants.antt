use Rattle.std.proofs.Common.{◌-◌, ◌≡◌, ◌≤◌}
use Rattle.sbpf_insn.specs.Machine as machine
use Rattle.sbpf_exec.specs.Steps.{state}
use Rattle.sbpf_exec.specs.Parts.{machine_regions, IsShaped, WritesWithin}
use Rattle.sbpf_exec.proofs.interpreter.run_over.Given as goal

abbrev pub invariant-loop-left : goal.invariant-loop-left
invariant-loop-left l = record {
  within : l.left ≤ l.fuel;
  same : machine.run_from l.left (l.fuel - l.left) l.code.insns (state l.cpu l.slot (machine_regions l.regions)) ≡ machine.run l.code.insns (machine_regions l.fn.regions) l.fuel;
  writes : WritesWithin l.fn.regions l.regions;
  shaped : IsShaped l.regions;
}

abbrev pub decreases-loop-left : goal.decreases-loop-left
decreases-loop-left l = l.left
