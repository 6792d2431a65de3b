use Rattle.std.proofs.Common.{◌-◌, ◌<◌, ◌≤◌}
use Rattle.sbpf_exec.specs.Steps.{state, Reaches}
use Rattle.sbpf_exec.specs.Parts.{machine_regions, IsShaped, WritesWithin}
use Rattle.sbpf_exec.proofs.quick.quick_run.Given as goal

abbrev pub invariant-loop-slot : goal.invariant-loop-slot
invariant-loop-slot l = record {
  here : l.slot ≤ l.end;
  enough : l.end < l.credit;
  within : l.credit - l.slot ≤ l.most;
  reaches : Reaches (l.most - (l.credit - l.slot)) l.code.insns (state l.fn.cpu l.first (machine_regions l.fn.regions)) (state l.cpu l.slot (machine_regions l.regions));
  writes : WritesWithin l.fn.regions l.regions;
  shaped : IsShaped l.regions;
}

abbrev pub decreases-loop-slot : goal.decreases-loop-slot
decreases-loop-slot l = l.credit - l.slot
