use Rattle.std.proofs.Common.{◌≡◌, ◌-◌}
use Rattle.sbpf_insn.specs.Refusal.{fault_from}
use Rattle.sbpf_load.proofs.verifying.first_by_slot.Given as goal

abbrev pub invariant-loop-slot : goal.invariant-loop-slot
invariant-loop-slot l = fault_from l.code.insns l.slot (l.count - l.slot) ≡ fault_from l.code.insns 0 l.count
