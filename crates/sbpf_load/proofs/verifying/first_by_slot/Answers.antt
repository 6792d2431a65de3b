use Rattle.std.proofs.Common.{◌≡◌, Some, None, sym, ◌∙◌, arith}
use Rattle.sbpf_insn.specs.Refusal.{fault_in}
use Rattle.sbpf_insn.specs.Cells.{at_slot}
use Rattle.sbpf_load.proofs.Faults.{step_left, none_left}
use Rattle.sbpf_load.proofs.verifying.first_by_slot.Goals as goal

pub loop-slot-preserved : goal.loop-slot-preserved
loop-slot-preserved c =
    let code = c.args.code.now.insns in
    let e : fault_in code c.loop-slot.slot (at_slot code c.loop-slot.slot) ≡ None = sym c.slot_fault.ensures ∙ c.in_default.is in
    sym (step_left code c.loop-slot.slot c.slots-count.result None c.loop-slot-test.true e) ∙ c.loop-slot.invariant

pub returns-in-Some : goal.returns-in-Some
returns-in-Some c =
    let code = c.args.code.now.insns in
    let e : fault_in code c.loop-slot.slot (at_slot code c.loop-slot.slot) ≡ Some c.in-Some.kind = sym c.slot_fault.ensures ∙ c.in-Some.is in
    rw (← c.slots-count.ensures.count, ← c.loop-slot.invariant) (sym (step_left code c.loop-slot.slot c.slots-count.result (Some c.in-Some.kind) c.loop-slot-test.true e))

pub returns : goal.returns
returns c = rw (← c.slots-count.ensures.count, ← c.loop-slot.invariant) (sym (none_left c.args.code.now.insns c.loop-slot.slot c.slots-count.result (omega arith)))
