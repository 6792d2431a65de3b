use Rattle.std.proofs.Common.{◌<◌, ◌≤◌, ap, ◌∙◌, arith}
use Rattle.sbpf_insn.specs.Cells.{slots}
use Rattle.sbpf_insn.specs.Decoded.{decoded}
use Rattle.sbpf_insn.proofs.CodeSpelling.{spelled_more, spelled_all, decoded-spelling}
use Rattle.sbpf_insn.proofs.encoding.encode.Goals as goal

pub loop-slot-preserved : goal.loop-slot-preserved
loop-slot-preserved c =
    let code = c.args.code.now.insns in
    let within : c.loop-slot.slot < slots code = omega (arith, c.loop-slot-test.true, c.slots-slot-end.ensures.count) in
    spelled_more code c.loop-slot.slot c.at_slot.result _ _ within c.at_slot.ensures.value c.loop-slot.invariant c.in_ok-put_cell.ensures

pub returns-clause-spelled : goal.returns-clause-spelled
returns-clause-spelled c =
    let code = c.args.code.now.insns in
    let past : slots code ≤ c.loop-slot.slot = omega (arith, c.loop-slot-test.false, c.slots-slot-end.ensures.count) in
    spelled_all code c.loop-slot.slot _ past c.loop-slot.invariant

pub returns-clause-again : goal.returns-clause-again
returns-clause-again c =
    let code = c.args.code.now.insns in
    let past : slots code ≤ c.loop-slot.slot = omega (arith, c.loop-slot-test.false, c.slots-slot-end.ensures.count) in
    ap decoded (spelled_all code c.loop-slot.slot _ past c.loop-slot.invariant) ∙ decoded-spelling code c.slots-slot-end.ensures.proper
