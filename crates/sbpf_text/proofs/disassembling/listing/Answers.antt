use Rattle.std.proofs.Common.{◌<◌, ◌≤◌, ap, ◌∙◌, arith}
use Rattle.sbpf_insn.specs.Cells.{slots}
use Rattle.sbpf_insn.proofs.CellLaws.{insns_of-take_all}
use Rattle.sbpf_text.specs.Asm.{asm}
use Rattle.sbpf_text.specs.Print.{text_of}
use Rattle.sbpf_text.proofs.TextBack.{text_again}
use Rattle.sbpf_text.proofs.CellTexts.{put_step}
use Rattle.sbpf_text.proofs.disassembling.listing.Goals as goal

pub loop-slot-preserved : goal.loop-slot-preserved
loop-slot-preserved c =
    let code = c.args.code.now.insns in
    let within : c.loop-slot.slot < slots code = omega (arith, c.loop-slot-test.true, c.slots-slot-end.ensures.count) in
    put_step code c.loop-slot.slot c.at_slot.result _ _ within c.at_slot.ensures.value c.loop-slot.invariant c.in_ok-put_cell.ensures

pub returns-clause-text : goal.returns-clause-text
returns-clause-text c =
    let past : slots c.args.code.now.insns ≤ c.loop-slot.slot = omega (arith, c.loop-slot-test.false, c.slots-slot-end.ensures.count) in
    c.loop-slot.invariant ∙ ap text_of (insns_of-take_all c.args.code.now.insns c.loop-slot.slot past)

pub returns-clause-again : goal.returns-clause-again
returns-clause-again c = λ fits.
    let past : slots c.args.code.now.insns ≤ c.loop-slot.slot = omega (arith, c.loop-slot-test.false, c.slots-slot-end.ensures.count) in
    ap asm (c.loop-slot.invariant ∙ ap text_of (insns_of-take_all c.args.code.now.insns c.loop-slot.slot past)) ∙ text_again c.args.code.now.insns c.slots-slot-end.ensures.proper fits
