use Rattle.std.proofs.Common.{◌∙◌, sym, ap}
use Rattle.sbpf_insn.specs.Program.{Program}
use Rattle.sbpf_insn.proofs.CellLaws.{formed_cell, fit_cell, at_slot_is}
use Rattle.sbpf_insn.proofs.code.Code.at_slot.Goals as goal

pub returns-clause-value : goal.returns-clause-value
returns-clause-value c = c.cell-insn.ensures ∙ rw c.deref.ensures.value (sym (at_slot_is c.self.inside.cells.items c.args.self.now.insns c.args.slot c.self.invariant.code (ap (λ (p : Program). p.insns) c.self.view_is)))

pub returns-clause-formed : goal.returns-clause-formed
returns-clause-formed c = formed_cell c.self.inside.cells.items c.args.slot c.cell-insn.result c.self.invariant.code (rw c.deref.ensures.value at c.cell-insn.ensures)

pub returns-clause-fit : goal.returns-clause-fit
returns-clause-fit c = fit_cell c.self.inside.cells.items c.args.slot c.cell-insn.result c.self.invariant.code (rw c.deref.ensures.value at c.cell-insn.ensures)
