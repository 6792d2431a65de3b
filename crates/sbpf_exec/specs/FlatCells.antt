-- What a flat cell stands for. This project's own.
use Rattle.std.specs.Prelude.{◌≡◌, ℕ, Bool, true, false, List, Option, Some, None, IsTrue, slice_index_or}
use Rattle.sbpf_insn.specs.declared.insn.Src.TheVariants as src
use Rattle.sbpf_insn.specs.declared.insn.Size.TheVariants as size
use Rattle.sbpf_insn.specs.declared.insn.AluOp.TheVariants as op
use Rattle.sbpf_insn.specs.declared.insn.Cond.TheVariants as test
use Rattle.sbpf_insn.specs.declared.insn.Insn.{Insn}
use Rattle.sbpf_insn.specs.declared.insn.Insn.TheVariants as insn
use Rattle.sbpf_insn.specs.Table.{is_well_formed}
use Rattle.sbpf_insn.specs.Cells.{at_slot}
use Rattle.sbpf_exec.specs.declared.cells.Cell.{Cell}
use Rattle.sbpf_exec.specs.declared.cells.Cell.TheVariants as cell

-- the instruction of a cell; `Other` has none
abbrev pub insn_of : Cell → Option Insn
insn_of cell.Other = None
insn_of (cell.AddImm dst imm) = Some (insn.Alu true op.Add dst (src.Imm imm))
insn_of (cell.AddReg dst r) = Some (insn.Alu true op.Add dst (src.Reg r))
insn_of (cell.SubImm dst imm) = Some (insn.Alu true op.Sub dst (src.Imm imm))
insn_of (cell.SubReg dst r) = Some (insn.Alu true op.Sub dst (src.Reg r))
insn_of (cell.MulImm dst imm) = Some (insn.Alu true op.Mul dst (src.Imm imm))
insn_of (cell.MulReg dst r) = Some (insn.Alu true op.Mul dst (src.Reg r))
insn_of (cell.OrImm dst imm) = Some (insn.Alu true op.Or dst (src.Imm imm))
insn_of (cell.OrReg dst r) = Some (insn.Alu true op.Or dst (src.Reg r))
insn_of (cell.AndImm dst imm) = Some (insn.Alu true op.And dst (src.Imm imm))
insn_of (cell.AndReg dst r) = Some (insn.Alu true op.And dst (src.Reg r))
insn_of (cell.LshImm dst imm) = Some (insn.Alu true op.Lsh dst (src.Imm imm))
insn_of (cell.LshReg dst r) = Some (insn.Alu true op.Lsh dst (src.Reg r))
insn_of (cell.RshImm dst imm) = Some (insn.Alu true op.Rsh dst (src.Imm imm))
insn_of (cell.RshReg dst r) = Some (insn.Alu true op.Rsh dst (src.Reg r))
insn_of (cell.XorImm dst imm) = Some (insn.Alu true op.Xor dst (src.Imm imm))
insn_of (cell.XorReg dst r) = Some (insn.Alu true op.Xor dst (src.Reg r))
insn_of (cell.MovImm dst imm) = Some (insn.Alu true op.Mov dst (src.Imm imm))
insn_of (cell.MovReg dst r) = Some (insn.Alu true op.Mov dst (src.Reg r))
insn_of (cell.ArshImm dst imm) = Some (insn.Alu true op.Arsh dst (src.Imm imm))
insn_of (cell.ArshReg dst r) = Some (insn.Alu true op.Arsh dst (src.Reg r))
insn_of (cell.Add32Imm dst imm) = Some (insn.Alu false op.Add dst (src.Imm imm))
insn_of (cell.Add32Reg dst r) = Some (insn.Alu false op.Add dst (src.Reg r))
insn_of (cell.Sub32Imm dst imm) = Some (insn.Alu false op.Sub dst (src.Imm imm))
insn_of (cell.Sub32Reg dst r) = Some (insn.Alu false op.Sub dst (src.Reg r))
insn_of (cell.Mul32Imm dst imm) = Some (insn.Alu false op.Mul dst (src.Imm imm))
insn_of (cell.Mul32Reg dst r) = Some (insn.Alu false op.Mul dst (src.Reg r))
insn_of (cell.Or32Imm dst imm) = Some (insn.Alu false op.Or dst (src.Imm imm))
insn_of (cell.Or32Reg dst r) = Some (insn.Alu false op.Or dst (src.Reg r))
insn_of (cell.And32Imm dst imm) = Some (insn.Alu false op.And dst (src.Imm imm))
insn_of (cell.And32Reg dst r) = Some (insn.Alu false op.And dst (src.Reg r))
insn_of (cell.Lsh32Imm dst imm) = Some (insn.Alu false op.Lsh dst (src.Imm imm))
insn_of (cell.Lsh32Reg dst r) = Some (insn.Alu false op.Lsh dst (src.Reg r))
insn_of (cell.Rsh32Imm dst imm) = Some (insn.Alu false op.Rsh dst (src.Imm imm))
insn_of (cell.Rsh32Reg dst r) = Some (insn.Alu false op.Rsh dst (src.Reg r))
insn_of (cell.Xor32Imm dst imm) = Some (insn.Alu false op.Xor dst (src.Imm imm))
insn_of (cell.Xor32Reg dst r) = Some (insn.Alu false op.Xor dst (src.Reg r))
insn_of (cell.Mov32Imm dst imm) = Some (insn.Alu false op.Mov dst (src.Imm imm))
insn_of (cell.Mov32Reg dst r) = Some (insn.Alu false op.Mov dst (src.Reg r))
insn_of (cell.Arsh32Imm dst imm) = Some (insn.Alu false op.Arsh dst (src.Imm imm))
insn_of (cell.Arsh32Reg dst r) = Some (insn.Alu false op.Arsh dst (src.Reg r))
insn_of (cell.AluImm wide o dst imm) = Some (insn.Alu wide o dst (src.Imm imm))
insn_of (cell.AluReg wide o dst r) = Some (insn.Alu wide o dst (src.Reg r))
insn_of (cell.MovSx wide width dst r) = Some (insn.MovSx wide width dst r)
insn_of (cell.Neg wide dst) = Some (insn.Neg wide dst)
insn_of (cell.End o width dst) = Some (insn.End o width dst)
insn_of (cell.Ja offset) = Some (insn.Ja offset)
insn_of (cell.JaFar offset) = Some (insn.JaFar offset)
insn_of (cell.Call offset) = Some (insn.Call offset)
insn_of cell.Exit = Some insn.Exit
insn_of (cell.JeqImm dst offset imm) = Some (insn.Jump true test.Jeq dst (src.Imm imm) offset)
insn_of (cell.JeqReg dst r offset) = Some (insn.Jump true test.Jeq dst (src.Reg r) offset)
insn_of (cell.JgtImm dst offset imm) = Some (insn.Jump true test.Jgt dst (src.Imm imm) offset)
insn_of (cell.JgtReg dst r offset) = Some (insn.Jump true test.Jgt dst (src.Reg r) offset)
insn_of (cell.JgeImm dst offset imm) = Some (insn.Jump true test.Jge dst (src.Imm imm) offset)
insn_of (cell.JgeReg dst r offset) = Some (insn.Jump true test.Jge dst (src.Reg r) offset)
insn_of (cell.JsetImm dst offset imm) = Some (insn.Jump true test.Jset dst (src.Imm imm) offset)
insn_of (cell.JsetReg dst r offset) = Some (insn.Jump true test.Jset dst (src.Reg r) offset)
insn_of (cell.JneImm dst offset imm) = Some (insn.Jump true test.Jne dst (src.Imm imm) offset)
insn_of (cell.JneReg dst r offset) = Some (insn.Jump true test.Jne dst (src.Reg r) offset)
insn_of (cell.JsgtImm dst offset imm) = Some (insn.Jump true test.Jsgt dst (src.Imm imm) offset)
insn_of (cell.JsgtReg dst r offset) = Some (insn.Jump true test.Jsgt dst (src.Reg r) offset)
insn_of (cell.JsgeImm dst offset imm) = Some (insn.Jump true test.Jsge dst (src.Imm imm) offset)
insn_of (cell.JsgeReg dst r offset) = Some (insn.Jump true test.Jsge dst (src.Reg r) offset)
insn_of (cell.JltImm dst offset imm) = Some (insn.Jump true test.Jlt dst (src.Imm imm) offset)
insn_of (cell.JltReg dst r offset) = Some (insn.Jump true test.Jlt dst (src.Reg r) offset)
insn_of (cell.JleImm dst offset imm) = Some (insn.Jump true test.Jle dst (src.Imm imm) offset)
insn_of (cell.JleReg dst r offset) = Some (insn.Jump true test.Jle dst (src.Reg r) offset)
insn_of (cell.JsltImm dst offset imm) = Some (insn.Jump true test.Jslt dst (src.Imm imm) offset)
insn_of (cell.JsltReg dst r offset) = Some (insn.Jump true test.Jslt dst (src.Reg r) offset)
insn_of (cell.JsleImm dst offset imm) = Some (insn.Jump true test.Jsle dst (src.Imm imm) offset)
insn_of (cell.JsleReg dst r offset) = Some (insn.Jump true test.Jsle dst (src.Reg r) offset)
insn_of (cell.Jeq32Imm dst offset imm) = Some (insn.Jump false test.Jeq dst (src.Imm imm) offset)
insn_of (cell.Jeq32Reg dst r offset) = Some (insn.Jump false test.Jeq dst (src.Reg r) offset)
insn_of (cell.Jgt32Imm dst offset imm) = Some (insn.Jump false test.Jgt dst (src.Imm imm) offset)
insn_of (cell.Jgt32Reg dst r offset) = Some (insn.Jump false test.Jgt dst (src.Reg r) offset)
insn_of (cell.Jge32Imm dst offset imm) = Some (insn.Jump false test.Jge dst (src.Imm imm) offset)
insn_of (cell.Jge32Reg dst r offset) = Some (insn.Jump false test.Jge dst (src.Reg r) offset)
insn_of (cell.Jset32Imm dst offset imm) = Some (insn.Jump false test.Jset dst (src.Imm imm) offset)
insn_of (cell.Jset32Reg dst r offset) = Some (insn.Jump false test.Jset dst (src.Reg r) offset)
insn_of (cell.Jne32Imm dst offset imm) = Some (insn.Jump false test.Jne dst (src.Imm imm) offset)
insn_of (cell.Jne32Reg dst r offset) = Some (insn.Jump false test.Jne dst (src.Reg r) offset)
insn_of (cell.Jsgt32Imm dst offset imm) = Some (insn.Jump false test.Jsgt dst (src.Imm imm) offset)
insn_of (cell.Jsgt32Reg dst r offset) = Some (insn.Jump false test.Jsgt dst (src.Reg r) offset)
insn_of (cell.Jsge32Imm dst offset imm) = Some (insn.Jump false test.Jsge dst (src.Imm imm) offset)
insn_of (cell.Jsge32Reg dst r offset) = Some (insn.Jump false test.Jsge dst (src.Reg r) offset)
insn_of (cell.Jlt32Imm dst offset imm) = Some (insn.Jump false test.Jlt dst (src.Imm imm) offset)
insn_of (cell.Jlt32Reg dst r offset) = Some (insn.Jump false test.Jlt dst (src.Reg r) offset)
insn_of (cell.Jle32Imm dst offset imm) = Some (insn.Jump false test.Jle dst (src.Imm imm) offset)
insn_of (cell.Jle32Reg dst r offset) = Some (insn.Jump false test.Jle dst (src.Reg r) offset)
insn_of (cell.Jslt32Imm dst offset imm) = Some (insn.Jump false test.Jslt dst (src.Imm imm) offset)
insn_of (cell.Jslt32Reg dst r offset) = Some (insn.Jump false test.Jslt dst (src.Reg r) offset)
insn_of (cell.Jsle32Imm dst offset imm) = Some (insn.Jump false test.Jsle dst (src.Imm imm) offset)
insn_of (cell.Jsle32Reg dst r offset) = Some (insn.Jump false test.Jsle dst (src.Reg r) offset)
insn_of (cell.LoadB dst base offset) = Some (insn.Load size.B dst base offset)
insn_of (cell.LoadH dst base offset) = Some (insn.Load size.H dst base offset)
insn_of (cell.LoadW dst base offset) = Some (insn.Load size.W dst base offset)
insn_of (cell.LoadDw dst base offset) = Some (insn.Load size.Dw dst base offset)
insn_of (cell.LoadSxB dst base offset) = Some (insn.LoadSx size.B dst base offset)
insn_of (cell.LoadSxH dst base offset) = Some (insn.LoadSx size.H dst base offset)
insn_of (cell.LoadSxW dst base offset) = Some (insn.LoadSx size.W dst base offset)
insn_of (cell.StoreImmB base offset imm) = Some (insn.StoreImm size.B base offset imm)
insn_of (cell.StoreRegB base r offset) = Some (insn.StoreReg size.B base offset r)
insn_of (cell.StoreImmH base offset imm) = Some (insn.StoreImm size.H base offset imm)
insn_of (cell.StoreRegH base r offset) = Some (insn.StoreReg size.H base offset r)
insn_of (cell.StoreImmW base offset imm) = Some (insn.StoreImm size.W base offset imm)
insn_of (cell.StoreRegW base r offset) = Some (insn.StoreReg size.W base offset r)
insn_of (cell.StoreImmDw base offset imm) = Some (insn.StoreImm size.Dw base offset imm)
insn_of (cell.StoreRegDw base r offset) = Some (insn.StoreReg size.Dw base offset r)

abbrev pub is_formed : Option Insn → Bool
is_formed None = true
is_formed (Some i) = is_well_formed i

-- where the cell has an instruction, it is the one that begins at the slot, and it is well formed
abbrev pub Stands : Option Insn → Option Insn → Type 0
Stands None begins = Unit {0}
Stands (Some i) begins = (begins ≡ Some i) × IsTrue (is_well_formed i)

-- each cell's instruction is the one that begins at its slot of the code
abbrev pub Mirrors : List Cell → List Insn → Type 0
Mirrors cells code = (k : ℕ) → Stands (insn_of (slice_index_or cells k cell.Other)) (at_slot code k)
