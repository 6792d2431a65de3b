use Rattle.sbpf_exec.specs.Steps.{state}
use Rattle.sbpf_exec.specs.Parts.{machine_regions}
use Rattle.sbpf_exec.specs.FlatCells.{insn_of}
use Rattle.sbpf_exec.proofs.CellTable.{step_goes}
use Rattle.sbpf_exec.proofs.quick.code_step.Goals as goal

pub returns-in-Next-clause-next : goal.returns-in-Next-clause-next
returns-in-Next-clause-next c = step_goes (insn_of c.args.cell.now) c.args.code.now.insns (state c.args.cpu.now c.args.slot (machine_regions c.args.regions.now)) _ c.requires.stands c.in-Next.ensures.next

pub returns-in-To-clause-next : goal.returns-in-To-clause-next
returns-in-To-clause-next c = step_goes (insn_of c.args.cell.now) c.args.code.now.insns (state c.args.cpu.now c.args.slot (machine_regions c.args.regions.now)) _ c.requires.stands c.in-To.ensures.next
