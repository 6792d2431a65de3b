use Rattle.std.proofs.Common.{rules}
use Rattle.std.specs.Prelude.{FitsSigned}
use Rattle.std.specs.Int.{w16}
use Rattle.std.proofs.lemmas.Int.{to_z-of_z}
use Rattle.sbpf_exec.specs.Parts.{machine_regions}
use Rattle.sbpf_exec.proofs.step.act_on.Goals as goal

pub returns-in-Alu-clause-next : goal.returns-in-Alu-clause-next
returns-in-Alu-clause-next c = rw c.in-Alu.is (c.alu_step.ensures (machine_regions c.args.regions.now))

pub returns-in-Jump-clause-next : goal.returns-in-Jump-clause-next
returns-in-Jump-clause-next c =
    let fits : FitsSigned w16 c.in-Jump.offset = search rules in
    rw c.in-Jump.is (simp to_z-of_z at (c.jump_step.ensures (machine_regions c.args.regions.now)))

pub returns-in-Neg-clause-next : goal.returns-in-Neg-clause-next
returns-in-Neg-clause-next c = rw c.in-Neg.is (c.neg_step.ensures (machine_regions c.args.regions.now))
