use Rattle.std.proofs.Common.{rules}
use Rattle.std.specs.Prelude.{FitsSigned}
use Rattle.std.specs.Int.{w32}
use Rattle.std.proofs.lemmas.Int.{to_z-of_z}
use Rattle.sbpf_exec.specs.Parts.{machine_regions}
use Rattle.sbpf_exec.proofs.quick.quick_step.Goals as goal

pub returns-in-Call-clause-next : goal.returns-in-Call-clause-next
returns-in-Call-clause-next c =
    let fits : FitsSigned w32 c.in-Call.offset = search rules in
    rw c.in-Call.is (simp to_z-of_z at (c.calls.ensures.next (machine_regions c.args.regions.now)))
