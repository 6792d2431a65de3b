use Rattle.std.proofs.Common.{ℕ, ◌<◌, get_or}
use Rattle.flash_die.specs.declared.plan.Plan.{Plan}
use Rattle.drive_array.specs.Mirrors.{IsShort}
use Rattle.drive_array.proofs.mirroring.are_short.Given as goal

abbrev pub invariant-loop-plan : goal.invariant-loop-plan
invariant-loop-plan l = (k : ℕ) (d : Plan) → k < l.plan-index → IsShort (get_or l.plans k d)
