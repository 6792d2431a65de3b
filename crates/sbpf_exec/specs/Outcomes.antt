-- How a run ended, as the machine's definitions see it.
use Rattle.std.specs.Prelude.{ℕ, ◌≤◌, List}
use Rattle.sbpf_insn.specs.Machine as machine
use Rattle.sbpf_exec.specs.declared.interpreter.Outcome.{Outcome}
use Rattle.sbpf_exec.specs.declared.interpreter.Outcome.TheVariants.{Done, Trap, Spent}
use Rattle.sbpf_exec.specs.declared.interpreter.TrapKind.TheVariants.{Access, Depth}

-- with the output's bytes as they are then
abbrev pub outcome_of : Outcome → List ℕ → machine.Outcome
outcome_of (Done r0 used) output = machine.Ended r0 output used
outcome_of (Trap (Access address size) slot used) output = machine.AccessTrap address size slot used
outcome_of (Trap Depth slot used) output = machine.DepthTrap slot used
outcome_of Spent output = machine.Spent

-- no more units of fuel were used than there were
abbrev pub UsesAtMost : ℕ → Outcome → Type 0
UsesAtMost fuel (Done r0 used) = used ≤ fuel
UsesAtMost fuel (Trap kind slot used) = used ≤ fuel
UsesAtMost fuel Spent = Unit {0}
