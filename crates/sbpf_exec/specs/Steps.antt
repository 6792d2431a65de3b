-- The interpreter's state as the machine's definitions see it, and what a step of it came to.
use Rattle.std.specs.Prelude.{◌≡◌, ℕ, ◌+◌, List, Option, Some, None}
use Rattle.sbpf_insn.specs.Machine as machine
use Rattle.sbpf_insn.specs.declared.insn.Insn.{Insn}
use Rattle.sbpf_insn.specs.declared.insn.Size.{Size}
use Rattle.sbpf_insn.specs.Machine.{State, Next, after_slot, run_from}
use Rattle.sbpf_exec.specs.declared.cpu.Cpu.{Cpu}
use Rattle.sbpf_exec.specs.declared.quick.Advance.{Advance}
use Rattle.sbpf_exec.specs.declared.quick.Advance.TheVariants as advance
use Rattle.sbpf_exec.specs.declared.step.Ending.{Ending}
use Rattle.sbpf_exec.specs.declared.step.Ending.TheVariants.{Goes, Done, Access, Depth}

abbrev pub state : Cpu → ℕ → machine.Regions → State
state cpu slot regions = record { registers = cpu.registers; slot = slot; frames = cpu.frames; regions = regions }

abbrev pub next_of : Ending → Cpu → machine.Regions → Next
next_of (Goes slot) cpu regions = machine.Goes (state cpu slot regions)
next_of (Done r0) cpu regions = machine.Done r0
next_of (Access a n) cpu regions = machine.Access a n
next_of Depth cpu regions = machine.Depth

-- where the run doesn't go on, this holds
abbrev pub OnEnd : Ending → Type 0 → Type 0
OnEnd (Goes slot) p = Unit {0}
OnEnd _ p = p

-- where the run goes on after a quick step from a slot, if it was one
abbrev pub advanced : Advance → ℕ → Option ℕ
advanced advance.Next slot = Some (after_slot slot 1)
advanced (advance.To to) slot = Some to
advanced (advance.Store size address value) slot = None
advanced advance.Slow slot = None

-- what the step has still to store, if it is a store: how much, where and what
abbrev pub to_store : Advance → Option (Size × ℕ × ℕ)
to_store advance.Next = None
to_store (advance.To to) = None
to_store (advance.Store size address value) = Some (size, address, value)
to_store advance.Slow = None

-- So many steps of the code lead from one state to another: with so much more fuel, the run from the one
-- is the run from the other.
abbrev pub Reaches : ℕ → List Insn → State → State → Type 0
Reaches n code m next = (left used : ℕ) → run_from (left + n) used code m ≡ run_from left (used + n) code next
