-- A run that stays inside the code: each of its steps is an instruction's. This project's own.
use Rattle.std.specs.Prelude.{◌≡◌, ℕ, zero, suc, true, List, is_some}
use Rattle.sbpf_insn.specs.declared.insn.Insn.{Insn}
use Rattle.sbpf_insn.specs.Cells.{at_slot}
use Rattle.sbpf_insn.specs.Machine.{State, Next, Goes, Done, Access, Depth, step}

-- where a step goes on, this holds of the state it goes to
abbrev pub OnGoes : Next → (State → Type 0) → Type 0
OnGoes (Goes m) p = p m
OnGoes (Done r0) p = Unit {0}
OnGoes (Access address size) p = Unit {0}
OnGoes Depth p = Unit {0}

-- within n steps the machine always stands at the first slot of an instruction
unfoldable pub StaysInside : ℕ → List Insn → State → Type 0
StaysInside zero code m = Unit {0}
StaysInside (suc n) code m = (is_some (at_slot code m.slot) ≡ true) × OnGoes (step code m) (StaysInside n code)
