-- The first fault, slot by slot.
use Rattle.std.proofs.Common.{◌≡◌, ℕ, suc, ◌+◌, ◌-◌, ◌<◌, ◌≤◌, List, Option, None, refl, ap, ◌∙◌, arith}
use Rattle.sbpf_insn.specs.declared.insn.Insn.{Insn}
use Rattle.sbpf_insn.specs.declared.fault.VerifyKind.{VerifyKind}
use Rattle.sbpf_insn.specs.Cells.{at_slot}
use Rattle.sbpf_insn.specs.Refusal.{fault_from, fault_in, first_of}

step : (code : List Insn) (slot n : ℕ) → fault_from code slot (suc n) ≡ first_of (fault_in code slot (at_slot code slot)) slot (fault_from code (slot + 1) n)
unfolding fault_from
step code slot n = refl

-- one slot of those that are left
pub step_left : (code : List Insn) (slot count : ℕ) (fault : Option VerifyKind) → slot < count → fault_in code slot (at_slot code slot) ≡ fault → fault_from code slot (count - slot) ≡ first_of fault slot (fault_from code (slot + 1) (count - (slot + 1)))
step_left code slot count fault lt e =
    let n : count - slot ≡ suc (count - (slot + 1)) = omega arith in
    rw n (step code slot (count - (slot + 1)) ∙ ap (λ (f : Option VerifyKind). first_of f slot (fault_from code (slot + 1) (count - (slot + 1)))) e)

pub none_left : (code : List Insn) (slot count : ℕ) → count ≤ slot → fault_from code slot (count - slot) ≡ None
unfolding fault_from
none_left code slot count le =
    let n : count - slot ≡ 0 = omega arith in
    rw n refl
