-- The row of an opcode, by its bits.
use Rattle.std.proofs.Common.{◌≡◌, ℕ, zero, suc, ◌<◌, Bool, true, false, nat_eq, Option, Some, None, refl, sym, inl, inr, arith}
use Rattle.std.specs.Prelude.{◌&&◌, is_none}
use Rattle.std.proofs.lemmas.Bool.{eqb-true, cases_eq}
use Rattle.sbpf_insn.specs.declared.insn.AluOp.{AluOp}
use Rattle.sbpf_insn.specs.declared.insn.AluOp.TheVariants as alu
use Rattle.sbpf_insn.specs.declared.insn.Order.TheVariants as order
use Rattle.sbpf_insn.specs.declared.insn.Cond.TheVariants as condition
use Rattle.sbpf_insn.specs.declared.insn.Size.TheVariants as size
use Rattle.sbpf_insn.specs.declared.form.Form.{Form}
use Rattle.sbpf_insn.specs.declared.form.Form.TheVariants as form
use Rattle.sbpf_insn.specs.Opcodes.{opcode_of, form_at}
use Rattle.sbpf_insn.specs.Bits.{op_of_code, cond_of_code, form_of_bits}

-- a test that holds of each number below n
abbrev pub all_below : (ℕ → Bool) → ℕ → Bool
all_below p zero = true
all_below p (suc n) = p n && all_below p n

pub and_left : (a b : Bool) → (a && b) ≡ true → a ≡ true
and_left true b e = refl
and_left false b e = absurd cc

pub and_right : (a b : Bool) → (a && b) ≡ true → b ≡ true
and_right true b e = e
and_right false b e = absurd cc

pub from_test : (p : ℕ → Bool) (n k : ℕ) → k < n → all_below p n ≡ true → p k ≡ true
from_test p zero k lt e = absurd (omega arith)
from_test p (suc n) k lt e =
    elim (cases_eq k n) [
      | inl same ↦ rw same (and_left (p n) (all_below p n) e)
      | inr other ↦ from_test p n k (omega arith) (and_right (p n) (all_below p n) e)
    ]

-- what stands in the table
abbrev pub is_row_op : AluOp → Bool
is_row_op alu.Sdiv = false
is_row_op alu.Smod = false
is_row_op _ = true

abbrev pub is_row : Form → Bool
is_row (form.Alu wide op r) = is_row_op op
is_row (form.LoadSx size.Dw) = false
is_row f = true

-- each form stands in the table at its opcode
pub form_at-opcode : (f : Form) → is_row f ≡ true → form_at (opcode_of f) ≡ Some f
unfolding form_at
form_at-opcode (form.Alu true op true) e = elim op as (λ o. is_row_op o ≡ true → form_at (opcode_of (form.Alu true o true)) ≡ Some (form.Alu true o true)) [ alu.Sdiv ↦ λ h. absurd cc | alu.Smod ↦ λ h. absurd cc | _ ↦ λ h. refl ] e
form_at-opcode (form.Alu true op false) e = elim op as (λ o. is_row_op o ≡ true → form_at (opcode_of (form.Alu true o false)) ≡ Some (form.Alu true o false)) [ alu.Sdiv ↦ λ h. absurd cc | alu.Smod ↦ λ h. absurd cc | _ ↦ λ h. refl ] e
form_at-opcode (form.Alu false op true) e = elim op as (λ o. is_row_op o ≡ true → form_at (opcode_of (form.Alu false o true)) ≡ Some (form.Alu false o true)) [ alu.Sdiv ↦ λ h. absurd cc | alu.Smod ↦ λ h. absurd cc | _ ↦ λ h. refl ] e
form_at-opcode (form.Alu false op false) e = elim op as (λ o. is_row_op o ≡ true → form_at (opcode_of (form.Alu false o false)) ≡ Some (form.Alu false o false)) [ alu.Sdiv ↦ λ h. absurd cc | alu.Smod ↦ λ h. absurd cc | _ ↦ λ h. refl ] e
form_at-opcode (form.Jump true c true) e = elim c as (λ c. form_at (opcode_of (form.Jump true c true)) ≡ Some (form.Jump true c true)) [ condition.Jeq ↦ refl | _ ↦ refl ]
form_at-opcode (form.Jump true c false) e = elim c as (λ c. form_at (opcode_of (form.Jump true c false)) ≡ Some (form.Jump true c false)) [ condition.Jeq ↦ refl | _ ↦ refl ]
form_at-opcode (form.Jump false c true) e = elim c as (λ c. form_at (opcode_of (form.Jump false c true)) ≡ Some (form.Jump false c true)) [ condition.Jeq ↦ refl | _ ↦ refl ]
form_at-opcode (form.Jump false c false) e = elim c as (λ c. form_at (opcode_of (form.Jump false c false)) ≡ Some (form.Jump false c false)) [ condition.Jeq ↦ refl | _ ↦ refl ]
form_at-opcode (form.Neg true) e = refl
form_at-opcode (form.Neg false) e = refl
form_at-opcode (form.End order.Little) e = refl
form_at-opcode (form.End order.Big) e = refl
form_at-opcode (form.End order.Swap) e = refl
form_at-opcode (form.Ja) e = refl
form_at-opcode (form.JaFar) e = refl
form_at-opcode (form.Call) e = refl
form_at-opcode (form.Exit) e = refl
form_at-opcode (form.Atomic true) e = refl
form_at-opcode (form.Atomic false) e = refl
form_at-opcode (form.LoadWide) e = refl
form_at-opcode (form.LoadSx size.B) e = refl
form_at-opcode (form.LoadSx size.H) e = refl
form_at-opcode (form.LoadSx size.W) e = refl
form_at-opcode (form.LoadSx size.Dw) e = absurd cc
form_at-opcode (form.Load s) e = elim s as (λ s. form_at (opcode_of (form.Load s)) ≡ Some (form.Load s)) [ size.B ↦ refl | _ ↦ refl ]
form_at-opcode (form.StoreImm s) e = elim s as (λ s. form_at (opcode_of (form.StoreImm s)) ≡ Some (form.StoreImm s)) [ size.B ↦ refl | _ ↦ refl ]
form_at-opcode (form.StoreReg s) e = elim s as (λ s. form_at (opcode_of (form.StoreReg s)) ≡ Some (form.StoreReg s)) [ size.B ↦ refl | _ ↦ refl ]

-- what the bits of an opcode say agrees with the table
abbrev pub agrees : ℕ → Option Form → Bool
agrees opcode None = is_none (form_at opcode)
agrees opcode (Some f) = is_row f && nat_eq (opcode_of f) opcode

abbrev pub bits_agree : ℕ → Bool
bits_agree opcode = agrees opcode (form_of_bits opcode)

all_agree : all_below bits_agree 256 ≡ true
unfolding form_at op_of_code cond_of_code form_of_bits
all_agree = refl

none_is : {X : Type 0} (o : Option X) → is_none o ≡ true → None ≡ o
none_is None e = refl
none_is (Some x) e = absurd cc

agrees_is : (opcode : ℕ) (o : Option Form) → agrees opcode o ≡ true → o ≡ form_at opcode
agrees_is opcode None e = none_is (form_at opcode) e
agrees_is opcode (Some f) e =
    let same : opcode_of f ≡ opcode = eqb-true (opcode_of f) opcode (and_right (is_row f) (nat_eq (opcode_of f) opcode) e) in
    rw (← same) (sym (form_at-opcode f (and_left (is_row f) (nat_eq (opcode_of f) opcode) e)))

pub form_of_bits_is : (opcode : ℕ) → opcode < 256 → form_of_bits opcode ≡ form_at opcode
form_of_bits_is opcode lt = agrees_is opcode (form_of_bits opcode) (from_test bits_agree 256 opcode lt all_agree)
