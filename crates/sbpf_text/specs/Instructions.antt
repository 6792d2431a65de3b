-- The instruction of a mnemonic and its operands. The forms of all operands are judged first, then their
-- registers, then their numbers, then labels. This project's own.
use Rattle.std.specs.Prelude.{ℕ, ◌+◌, ◌≤◌, ◌^◌, ℤ, IsTrue, List, [], ◌∷◌, Bool, ◌&&◌, nat_le, if◌then◌else◌, Option, Some, None, Result, Ok, Err}
use Rattle.sbpf_insn.specs.declared.insn.Reg.{Reg}
use Rattle.sbpf_insn.specs.declared.insn.Src.{Src}
use Rattle.sbpf_insn.specs.declared.insn.Insn.{Insn}
use Rattle.sbpf_insn.specs.declared.insn.Insn.TheVariants as insn
use Rattle.sbpf_insn.specs.Decoded.{slots_of}
use Rattle.sbpf_insn.specs.Table.{is_well_formed}
use Rattle.sbpf_text.specs.declared.fault.AsmKind.{AsmKind}
use Rattle.sbpf_text.specs.declared.fault.AsmKind.TheVariants as kind
use Rattle.sbpf_text.specs.declared.mnemonic.Mnemonic.{Mnemonic}
use Rattle.sbpf_text.specs.declared.mnemonic.Mnemonic.TheVariants as mnemonic
use Rattle.sbpf_text.specs.Mnemonics.{mnemonic_spelled}
use Rattle.sbpf_text.specs.Lexing.{first_word, behind_word, has_no_word, operand_words}
use Rattle.sbpf_text.specs.Faults.{◌>>=◌}
use Rattle.sbpf_text.specs.Forms.{is_register, is_number, is_value, is_target, is_address, base_of, offset_of}
use Rattle.sbpf_text.specs.Operands.{register_at, number_at, wide_at, offset_at, value_at, target_at}

-- ---- lists of operands by the places that a mnemonic has

unfoldable pub one_register : List (List ℕ) → Result Reg AsmKind
one_register (d ∷ []) = if is_register d then register_at d else Err kind.Operand
one_register _ = Err kind.Operand

unfoldable pub two_registers : List (List ℕ) → Result (Reg × Reg) AsmKind
two_registers (d ∷ s ∷ []) = if is_register d && is_register s then (do
  dst ← register_at d
  src ← register_at s
  Ok (dst, src)) else Err kind.Operand
two_registers _ = Err kind.Operand

unfoldable pub register_value : List (List ℕ) → Result (Reg × Src) AsmKind
register_value (d ∷ s ∷ []) = if is_register d && is_value s then (do
  dst ← register_at d
  src ← value_at s
  Ok (dst, src)) else Err kind.Operand
register_value _ = Err kind.Operand

unfoldable pub register_wide : List (List ℕ) → Result (Reg × ℕ) AsmKind
register_wide (d ∷ n ∷ []) = if is_register d && is_number n then (do
  dst ← register_at d
  value ← wide_at n
  Ok (dst, value)) else Err kind.Operand
register_wide _ = Err kind.Operand

unfoldable pub register_address : List (List ℕ) → Result (Reg × Reg × ℤ) AsmKind
register_address (d ∷ a ∷ []) = if is_register d && is_address a then (do
  dst ← register_at d
  base ← register_at (base_of a)
  offset ← offset_at (offset_of a)
  Ok (dst, base, offset)) else Err kind.Operand
register_address _ = Err kind.Operand

unfoldable pub address_number_of : List ℕ → List ℕ → Result (Reg × ℤ × ℤ) AsmKind
address_number_of a n = if is_address a && is_number n then (do
  base ← register_at (base_of a)
  offset ← offset_at (offset_of a)
  imm ← number_at n
  Ok (base, offset, imm)) else Err kind.Operand

unfoldable pub address_number : List (List ℕ) → Result (Reg × ℤ × ℤ) AsmKind
address_number (a ∷ n ∷ []) = address_number_of a n
address_number _ = Err kind.Operand

unfoldable pub address_register_of : List ℕ → List ℕ → Result (Reg × ℤ × Reg) AsmKind
address_register_of a s = if is_address a && is_register s then (do
  base ← register_at (base_of a)
  src ← register_at s
  offset ← offset_at (offset_of a)
  Ok (base, offset, src)) else Err kind.Operand

unfoldable pub address_register : List (List ℕ) → Result (Reg × ℤ × Reg) AsmKind
address_register (a ∷ s ∷ []) = address_register_of a s
address_register _ = Err kind.Operand

unfoldable pub one_target : ℕ → List (List ℕ × ℕ) → ℕ → Bool → List (List ℕ) → Result ℤ AsmKind
one_target half labels slot settled (t ∷ []) = if is_target t then target_at half labels slot settled t else Err kind.Operand
one_target half labels slot settled _ = Err kind.Operand

unfoldable pub register_value_target_of : List (List ℕ × ℕ) → ℕ → Bool → List ℕ → List ℕ → List ℕ → Result (Reg × Src × ℤ) AsmKind
register_value_target_of labels slot settled d s t = if is_register d && is_value s && is_target t then (do
  dst ← register_at d
  src ← value_at s
  offset ← target_at (2 ^ 15) labels slot settled t
  Ok (dst, src, offset)) else Err kind.Operand

unfoldable pub register_value_target : List (List ℕ × ℕ) → ℕ → Bool → List (List ℕ) → Result (Reg × Src × ℤ) AsmKind
register_value_target labels slot settled (d ∷ s ∷ t ∷ []) = register_value_target_of labels slot settled d s t
register_value_target labels slot settled _ = Err kind.Operand

unfoldable pub no_operands : List (List ℕ) → Result Insn AsmKind
no_operands [] = Ok insn.Exit
no_operands _ = Err kind.Operand

-- ---- the instruction of a mnemonic that begins at a slot

unfoldable pub insn_of : List (List ℕ × ℕ) → ℕ → Bool → Mnemonic → List (List ℕ) → Result Insn AsmKind
insn_of labels slot settled (mnemonic.Alu wide op) words = register_value words >>= λ o. Ok (insn.Alu wide op o.0 o.1)
insn_of labels slot settled (mnemonic.Neg wide) words = one_register words >>= λ dst. Ok (insn.Neg wide dst)
insn_of labels slot settled (mnemonic.MovSx wide bits) words = two_registers words >>= λ o. Ok (insn.MovSx wide bits o.0 o.1)
insn_of labels slot settled (mnemonic.End order bits) words = one_register words >>= λ dst. Ok (insn.End order bits dst)
insn_of labels slot settled mnemonic.Ja words = one_target (2 ^ 15) labels slot settled words >>= λ t. Ok (insn.Ja t)
insn_of labels slot settled mnemonic.JaFar words = one_target (2 ^ 31) labels slot settled words >>= λ t. Ok (insn.JaFar t)
insn_of labels slot settled (mnemonic.Jump wide c) words = register_value_target labels slot settled words >>= λ o. Ok (insn.Jump wide c o.0 o.1 o.2)
insn_of labels slot settled mnemonic.Call words = one_target (2 ^ 31) labels slot settled words >>= λ t. Ok (insn.Call t)
insn_of labels slot settled mnemonic.Exit words = no_operands words
insn_of labels slot settled (mnemonic.Load size) words = register_address words >>= λ o. Ok (insn.Load size o.0 o.1 o.2)
insn_of labels slot settled (mnemonic.LoadSx size) words = register_address words >>= λ o. Ok (insn.LoadSx size o.0 o.1 o.2)
insn_of labels slot settled (mnemonic.StoreImm size) words = address_number words >>= λ o. Ok (insn.StoreImm size o.0 o.1 o.2)
insn_of labels slot settled (mnemonic.StoreReg size) words = address_register words >>= λ o. Ok (insn.StoreReg size o.0 o.1 o.2)
insn_of labels slot settled (mnemonic.Atomic wide op fetch) words = address_register words >>= λ o. Ok (insn.Atomic wide op fetch o.0 o.1 o.2)
insn_of labels slot settled mnemonic.LoadWide words = register_wide words >>= λ o. Ok (insn.LoadWide o.0 o.1)

-- an instruction that ends with slot 4,095 at the latest
unfoldable pub within_code : ℕ → Insn → Result (Option Insn) AsmKind
within_code slot i = if nat_le (slot + slots_of i) 4096 then Ok (Some i) else Err kind.Long

unfoldable pub insn_with : List (List ℕ × ℕ) → ℕ → Bool → Option Mnemonic → List ℕ → Result (Option Insn) AsmKind
insn_with labels slot settled None rest = Err kind.Word
insn_with labels slot settled (Some mnemonic) rest = insn_of labels slot settled mnemonic (operand_words rest) >>= within_code slot

-- the instruction of a line, if it has one, that begins at a slot
unfoldable pub insn_at : List (List ℕ × ℕ) → ℕ → Bool → List ℕ → Result (Option Insn) AsmKind
insn_at labels slot settled text =
    if has_no_word text then Ok None
    else insn_with labels slot settled (mnemonic_spelled (first_word text)) (behind_word text)

-- what code may hold behind its slots: a well formed instruction that ends with slot 4,095 at the latest
pub record IsFitting (slot : ℕ) (i : Insn) : Type 0 where
  pub formed : IsTrue (is_well_formed i)
  pub within : slot + slots_of i ≤ 4096
