-- What an operand of the right form stands for, or its fault. This project's own.
use Rattle.std.specs.Prelude.{ℕ, ◌^◌, ℤ, pos, List, Bool, if◌then◌else◌, Option, Some, None, Result, Ok, Err}
use Rattle.sbpf_insn.specs.declared.insn.Reg.{Reg}
use Rattle.sbpf_insn.specs.declared.insn.Src.{Src}
use Rattle.sbpf_insn.specs.declared.insn.Src.TheVariants as src
use Rattle.sbpf_text.specs.declared.fault.AsmKind.{AsmKind}
use Rattle.sbpf_text.specs.declared.fault.AsmKind.TheVariants as kind
use Rattle.sbpf_text.specs.Faults.{◌>>=◌, or_fault}
use Rattle.sbpf_text.specs.Lexing.{begins_with}
use Rattle.sbpf_text.specs.Forms.{is_register, is_sign}
use Rattle.sbpf_text.specs.Numbers.{register, number, offset, wide_number, distance}
use Rattle.sbpf_text.specs.Labels.{slot_of}

abbrev pub register_at : List ℕ → Result Reg AsmKind
register_at word = or_fault kind.Register (register word)

abbrev pub number_at : List ℕ → Result ℤ AsmKind
number_at word = or_fault kind.Number (number (2 ^ 31) word)

abbrev pub wide_at : List ℕ → Result ℕ AsmKind
wide_at word = or_fault kind.Number (wide_number word)

abbrev pub offset_at : List ℕ → Result ℤ AsmKind
offset_at word = or_fault kind.Number (offset (2 ^ 15) word)

unfoldable pub value_at : List ℕ → Result Src AsmKind
value_at word =
    if is_register word then (register_at word >>= λ r. Ok (src.Reg r))
    else number_at word >>= λ k. Ok (src.Imm k)

-- ---- targets of an instruction that begins at a slot, in a field from -half to half - 1

-- Labels are settled after the last line. Till then each stands for the distance 0.

-- the distance to the slot that a label stands for
abbrev pub reach : ℕ → ℕ → Option ℕ → Result ℤ AsmKind
reach half slot None = Err kind.Unknown
reach half slot (Some to) = or_fault kind.Range (distance half slot to)

unfoldable pub label_at : ℕ → List (List ℕ × ℕ) → ℕ → Bool → List ℕ → Result ℤ AsmKind
label_at half labels slot settled name = if settled then reach half slot (slot_of name labels) else Ok (pos 0)

unfoldable pub target_at : ℕ → List (List ℕ × ℕ) → ℕ → Bool → List ℕ → Result ℤ AsmKind
target_at half labels slot settled word =
    if begins_with is_sign word then or_fault kind.Number (offset half word)
    else label_at half labels slot settled word
