-- The code that an assembler text spells, or its first fault: two passes over the lines, of which the first
-- finds each label's slot, and the second the instructions. This project's own.
use Rattle.std.specs.Prelude.{◌≡◌, ℕ, ◌+◌, List, [], ◌∷◌, ◌++◌, Bool, true, false, ◌&&◌, if◌then◌else◌, Option, Some, None, Result, Ok, Err}
use Rattle.std.specs.List.{list_all}
use Rattle.sbpf_insn.specs.declared.insn.Insn.{Insn}
use Rattle.sbpf_insn.specs.Decoded.{slots_of}
use Rattle.sbpf_insn.specs.Cells.{slots, insns}
use Rattle.sbpf_text.specs.declared.fault.AsmKind.{AsmKind}
use Rattle.sbpf_text.specs.declared.fault.AsmKind.TheVariants as kind
use Rattle.sbpf_text.specs.declared.fault.AsmFault.{AsmFault}
use Rattle.sbpf_text.specs.declared.fault.LineErr.{LineErr}
use Rattle.sbpf_text.specs.declared.fault.TextErr.{TextErr}
use Rattle.sbpf_text.specs.Lexing.{lines, without_comment, is_line_byte, label_of, behind_label, is_label}
use Rattle.sbpf_text.specs.Labels.{slot_of}
use Rattle.sbpf_text.specs.Faults.{◌>>=◌, at_line, Fails, Refuses}
use Rattle.sbpf_text.specs.Instructions.{insn_at}

-- ---- the first pass

-- what the lines above have given: the slots of their labels, and the slot of the next instruction
pub record SoFar : Type 0 where
  pub labels : List (List ℕ × ℕ)
  pub slot : ℕ

abbrev pub so_far : List (List ℕ × ℕ) → ℕ → SoFar
so_far labels slot = record { labels = labels; slot = slot }

abbrev pub nothing : SoFar
nothing = so_far [] 0

abbrev pub is_new : Option ℕ → Bool
is_new None = true
is_new (Some slot) = false

-- a label stands for the slot of the next instruction
unfoldable pub with_label : SoFar → Option (List ℕ) → Result SoFar AsmKind
with_label a None = Ok a
with_label a (Some name) =
    if is_label name && is_new (slot_of name a.labels) then Ok (record a { labels = a.labels ++ (name, a.slot) ∷ [] })
    else Err kind.Label

abbrev pub slot_behind : ℕ → Option Insn → ℕ
slot_behind slot None = slot
slot_behind slot (Some i) = slot + slots_of i

abbrev pub with_insn : SoFar → Option Insn → SoFar
with_insn a i = record a { slot = slot_behind a.slot i }

-- a line without its comment
unfoldable pub scan_text : SoFar → List ℕ → Result SoFar AsmKind
scan_text a text = do
  b ← with_label a (label_of text)
  i ← insn_at b.labels b.slot false (behind_label text)
  Ok (with_insn b i)

unfoldable pub scan_line : SoFar → List ℕ → Result SoFar AsmKind
scan_line a line = if list_all is_line_byte line then scan_text a (without_comment line) else Err kind.Char

-- lines, of which the first is line n
abbrev pub scan : ℕ → SoFar → List (List ℕ) → Result SoFar AsmFault
scan n a [] = Ok a
scan n a (line ∷ rest) = at_line n (scan_line a line) >>= λ b. scan (n + 1) b rest

-- ---- the second pass, with the slots of all labels

abbrev pub settle_line : List (List ℕ × ℕ) → ℕ → List ℕ → Result (Option Insn) AsmKind
settle_line labels slot line = insn_at labels slot true (behind_label (without_comment line))

-- lines, of which the first is line n, behind code
abbrev pub settle : List (List ℕ × ℕ) → ℕ → List Insn → List (List ℕ) → Result (List Insn) AsmFault
settle labels n code [] = Ok code
settle labels n code (line ∷ rest) = at_line n (settle_line labels (slots code) line) >>= λ i. settle labels (n + 1) (code ++ insns i) rest

-- ---- the code of a text

abbrev pub asm : List ℕ → Result (List Insn) AsmFault
asm text = scan 1 nothing (lines text) >>= λ a. settle a.labels 1 [] (lines text)

-- ---- what the steps of the first pass returned, unless memory ran out: the slot, beside the labels

abbrev pub Labelled : Result (Unit {0}) LineErr → List (List ℕ × ℕ) → ℕ → Result SoFar AsmKind → Type 0
Labelled (Ok x) labels slot read = read ≡ Ok (so_far labels slot)
Labelled (Err e) labels slot read = Fails e read

abbrev pub Scans : Result ℕ LineErr → List (List ℕ × ℕ) → Result SoFar AsmKind → Type 0
Scans (Ok slot) labels read = read ≡ Ok (so_far labels slot)
Scans (Err e) labels read = Fails e read

abbrev pub Scanned : Result ℕ TextErr → List (List ℕ × ℕ) → Result SoFar AsmFault → Type 0
Scanned (Ok slot) labels read = read ≡ Ok (so_far labels slot)
Scanned (Err e) labels read = Refuses e read
