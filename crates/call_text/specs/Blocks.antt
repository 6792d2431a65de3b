-- The blocks of a script: code in assembler text, under a name. It is this project's own.
use Rattle.std.specs.Prelude.{ℕ, ◌+◌, List, [], ◌∷◌, Bool, false, if◌then◌else◌, codes, bytes_eq, Option, Some, None, Result, Ok, Err}
use Rattle.std.specs.List.{flat_map}
use Rattle.sbpf_insn.specs.declared.insn.Insn.{Insn}
use Rattle.sbpf_insn.specs.Table.{spelling}
use Rattle.sbpf_text.specs.declared.fault.AsmFault.{AsmFault}
use Rattle.sbpf_text.specs.Asm.{asm}
use Rattle.script_words.specs.Words.{words, first_of}
use Rattle.call_text.specs.declared.faults.ScriptErr.{ScriptErr}
use Rattle.call_text.specs.declared.faults.ScriptErr.TheVariants.{Asm}

-- a block that is read: its name, and the bytes of its code
pub record Block : Type 0 where
  pub name : List ℕ
  pub code : List ℕ

-- the code of a name
abbrev pub block_of : List ℕ → List Block → Option (List ℕ)
block_of name [] = None
block_of name (block ∷ blocks) = if bytes_eq name block.name then Some block.code else block_of name blocks

-- a line whose first word is `func`
abbrev pub begins_block : List ℕ → Bool
begins_block line = bytes_eq (first_of (words line)) (codes "func")

-- one word alone, and it is `end`
abbrev pub is_end : List (List ℕ) → Bool
is_end (word ∷ []) = bytes_eq word (codes "end")
is_end _ = false

-- a line whose only word is `end`
abbrev pub ends_block : List ℕ → Bool
ends_block line = is_end (words line)

-- the bytes of code that was assembled, or its fault, of which line 1 is the script's line behind `line`
abbrev pub code_at : ℕ → Result (List Insn) AsmFault → Result (List ℕ) ScriptErr
code_at line (Ok code) = Ok (flat_map spelling code)
code_at line (Err fault) = Err (Asm (record { line = line + fault.line; kind = fault.kind }))

-- the code of a block's lines, each with its end, behind the line where the block begins
abbrev pub assembled : ℕ → List ℕ → Result (List ℕ) ScriptErr
assembled line text = code_at line (asm text)
