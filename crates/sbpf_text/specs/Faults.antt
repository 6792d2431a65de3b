-- Faults in definitions, and what a function may return where a definition gives a value or a fault: that
-- value, that fault, or want of memory, which no definition speaks of.
use Rattle.std.specs.Prelude.{◌≡◌, ℕ, List, Option, Some, None, Result, Ok, Err}
use Rattle.sbpf_insn.specs.declared.insn.Insn.{Insn}
use Rattle.sbpf_insn.specs.Program.{Program}
use Rattle.sbpf_text.specs.declared.fault.AsmKind.{AsmKind}
use Rattle.sbpf_text.specs.declared.fault.AsmFault.{AsmFault}
use Rattle.sbpf_text.specs.declared.fault.LineErr.{LineErr}
use Rattle.sbpf_text.specs.declared.fault.LineErr.TheVariants as line_err
use Rattle.sbpf_text.specs.declared.fault.TextErr.{TextErr}
use Rattle.sbpf_text.specs.declared.fault.TextErr.TheVariants as text_err

-- the `?` of the definitions: the second step, if the first gave a value
infixl 10 ◌>>=◌
abbrev pub ◌>>=◌ : {A B F : Type 0} → Result A F → (A → Result B F) → Result B F
(Ok x) >>= f = f x
(Err e) >>= f = Err e

-- a value, or this fault where there is none
abbrev pub or_fault : {A : Type 0} → AsmKind → Option A → Result A AsmKind
or_fault kind None = Err kind
or_fault kind (Some x) = Ok x

-- a line's fault, with its number
abbrev pub at_line : {A : Type 0} → ℕ → Result A AsmKind → Result A AsmFault
at_line n (Ok x) = Ok x
at_line n (Err kind) = Err (record { line = n; kind = kind })

-- ---- of one line

abbrev pub Fails : {A : Type 0} → LineErr → Result A AsmKind → Type 0
Fails line_err.NoMemory read = Unit {0}
Fails (line_err.Kind kind) read = read ≡ Err kind

abbrev pub Gives : {A : Type 0} → Result A LineErr → Result A AsmKind → Type 0
Gives (Ok x) read = read ≡ Ok x
Gives (Err e) read = Fails e read

-- ---- of a text

-- the fault of a line, with its number
abbrev pub IsFaultAt : ℕ → LineErr → TextErr → Type 0
IsFaultAt n e text_err.NoMemory = Unit {0}
IsFaultAt n line_err.NoMemory (text_err.Asm f) = ⊥
IsFaultAt n (line_err.Kind k) (text_err.Asm f) = f ≡ record { line = n; kind = k }

abbrev pub Refuses : {A : Type 0} → TextErr → Result A AsmFault → Type 0
Refuses text_err.NoMemory read = Unit {0}
Refuses (text_err.Asm fault) read = read ≡ Err fault

-- what assembling returned
abbrev pub Assembles : Result Program TextErr → Result (List Insn) AsmFault → Type 0
Assembles (Ok code) read = read ≡ Ok code.insns
Assembles (Err e) read = Refuses e read
