-- Accepted code from bytes: decoded, then verified. This project's own.
use Rattle.std.specs.Prelude.{◌≡◌, ℕ, List, Option, Some, None, Result, Ok, Err}
use Rattle.sbpf_insn.specs.declared.insn.Insn.{Insn}
use Rattle.sbpf_insn.specs.declared.fault.InsnFault.{InsnFault}
use Rattle.sbpf_insn.specs.declared.fault.VerifyFault.{VerifyFault}
use Rattle.sbpf_insn.specs.Decoded.{decoded}
use Rattle.sbpf_insn.specs.Refusal.{refusal}
use Rattle.sbpf_load.specs.declared.loading.CodeErr.{CodeErr}
use Rattle.sbpf_load.specs.declared.loading.CodeErr.TheVariants as err

abbrev pub unless_refused : List Insn → Option VerifyFault → Result (List Insn) CodeErr
unless_refused code None = Ok code
unless_refused code (Some fault) = Err (err.Verify fault)

abbrev pub then_verified : Result (List Insn) InsnFault → Result (List Insn) CodeErr
then_verified (Ok code) = unless_refused code (refusal code)
then_verified (Err fault) = Err (err.Insn fault)

-- the accepted code that the bytes spell, or the first fault
abbrev pub loaded : List ℕ → Result (List Insn) CodeErr
loaded bytes = then_verified (decoded bytes)

-- what a function answered is what loading gives, unless memory ran out
abbrev pub Loads : Result (List Insn) CodeErr → Result (List Insn) CodeErr → Type 0
Loads (Ok code) read = read ≡ Ok code
Loads (Err err.NoMemory) read = Unit {0}
Loads (Err (err.Insn fault)) read = read ≡ Err (err.Insn fault)
Loads (Err (err.Verify fault)) read = read ≡ Err (err.Verify fault)
