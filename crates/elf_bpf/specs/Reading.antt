-- Accepted code out of an object: the named section's bytes, decoded and verified. This project's own.
use Rattle.std.specs.Prelude.{◌≡◌, ℕ, List, Result, Ok, Err}
use Rattle.sbpf_insn.specs.declared.insn.Insn.{Insn}
use Rattle.sbpf_load.specs.Loaded.{loaded}
use Rattle.sbpf_load.specs.declared.loading.CodeErr.{CodeErr}
use Rattle.sbpf_load.specs.declared.loading.CodeErr.TheVariants as code_err
use Rattle.elf_bpf.specs.declared.fault.ElfFault.{ElfFault}
use Rattle.elf_bpf.specs.declared.fault.ElfErr.{ElfErr}
use Rattle.elf_bpf.specs.declared.fault.ElfErr.TheVariants as err
use Rattle.elf_bpf.specs.Elf.{elf}

abbrev pub from_code : Result (List Insn) CodeErr → Result (List Insn) ElfErr
from_code (Ok code) = Ok code
from_code (Err (code_err.Insn fault)) = Err (err.Insn fault)
from_code (Err (code_err.Verify fault)) = Err (err.Verify fault)
from_code (Err code_err.NoMemory) = Err err.NoMemory

abbrev pub then_loaded : Result (List ℕ) ElfFault → Result (List Insn) ElfErr
then_loaded (Ok code) = from_code (loaded code)
then_loaded (Err fault) = Err (err.Elf fault)

-- the accepted code of the named section, or the first fault: of the object, of the code's bytes, of the code
abbrev pub elf_code : List ℕ → List ℕ → Result (List Insn) ElfErr
elf_code bytes section = then_loaded (elf bytes section)

-- what a function answered is what reading gives, unless memory ran out
abbrev pub ReadsElf : Result (List Insn) ElfErr → Result (List Insn) ElfErr → Type 0
ReadsElf (Ok code) read = read ≡ Ok code
ReadsElf (Err err.NoMemory) read = Unit {0}
ReadsElf (Err (err.Elf fault)) read = read ≡ Err (err.Elf fault)
ReadsElf (Err (err.Insn fault)) read = read ≡ Err (err.Insn fault)
ReadsElf (Err (err.Verify fault)) read = read ≡ Err (err.Verify fault)
