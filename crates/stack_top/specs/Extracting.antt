-- `elf OBJ SECTION OUT`: the object of the code in a section of an ELF64 object. This project's own.
use Rattle.std.specs.Prelude.{ℕ, List, Result, Ok, Err}
use Rattle.elf_bpf.specs.declared.fault.ElfErr.{ElfErr}
use Rattle.elf_bpf.specs.declared.fault.ElfErr.TheVariants as err
use Rattle.elf_bpf.specs.Reading.{elf_code}
use Rattle.sbpf_insn.specs.declared.insn.Insn.{Insn}
use Rattle.sbpf_load.specs.Objects.{object_bytes}
use Rattle.stack_top.specs.Acts.{name_of, written_and_told, slots_line}
use Rattle.stack_top.specs.declared.refusal.ObjectFault.TheVariants as object
use Rattle.stack_top.specs.declared.refusal.Refusal.{Refusal}
use Rattle.stack_top.specs.declared.refusal.Refusal.TheVariants as refused
use Rattle.stack_top.specs.Works.{Finish, refuses, does, Work, reads, ends}

-- Reading as a definition never wants memory.
abbrev pub elf_refusal : ElfErr → Refusal
elf_refusal (err.Elf fault) = refused.BadElf fault
elf_refusal (err.Insn fault) = refused.BadObject (object.Insn fault)
elf_refusal (err.Verify fault) = refused.BadObject (object.Verify fault)
elf_refusal err.NoMemory = refused.NoMemory

abbrev pub extracted : List ℕ → Result (List Insn) ElfErr → Finish
extracted out (Ok code) = does (written_and_told (name_of out) (object_bytes code) (slots_line code))
extracted out (Err e) = refuses (elf_refusal e)

abbrev pub elf_work : List ℕ → List ℕ → List ℕ → Work
elf_work name section out = reads name (λ bytes. ends (extracted out (elf_code bytes section)))
