-- A named section of a relocatable ELF64 object for BPF: its bytes, or the first fault. The fields are those of the ELF-64 object file format; which objects are refused is this project's own.
use Rattle.std.specs.Prelude.{ℕ, ◌*◌, Bool, not, ◌&&◌, ◌==◌, nat_le, nat_lt, List, [], ◌∷◌, length, take, slice_index, bytes_eq, find, Option, Some, None, Result, Ok, ⊤}
use Rattle.std.specs.List.{range_with_len}
use Rattle.elf_bpf.specs.declared.fault.ElfFault.{ElfFault}
use Rattle.elf_bpf.specs.declared.fault.ElfKind.TheVariants.{Short, Magic, Class, Order, TypeField, Machine, Table, Strings, NoSection, Section, Relocated}
use Rattle.elf_bpf.specs.declared.table.SectionTable.{SectionTable}
use Rattle.elf_bpf.specs.Faults.{◌>>=◌, fault, demand, found}
use Rattle.elf_bpf.specs.Numbers.{u16_at, u64_at, lies_within}
use Rattle.elf_bpf.specs.Sections.{header_place, section_header, is_inside, contents, is_named, is_compressed, is_relocation}

-- 7f, `ELF`
abbrev pub magic : List ℕ
magic = 0x7f ∷ 0x45 ∷ 0x4c ∷ 0x46 ∷ []

-- the object's header, of 64 bytes, tells where the section headers stand, how many they are, and which is that of the section of names
unfoldable pub section_table : List ℕ → Result SectionTable ElfFault
section_table bytes =
    let place = u64_at bytes 40 in
    let count = u16_at bytes 60 in
    let names = u16_at bytes 62 in do
      _ ← demand (nat_le 64 (length bytes)) Short (length bytes)
      _ ← demand (bytes_eq (take 4 bytes) magic) Magic 0
      _ ← demand (slice_index bytes 4 == 2) Class 4
      _ ← demand (slice_index bytes 5 == 1) Order 5
      _ ← demand (u16_at bytes 16 == 1) TypeField 16
      _ ← demand (u16_at bytes 18 == 247) Machine 18
      _ ← demand (u16_at bytes 58 == 64 && (nat_lt 0 count && (nat_lt names count && lies_within bytes place (64 * count)))) Table 40
      Ok (record { place = place; count = count; names = names })

-- the bytes of the section of names, which has type 3
unfoldable pub name_section : List ℕ → SectionTable → Result (List ℕ) ElfFault
name_section bytes table =
    let header = section_header bytes table table.names in do
      _ ← demand (header.kind == 3 && is_inside bytes header) Strings (header_place table table.names)
      Ok (contents bytes header)

-- the first number below the count that passes
abbrev pub first_below : ℕ → (ℕ → Bool) → Option ℕ
first_below count test = find test (range_with_len 0 count)

-- the first section of this name
unfoldable pub named_section : List ℕ → SectionTable → List ℕ → List ℕ → Result ℕ ElfFault
named_section bytes table names section =
    found (first_below table.count (is_named bytes table names section)) NoSection table.count

-- the bytes of a section of type 1
unfoldable pub section_bytes : List ℕ → SectionTable → ℕ → Result (List ℕ) ElfFault
section_bytes bytes table i =
    let header = section_header bytes table i in do
      _ ← demand (header.kind == 1 && (not (is_compressed header) && is_inside bytes header)) Section (header_place table i)
      Ok (contents bytes header)

-- no section relocates this one
unfoldable pub unrelocated : List ℕ → SectionTable → ℕ → Result ⊤ ElfFault
unrelocated bytes table i = none (first_below table.count (is_relocation bytes table i))
  where
    none : Option ℕ → Result ⊤ ElfFault
    none None = Ok tt
    none (Some k) = fault Relocated (header_place table k)

-- the bytes of the named section, or the object's first fault
unfoldable pub elf : List ℕ → List ℕ → Result (List ℕ) ElfFault
elf bytes section = do
  table ← section_table bytes
  names ← name_section bytes table
  i ← named_section bytes table names section
  code ← section_bytes bytes table i
  _ ← unrelocated bytes table i
  Ok code
