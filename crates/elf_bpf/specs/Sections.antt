-- The section headers of an ELF64 object: where they stand, what they say, and the names of sections.
use Rattle.std.specs.Prelude.{ℕ, ◌+◌, ◌*◌, Bool, not, ◌&&◌, ◌||◌, ◌==◌, false, nat_lt, List, drop, bit_and, bytes_eq, Option, Some, None, if◌then◌else◌}
use Rattle.std.specs.List.{list_any, before_first}
use Rattle.elf_bpf.specs.declared.table.SectionTable.{SectionTable}
use Rattle.elf_bpf.specs.declared.section.SectionHeader.{SectionHeader}
use Rattle.elf_bpf.specs.Numbers.{u32_at, u64_at, part, lies_within}

-- the offset of a section's header
abbrev pub header_place : SectionTable → ℕ → ℕ
header_place table i = table.place + 64 * i

-- the header of the i-th section, from 0
abbrev pub section_header : List ℕ → SectionTable → ℕ → SectionHeader
section_header bytes table i =
    let at = header_place table i in
    record {
      name = u32_at bytes at;
      kind = u32_at bytes (at + 4);
      flags = u64_at bytes (at + 8);
      offset = u64_at bytes (at + 24);
      size = u64_at bytes (at + 32);
      info = u32_at bytes (at + 44);
    }

-- the section's bytes don't pass the end
abbrev pub is_inside : List ℕ → SectionHeader → Bool
is_inside bytes header = lies_within bytes header.offset header.size

-- the section's bytes
abbrev pub contents : List ℕ → SectionHeader → List ℕ
contents bytes header = part bytes header.offset header.size

abbrev pub is_zero : ℕ → Bool
is_zero b = b == 0

-- the bytes up to the first zero byte; none where no byte is zero
abbrev pub up_to_zero : List ℕ → Option (List ℕ)
up_to_zero bytes = if list_any is_zero bytes then Some (before_first is_zero bytes) else None

-- the name at a place of the name section; a place past its end has none
abbrev pub name_at : List ℕ → ℕ → Option (List ℕ)
name_at names at = up_to_zero (drop at names)

abbrev pub is_name : List ℕ → Option (List ℕ) → Bool
is_name name None = false
is_name name (Some other) = bytes_eq other name

-- the i-th section has this name
abbrev pub is_named : List ℕ → SectionTable → List ℕ → List ℕ → ℕ → Bool
is_named bytes table names name i = is_name name (name_at names (section_header bytes table i).name)

-- the flag 0x800 says that a section's bytes are compressed
abbrev pub is_compressed : SectionHeader → Bool
is_compressed header = not (bit_and header.flags 0x800 == 0)

-- the types 4 and 9 are relocations, with and without addends; info is the number of the section that they change
abbrev pub relocates : ℕ → SectionHeader → Bool
relocates i header = (header.kind == 4 || header.kind == 9) && (nat_lt 0 header.size && header.info == i)

-- the k-th section has relocations for the i-th
abbrev pub is_relocation : List ℕ → SectionTable → ℕ → ℕ → Bool
is_relocation bytes table i k = relocates i (section_header bytes table k)
