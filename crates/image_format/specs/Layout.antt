-- Where the two versions differ, their file records, and the sizes of the parts of an image. This project's own formats.
use Rattle.std.specs.Prelude.{ℕ, ◌+◌, ◌*◌, ◌/◌, ◌≤◌, ◌≡◌, true, false, ◌==◌, if◌then◌else◌}
use Rattle.image_format.specs.declared.layout.Layout.{Layout}

-- `Layout` has how many records there are, the bytes of a record, where a record's name begins, the bytes of the longest name,
-- and whether byte 9 is the sealed mark.

-- version 1: 1,024 records of 64 bytes; names of up to 48 bytes at byte 16
abbrev pub first : Layout
first = record { records = 1024; size = 64; name_at = 16; longest = 48; seals = false }

-- version 2: 4,096 records of 128 bytes; names of up to 96 bytes at byte 32
abbrev pub second : Layout
second = record { records = 4096; size = 128; name_at = 32; longest = 96; seals = true }

abbrev pub layout : ℕ → Layout
layout version = if version == 1 then first else second

-- the pages of extent entries, 256 on each
abbrev pub entry_pages : ℕ → ℕ
entry_pages blocks = (blocks + 255) / 256

-- the pages of the bitmap, 32,768 bits on each
abbrev pub bit_pages : ℕ → ℕ
bit_pages blocks = (blocks + 32767) / 32768

-- the pages of records
abbrev pub record_pages : Layout → ℕ
record_pages l = l.records * l.size / 4096

-- the pages before the data: the header, the records, the extent entries, the bitmap
abbrev pub lead : Layout → ℕ → ℕ
lead l blocks = 1 + record_pages l + entry_pages blocks + bit_pages blocks

-- what both have in common
pub record IsLayout (l : Layout) : Type 0 where
  pub records : l.records ≤ 4096
  pub name_at : (16 ≤ l.name_at) × (l.name_at ≤ 32)
  pub size : l.name_at + l.longest ≡ l.size
  pub longest : (48 ≤ l.longest) × (l.longest ≤ 96)
