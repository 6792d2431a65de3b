-- The file records: each is judged by all its faults before the next one.
use Rattle.std.specs.Prelude.{ℕ, zero, suc, ◌+◌, ◌-◌, ◌^◌, List, [], ◌∷◌, ◌++◌, take, drop, Bool, true, false, not, ◌&&◌, ◌==◌, nat_lt, nat_le, bytes_eq, Result, Ok, if◌then◌else◌, slice_index}
use Rattle.std.specs.List.{list_any}
use Rattle.name_table.specs.Name.{is_name}
use Rattle.image_format.specs.declared.faults.ImageKind.TheVariants.{RecordForm, FileLength, Name}
use Rattle.image_format.specs.declared.faults.ImageFault.{ImageFault}
use Rattle.image_format.specs.Faults.{◌>>=◌, demand}
use Rattle.image_format.specs.Numbers.{u32_at, part, are_zero}
use Rattle.image_format.specs.declared.layout.Layout.{Layout}

-- a file as its record tells it
pub record Stored : Type 0 where
  pub id : ℕ
  pub name : List ℕ
  pub len : ℕ
  pub sealed : Bool

-- what the records so far told: the files, the id of the record before, and whether an unused record came
pub record Listing : Type 0 where
  pub files : List Stored
  pub last : ℕ
  pub ended : Bool

abbrev pub none_yet : Listing
none_yet = record { files = []; last = 0; ended = false }

-- the bytes of the name, which byte 8 counts
abbrev pub name_in : Layout → List ℕ → List ℕ
name_in l raw = part raw l.name_at (slice_index raw 8)

abbrev pub stored : Layout → List ℕ → Stored
stored l raw = record { id = u32_at raw 0; name = name_in l raw; len = u32_at raw 4; sealed = slice_index raw 9 == 1 }

-- byte 9 is zero, or the sealed mark where there are such; the bytes from there to the name are zeros
abbrev pub is_plain : Layout → List ℕ → Bool
is_plain l raw = nat_le (slice_index raw 9) (if l.seals then 1 else 0) && are_zero (part raw 10 (l.name_at - 10))

-- no record was unused, and the id is above the one before and below the next id
abbrev pub is_next : ℕ → Listing → ℕ → Bool
is_next next so_far id = not so_far.ended && nat_lt so_far.last id && nat_lt id next

abbrev pub has_name : List ℕ → Stored → Bool
has_name name f = bytes_eq f.name name

-- the name is well formed
abbrev pub is_good_name : Layout → List ℕ → Bool
is_good_name l raw = nat_le (slice_index raw 8) l.longest && is_name (name_in l raw)

-- the name is well formed, zeros follow it, and no earlier record has it
abbrev pub is_new_name : Layout → List Stored → List ℕ → Bool
is_new_name l files raw = is_good_name l raw && (are_zero (drop (l.name_at + slice_index raw 8) raw) && not (list_any (has_name (name_in l raw)) files))

-- an unused record is all zeros
unfoldable pub unused_record : ℕ → Listing → List ℕ → Result Listing ImageFault
unused_record at so_far raw = do
  _ ← demand (are_zero raw) RecordForm at
  Ok (record so_far { ended = true })

unfoldable pub used_record : Layout → ℕ → ℕ → Listing → List ℕ → Result Listing ImageFault
used_record l next at so_far raw = do
  _ ← demand (is_next next so_far (u32_at raw 0) && is_plain l raw) RecordForm at
  _ ← demand (nat_le (u32_at raw 4) (2 ^ 28)) FileLength at
  _ ← demand (is_new_name l so_far.files raw) Name at
  Ok (record { files = so_far.files ++ stored l raw ∷ []; last = u32_at raw 0; ended = so_far.ended })

-- one record, which stands at an offset
unfoldable pub one_record : Layout → ℕ → ℕ → Listing → List ℕ → Result Listing ImageFault
one_record l next at so_far raw = if u32_at raw 0 == 0 then unused_record at so_far raw else used_record l next at so_far raw

-- so many records, of which the first stands at an offset
unfoldable pub records : Layout → ℕ → ℕ → ℕ → Listing → List ℕ → Result Listing ImageFault
records l next zero at so_far bytes = Ok so_far
records l next (suc n) at so_far bytes = do
  now ← one_record l next at so_far (take l.size bytes)
  records l next n (at + l.size) now (drop l.size bytes)
