-- Object files: `SBO1`, the number of slots as 32 bits, then 8 bytes for each slot. This project's own.
use Rattle.std.specs.Prelude.{◌≡◌, ℕ, ◌+◌, ◌*◌, Bool, not, ◌&&◌, nat_eq, nat_lt, List, [], ◌∷◌, ◌++◌, length, drop, slice_index, Result, Ok, Err, if◌then◌else◌}
use Rattle.std.specs.Int.{w32, from_le_bytes, to_le_bytes}
use Rattle.std.specs.List.{flat_map}
use Rattle.sbpf_insn.specs.declared.insn.Insn.{Insn}
use Rattle.sbpf_insn.specs.Cells.{slots}
use Rattle.sbpf_insn.specs.Table.{spelling}
use Rattle.sbpf_load.specs.Loaded.{loaded}
use Rattle.sbpf_load.specs.declared.loading.CodeErr.{CodeErr}
use Rattle.sbpf_load.specs.declared.loading.CodeErr.TheVariants as code_err
use Rattle.sbpf_load.specs.declared.object.ObjectErr.{ObjectErr}
use Rattle.sbpf_load.specs.declared.object.ObjectErr.TheVariants as err

-- SBO1
abbrev pub magic : List ℕ
magic = 0x53 ∷ 0x42 ∷ 0x4f ∷ 0x31 ∷ []

-- the bytes of an object
abbrev pub object_bytes : List Insn → List ℕ
object_bytes code = magic ++ (to_le_bytes w32 (slots code) ++ flat_map spelling code)

abbrev pub has_magic : List ℕ → Bool
has_magic bytes =
    not (nat_lt (length bytes) 4)
    && (nat_eq (slice_index bytes 0) 0x53 && (nat_eq (slice_index bytes 1) 0x42 && (nat_eq (slice_index bytes 2) 0x4f && nat_eq (slice_index bytes 3) 0x31)))

-- the number of slots that the object tells
abbrev pub told_slots : List ℕ → ℕ
told_slots bytes = from_le_bytes w32 (slice_index bytes 4 ∷ slice_index bytes 5 ∷ slice_index bytes 6 ∷ slice_index bytes 7 ∷ [])

abbrev pub has_length : List ℕ → Bool
has_length bytes = not (nat_lt (length bytes) 8) && nat_eq (length bytes) (8 + 8 * told_slots bytes)

abbrev pub as_object : Result (List Insn) CodeErr → Result (List Insn) ObjectErr
as_object (Ok code) = Ok code
as_object (Err (code_err.Insn fault)) = Err (err.Insn fault)
as_object (Err (code_err.Verify fault)) = Err (err.Verify fault)
as_object (Err code_err.NoMemory) = Err err.NoMemory

-- the accepted code of an object, or the first fault: the magic, the length, decoding, verifying
abbrev pub object_read : List ℕ → Result (List Insn) ObjectErr
object_read bytes =
    if not (has_magic bytes) then Err err.Magic
    else if not (has_length bytes) then Err (err.Length (length bytes))
    else as_object (loaded (drop 8 bytes))

-- what a function answered is what reading gives, unless memory ran out
abbrev pub ReadsObject : Result (List Insn) ObjectErr → Result (List Insn) ObjectErr → Type 0
ReadsObject (Ok code) read = read ≡ Ok code
ReadsObject (Err err.NoMemory) read = Unit {0}
ReadsObject (Err err.Magic) read = read ≡ Err err.Magic
ReadsObject (Err (err.Length bytes)) read = read ≡ Err (err.Length bytes)
ReadsObject (Err (err.Insn fault)) read = read ≡ Err (err.Insn fault)
ReadsObject (Err (err.Verify fault)) read = read ≡ Err (err.Verify fault)
