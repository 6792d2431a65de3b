-- The bitmap of written blocks: bit b mod 8 of byte b / 8 is that of block b.
use Rattle.std.specs.Prelude.{ℕ, ◌*◌, ◌/◌, ◌%◌, ◌^◌, List, length, map, Bool, not, ◌&&◌, ◌==◌, Option, Some, None, Result, Ok, ⊤, slice_index}
use Rattle.std.specs.List.{list_any, range_with_len, find}
use Rattle.image_format.specs.declared.faults.ImageKind.TheVariants.{Bitmap}
use Rattle.image_format.specs.declared.faults.ImageFault.{ImageFault}
use Rattle.image_format.specs.Faults.{fault}

-- the bit of a block
abbrev pub is_set : List ℕ → ℕ → Bool
is_set bits b = slice_index bits (b / 8) / 2 ^ (b % 8) % 2 == 1

-- a bit that is set, of a block that no entry has
abbrev pub is_stray : List ℕ → List ℕ → ℕ → Bool
is_stray bits used b = is_set bits b && not (list_any (λ u. u == b) used)

-- no bit is stray
unfoldable pub bitmap : List ℕ → List ℕ → Result ⊤ ImageFault
bitmap used bits = none_stray (find (is_stray bits used) (range_with_len 0 (8 * length bits)))
  where
    none_stray : Option ℕ → Result ⊤ ImageFault
    none_stray None = Ok tt
    none_stray (Some b) = fault Bitmap b

-- which data blocks are written
unfoldable pub written_in : ℕ → List ℕ → List Bool
written_in blocks bits = map (is_set bits) (range_with_len 0 blocks)
