-- Page 0 of an image: its fields and its faults, in the order in which they answer.
use Rattle.std.specs.Prelude.{ℕ, ◌+◌, ◌*◌, List, [], ◌∷◌, length, take, ◌&&◌, ◌||◌, ◌==◌, nat_le, bytes_eq, Option, Some, None, Result, Ok, ⊤}
use Rattle.image_format.specs.declared.faults.ImageKind.TheVariants.{Short, Magic, Version, Geometry, Length, NextId, Reserved}
use Rattle.image_format.specs.declared.faults.ImageFault.{ImageFault}
use Rattle.image_format.specs.Faults.{◌>>=◌, demand, fault}
use Rattle.image_format.specs.Numbers.{u32_at, part, first_set}
use Rattle.image_format.specs.Layout.{layout, lead}
use Rattle.image_format.specs.declared.header.Header.{Header}

-- `LIO1`
abbrev pub magic : List ℕ
magic = 0x4c ∷ 0x49 ∷ 0x4f ∷ 0x31 ∷ []

-- the bytes of an image of these sizes
abbrev pub image_length : ℕ → ℕ → ℕ
image_length version blocks = 4096 * (lead (layout version) blocks + blocks)

-- bytes 20 to 4,095 are zeros
unfoldable pub reserved : List ℕ → Result ⊤ ImageFault
reserved bytes = none_set (first_set (part bytes 20 4076))
  where
    none_set : Option ℕ → Result ⊤ ImageFault
    none_set None = Ok tt
    none_set (Some i) = fault Reserved (20 + i)

unfoldable pub header : List ℕ → Result Header ImageFault
header bytes =
    let version = u32_at bytes 4 in
    let blocks = u32_at bytes 8 in
    let dies = u32_at bytes 12 in
    let next = u32_at bytes 16 in do
      _ ← demand (nat_le 4096 (length bytes)) Short (length bytes)
      _ ← demand (bytes_eq (take 4 bytes) magic) Magic 0
      _ ← demand (version == 1 || version == 2) Version 4
      _ ← demand (nat_le 1 blocks && nat_le blocks 65536) Geometry 8
      _ ← demand (nat_le 1 dies && nat_le dies 16) Geometry 12
      _ ← demand (length bytes == image_length version blocks) Length (length bytes)
      _ ← demand (nat_le 1 next) NextId 16
      _ ← reserved bytes
      Ok (record { version = version; blocks = blocks; dies = dies; next = next })
