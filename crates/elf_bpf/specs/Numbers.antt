-- Little-endian numbers and parts of bytes.
use Rattle.std.specs.Prelude.{ℕ, ◌+◌, List, length, take, drop, Bool, nat_le}
use Rattle.std.specs.Int.{w16, w32, w64, from_le_bytes}

-- the numbers whose first byte stands at a place
abbrev pub u16_at : List ℕ → ℕ → ℕ
u16_at bytes at = from_le_bytes w16 (drop at bytes)

abbrev pub u32_at : List ℕ → ℕ → ℕ
u32_at bytes at = from_le_bytes w32 (drop at bytes)

abbrev pub u64_at : List ℕ → ℕ → ℕ
u64_at bytes at = from_le_bytes w64 (drop at bytes)

-- so many bytes from a place on
abbrev pub part : List ℕ → ℕ → ℕ → List ℕ
part bytes at size = take size (drop at bytes)

-- so many bytes from a place on don't pass the end
abbrev pub lies_within : List ℕ → ℕ → ℕ → Bool
lies_within bytes at size = nat_le (at + size) (length bytes)
