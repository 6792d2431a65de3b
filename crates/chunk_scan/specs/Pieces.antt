-- The pieces that an input is cut into. This project's own.
use Rattle.std.specs.Prelude.{ℕ, ◌*◌, ◌^◌, Bool, ◌&&◌, nat_le, List, length, map}
use Rattle.std.specs.Int.{div_ceil}
use Rattle.std.specs.List.{range_with_len}
use Rattle.page_base.specs.Bytes.{Cut}

-- how many pieces of a size so many bytes have, the last one maybe shorter; no bytes have none
abbrev pub piece_count : ℕ → ℕ → ℕ
piece_count size bytes = div_ceil bytes size

-- at most 65,536 pieces, whose outputs of `cap` bytes each have together at most 2^26 bytes
abbrev pub is_within_limits : ℕ → ℕ → ℕ → Bool
is_within_limits size bytes cap = nat_le (piece_count size bytes) 65536 && nat_le (piece_count size bytes * cap) (2 ^ 26)

-- the pieces of an input, in order: each is what a read of `size` bytes gives from where the one before it ends
abbrev pub pieces : ℕ → List ℕ → List (List ℕ)
pieces size input = map (λ i. Cut input (i * size) size) (range_with_len 0 (piece_count size (length input)))
