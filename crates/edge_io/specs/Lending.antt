-- Bytes that are lent as a slice end as what the borrower leaves in it, at their old number.
use Rattle.std.specs.Prelude.{ℕ, List, ◌++◌, length, take, drop}
use Rattle.std.specs.Borrow.{Lends, MutBor, Fml, Array, u8}
use Rattle.edge_io.specs.contracts.values.Bytes.{the_row}

-- the bytes with these in place of the first
abbrev pub overwritten : List ℕ → List ℕ → List ℕ
overwritten bytes slice = take (length bytes) (slice ++ drop (length slice) bytes)

abbrev pub LendsBytes : MutBor (List ℕ) → MutBor (List ℕ) → Fml
LendsBytes bytes slice = Lends the_row (Array u8 0) bytes slice (overwritten bytes.now)
