-- What `select` prints. This project's own.
use Rattle.std.specs.Prelude.{ℕ, List, ◌++◌, length, codes, decimal}
use Rattle.std.specs.List.{flat_map}

-- the number of a record
abbrev pub number_line : ℕ → List ℕ
number_line n = decimal n ++ codes "\n"

-- how many records there are
abbrev pub rows_line : ℕ → List ℕ
rows_line count = codes "rows " ++ decimal count ++ codes "\n"

-- a line for each number, and how many there are
abbrev pub select_lines : List ℕ → List ℕ
select_lines numbers = flat_map number_line numbers ++ rows_line (length numbers)
