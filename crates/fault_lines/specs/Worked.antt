-- Worked `fault` lines. This project's own.
use Rattle.std.specs.Prelude.{true, false, List, [], ◌∷◌}
use Rattle.script_words.specs.declared.script.FaultLine.{FaultLine}

-- fault die 0 read 1
abbrev pub first_read : FaultLine
first_read = record { line = 1; die = 0; writing = false; nth = 1; copy = false }

-- fault die 1 write 7
abbrev pub other_die : FaultLine
other_die = record { line = 2; die = 1; writing = true; nth = 7; copy = false }

-- fault copy 0 read 1
abbrev pub second_copy : FaultLine
second_copy = record { line = 3; die = 0; writing = false; nth = 1; copy = true }

-- and the first of these once more
abbrev pub four_lines : List FaultLine
four_lines = first_read ∷ other_die ∷ second_copy ∷ record first_read { line = 4 } ∷ []
