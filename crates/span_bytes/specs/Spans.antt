-- The bytes of a span, whose pages follow each other. This project's own.
use Rattle.std.specs.Prelude.{ℕ, ◌+◌, ◌-◌, ◌/◌, ◌%◌, ◌&&◌, nat_le, nat_lt, List, length, get_or, take, drop, if◌then◌else◌}
use Rattle.std.specs.List.{concat}
use Rattle.page_base.specs.Bytes.{zero_page}

-- a page of a list, zeros past its end
abbrev pub page_in : List (List ℕ) → ℕ → List ℕ
page_in pages i = get_or pages i zero_page

-- byte q of the span
abbrev pub byte_in : List (List ℕ) → ℕ → ℕ
byte_in pages q = get_or (page_in pages (q / 4096)) (q % 4096) 0

-- byte q where these bytes stand from a place on, and elsewhere what was there
abbrev pub over : ℕ → List ℕ → ℕ → ℕ → ℕ
over start bytes q was = if nat_le start q && nat_lt q (start + length bytes) then get_or bytes (q - start) 0 else was

-- so many bytes of the span from a place on
abbrev pub span_part : List (List ℕ) → ℕ → ℕ → List ℕ
span_part pages start len = take len (drop start (concat pages))
