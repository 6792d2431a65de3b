-- Words, numbers, lanes and bytes of a script. The grammar is this project's own; lines, blanks and decimal numbers are those of the assembler text.
use Rattle.std.specs.Prelude.{ℕ, ◌+◌, ◌*◌, List, [], ◌∷◌, length, drop, replicate, Bool, ◌&&◌, ◌||◌, ◌==◌, nat_eq, nat_lt, nat_le, if◌then◌else◌, codes, bytes_eq, filter, Option, Some, None, option_and_then}
use Rattle.std.specs.List.{slice_split, list_all, starts_with}
use Rattle.std.specs.Result.{result_ok}
use Rattle.hex.specs.Hex.{decode_of, hex_digit_value}
use Rattle.sbpf_text.specs.Lexing.{is_blank, is_digit, is_line_byte, ends_with_colon, without_last}
use Rattle.sbpf_text.specs.Numbers.{decimal_number}

-- a part between two blanks that isn't empty
abbrev pub is_word : List ℕ → Bool
is_word part = nat_lt 0 (length part)

-- the words of a line
abbrev pub words : List ℕ → List (List ℕ)
words line = filter is_word (slice_split is_blank line)

-- the first of some words, or no bytes where there is none
abbrev pub first_of : List (List ℕ) → List ℕ
first_of [] = []
first_of (word ∷ more) = word

-- the words behind it
abbrev pub behind_first : List (List ℕ) → List (List ℕ)
behind_first [] = []
behind_first (word ∷ more) = more

-- ---- numbers

-- a number that lies within bounds
abbrev pub within : ℕ → ℕ → ℕ → Option ℕ
within low high n = if nat_le low n && nat_le n high then Some n else None

-- decimal digits without a leading zero, and a number within bounds
abbrev pub number_in : ℕ → ℕ → List ℕ → Option ℕ
number_in low high word = option_and_then (within low high) (decimal_number word)

-- ---- lanes

-- a lower-case letter or a digit
abbrev pub is_lane_byte : ℕ → Bool
is_lane_byte b = (nat_le 97 b && nat_le b 122) || is_digit b

-- 1 to 16 such bytes
abbrev pub is_lane : List ℕ → Bool
is_lane name = nat_le 1 (length name) && nat_le (length name) 16 && list_all is_lane_byte name

-- the lane of a word: its name, and a colon behind it
abbrev pub lane_of : List ℕ → Option (List ℕ)
lane_of word = if ends_with_colon word && is_lane (without_last word) then Some (without_last word) else None

-- ---- bytes

-- the byte of two hexadecimal digits
abbrev pub byte_of : Option ℕ → Option ℕ → Option ℕ
byte_of (Some high) (Some low) = Some (high * 16 + low)
byte_of _ _ = None

-- a byte, and how often it is meant
abbrev pub repeated : Option ℕ → Option ℕ → Option (ℕ × ℕ)
repeated (Some byte) (Some count) = Some (byte, count)
repeated _ _ = None

-- `HH*N`: a byte in two hexadecimal digits, and its number, at most 1,048,576; `*` is 42
abbrev pub fill_of : List ℕ → Option (ℕ × ℕ)
fill_of (high ∷ low ∷ star ∷ digits) =
    if star == 42 then repeated (byte_of (hex_digit_value high) (hex_digit_value low)) (number_in 0 1048576 digits)
    else None
fill_of _ = None

-- a byte so often
abbrev pub filled : Option (ℕ × ℕ) → Option (List ℕ)
filled None = None
filled (Some fill) = Some (replicate fill.1 fill.0)

-- printable ASCII; a word has no blanks
abbrev pub text_of : List ℕ → Option (List ℕ)
text_of text = if list_all is_line_byte text then Some text else None

-- an even number of hexadecimal digits
abbrev pub hex_of : List ℕ → Option (List ℕ)
hex_of digits = result_ok (decode_of digits)

-- the bytes of a word `hex:DIGITS`, `text:TEXT` or `fill:HH*N`
abbrev pub bytes_of : List ℕ → Option (List ℕ)
bytes_of word =
    if starts_with nat_eq word (codes "hex:") then hex_of (drop 4 word)
    else if starts_with nat_eq word (codes "text:") then text_of (drop 5 word)
    else if starts_with nat_eq word (codes "fill:") then filled (fill_of (drop 5 word))
    else None

-- the bytes of a word behind `code`: hexadecimal digits, or `hex:` for none
abbrev pub code_of : List ℕ → Option (List ℕ)
code_of word = if bytes_eq word (codes "hex:") then Some [] else hex_of word

-- how many bytes there are; an ill formed word gives none
abbrev pub size : Option (List ℕ) → ℕ
size None = 0
size (Some bytes) = length bytes

-- how many bytes a word gives, and a word behind `code`
unfoldable pub bytes_size : List ℕ → ℕ
bytes_size word = size (bytes_of word)

unfoldable pub code_size : List ℕ → ℕ
code_size word = size (code_of word)
