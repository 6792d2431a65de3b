-- Words in the places of names, of sizes and of numbers. This project's own.
use Rattle.std.specs.Prelude.{ℕ, ◌%◌, List, length, drop, Bool, not, ◌&&◌, ◌==◌, nat_lt, nat_le, nat_eq, if◌then◌else◌, codes, Option, Some, None, option_and_then}
use Rattle.std.specs.List.{starts_with, list_all}
use Rattle.std.specs.Result.{result_ok}
use Rattle.hex.specs.Hex.{decode_of, is_hex_digit}
use Rattle.page_base.specs.Drive.{Drive}
use Rattle.sbpf_text.specs.Numbers.{decimal_number}

-- a word in the place of a name: it is not empty and doesn't begin with `--`
abbrev pub is_file_word : List ℕ → Bool
is_file_word word = nat_lt 0 (length word) && not (starts_with nat_eq word (codes "--"))

-- two words in the places of names, and three
unfoldable pub are_two : List ℕ → List ℕ → Bool
are_two first second = is_file_word first && is_file_word second

unfoldable pub are_files : List ℕ → List ℕ → List ℕ → Bool
are_files first second third = is_file_word first && (is_file_word second && is_file_word third)

-- a decimal number without a leading zero, within bounds
abbrev pub within : ℕ → ℕ → ℕ → Option ℕ
within low high n = if nat_le low n && nat_le n high then Some n else None

abbrev pub number_in : ℕ → ℕ → List ℕ → Option ℕ
number_in low high word = option_and_then (within low high) (decimal_number word)

-- BLOCKS and DIES, within the limits of a drive
abbrev pub sizes : Option ℕ → Option ℕ → Option Drive
sizes (Some blocks) (Some dies) = Some (record { blocks = blocks; dies = dies })
sizes _ _ = None

unfoldable pub drive_of : List ℕ → List ℕ → Option Drive
drive_of blocks dies = sizes (number_in 1 65536 blocks) (number_in 1 16 dies)

-- WIDTH of records
abbrev pub width_of : List ℕ → Option ℕ
width_of word = number_in 1 4096 word

-- how a function runs on each piece of a file: the bytes of a piece, the fuel of a run, and the bytes of its output
pub record PieceRun : Type 0 where
  pub chunk : ℕ
  pub fuel : ℕ
  pub cap : ℕ

-- an even number of hexadecimal digits
abbrev pub is_hex : List ℕ → Bool
is_hex digits = length digits % 2 == 0 && list_all is_hex_digit digits

-- PARAM: `hex:` and an even number of hexadecimal digits, of at most 4,096 bytes
abbrev pub is_param : List ℕ → Bool
is_param word = nat_le (length word) 8196 && (starts_with nat_eq word (codes "hex:") && is_hex (drop 4 word))

abbrev pub param_of : List ℕ → Option (List ℕ)
param_of word = if is_param word then result_ok (decode_of (drop 4 word)) else None
