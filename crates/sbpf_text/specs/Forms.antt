-- The form of an operand, which is judged by its place. This project's own.
use Rattle.std.specs.Prelude.{ℕ, ◌-◌, List, length, take, drop, Bool, ◌&&◌, ◌||◌, nat_eq, nat_le, nat_lt, slice_index}
use Rattle.std.specs.List.{position_or_len}
use Rattle.sbpf_text.specs.Ascii.{plus, minus, lower_r, open_bracket, close_bracket}
use Rattle.sbpf_text.specs.Lexing.{begins_with, is_digit, is_label}

abbrev pub is_r : ℕ → Bool
is_r b = nat_eq b lower_r

abbrev pub is_sign : ℕ → Bool
is_sign b = nat_eq b plus || nat_eq b minus

abbrev pub begins_number : ℕ → Bool
begins_number b = is_digit b || nat_eq b minus

-- in a register's place
abbrev pub is_register : List ℕ → Bool
is_register word = begins_with is_r word

-- in a number's place
abbrev pub is_number : List ℕ → Bool
is_number word = begins_with begins_number word

-- in a place for either
abbrev pub is_value : List ℕ → Bool
is_value word = is_register word || is_number word

-- a distance or a label
abbrev pub is_target : List ℕ → Bool
is_target word = begins_with is_sign word || is_label word

-- what stands between the first and the last byte
abbrev pub inner : List ℕ → List ℕ
inner word = take (length word - 2) (drop 1 word)

abbrev pub has_brackets : List ℕ → Bool
has_brackets word = nat_le 2 (length word) && (nat_eq (slice_index word 0) open_bracket && nat_eq (slice_index word (length word - 1)) close_bracket)

-- `[`, a word that begins with `r`, a sign, the rest and `]`
abbrev pub is_address : List ℕ → Bool
is_address word = has_brackets word && (is_register (inner word) && nat_lt (position_or_len is_sign (inner word)) (length (inner word)))

-- the register of an address, and its offset with the sign
abbrev pub base_of : List ℕ → List ℕ
base_of word = take (position_or_len is_sign (inner word)) (inner word)

abbrev pub offset_of : List ℕ → List ℕ
offset_of word = drop (position_or_len is_sign (inner word)) (inner word)
