-- Lines, words, operands and labels of an assembler text, as lists of bytes. The text's form is this
-- project's own.
use Rattle.std.specs.Prelude.{ℕ, ◌-◌, List, [], ◌∷◌, length, take, drop, Bool, true, false, not, ◌&&◌, ◌||◌, nat_eq, nat_le, nat_lt, if◌then◌else◌, map, slice_index, Option, Some, None}
use Rattle.std.specs.List.{slice_split, list_all, position_or_len}
use Rattle.sbpf_text.specs.Ascii.{tab, line_feed, space, tilde, comma, digit_0, digit_9, colon, semicolon, upper_a, upper_z, underscore, lower_a, lower_z}

-- ---- lines

abbrev pub is_line_end : ℕ → Bool
is_line_end b = nat_eq b line_feed

-- what stands before, between and behind the line ends; behind a last one that is a line of no bytes, which says nothing
abbrev pub lines : List ℕ → List (List ℕ)
lines text = slice_split is_line_end text

-- printable ASCII or a tab
abbrev pub is_line_byte : ℕ → Bool
is_line_byte b = (nat_le space b && nat_le b tilde) || nat_eq b tab

abbrev pub is_comment : ℕ → Bool
is_comment b = nat_eq b semicolon

-- what stands before the comment
abbrev pub without_comment : List ℕ → List ℕ
without_comment line = take (position_or_len is_comment line) line

-- ---- words

abbrev pub is_blank : ℕ → Bool
is_blank b = nat_eq b space || nat_eq b tab

abbrev pub is_not_blank : ℕ → Bool
is_not_blank b = not (is_blank b)

-- what stands behind the blanks in front
abbrev pub behind_blanks : List ℕ → List ℕ
behind_blanks text = drop (position_or_len is_not_blank text) text

-- the first word, or no bytes where there is none
abbrev pub first_word : List ℕ → List ℕ
first_word text = take (position_or_len is_blank (behind_blanks text)) (behind_blanks text)

-- what stands behind the first word
abbrev pub behind_word : List ℕ → List ℕ
behind_word text = drop (position_or_len is_blank (behind_blanks text)) (behind_blanks text)

abbrev pub is_empty : List ℕ → Bool
is_empty [] = true
is_empty (b ∷ bs) = false

abbrev pub has_no_word : List ℕ → Bool
has_no_word text = is_empty (first_word text)

-- ---- operands

abbrev pub is_comma : ℕ → Bool
is_comma b = nat_eq b comma

-- the one word of a part between commas, or no bytes where it has none or several; no operand has that form
abbrev pub single_word : List ℕ → List ℕ
single_word part = if has_no_word (behind_word part) then first_word part else []

-- the operands of an instruction, by what stands behind its word
abbrev pub operand_words : List ℕ → List (List ℕ)
operand_words text = if has_no_word text then [] else map single_word (slice_split is_comma text)

-- ---- labels

abbrev pub is_digit : ℕ → Bool
is_digit b = nat_le digit_0 b && nat_le b digit_9

abbrev pub is_letter : ℕ → Bool
is_letter b = (nat_le upper_a b && nat_le b upper_z) || (nat_le lower_a b && nat_le b lower_z)

abbrev pub is_label_byte : ℕ → Bool
is_label_byte b = is_letter b || (is_digit b || nat_eq b underscore)

-- whether there is a first byte, and it passes a test
abbrev pub begins_with : (ℕ → Bool) → List ℕ → Bool
begins_with p [] = false
begins_with p (b ∷ bs) = p b

-- 1 to 32 letters, digits and `_`, not beginning with a digit
abbrev pub is_label : List ℕ → Bool
is_label name = nat_le 1 (length name) && (nat_le (length name) 32 && (list_all is_label_byte name && not (begins_with is_digit name)))

abbrev pub ends_with_colon : List ℕ → Bool
ends_with_colon word = nat_lt 0 (length word) && nat_eq (slice_index word (length word - 1)) colon

abbrev pub without_last : List ℕ → List ℕ
without_last word = take (length word - 1) word

-- the name in front of a line, well formed or not: the first word is judged as a label exactly where it ends with `:`
abbrev pub label_of : List ℕ → Option (List ℕ)
label_of text = if ends_with_colon (first_word text) then Some (without_last (first_word text)) else None

-- what stands behind the label, if there is one
abbrev pub behind_label : List ℕ → List ℕ
behind_label text = if ends_with_colon (first_word text) then behind_word text else text
