-- How plain words are cut.
use Rattle.std.proofs.Common.{◌≡◌, ℕ, suc, ◌+◌, ◌-◌, ◌<◌, List, [], ◌∷◌, ◌++◌, length, take, drop, map, Bool, true, false, not, refl, ap, ◌∙◌, get_or, arith, subst}
use Rattle.std.specs.Prelude.{nat_le, nat_eq, ◌&&◌, ◌||◌}
use Rattle.std.specs.List.{list_all, position_or_len, slice_split, All}
use Rattle.std.proofs.lemmas.Bool.Decides.{nat_tests}
use Rattle.std.proofs.lemmas.List.{append-nil}
use Rattle.std.proofs.Math.Seq.{take-append_seam, drop-append_seam, take-length}
use Rattle.std.proofs.lemmas.List.Sums.{AllPass-from_list_all}
use Rattle.std.proofs.lemmas.List.Splits.{slice_split_none, slice_split_at}
use Rattle.std.proofs.lemmas.List.Folds.{list_all-append}
use Rattle.sbpf_text.specs.Lexing.{is_blank, is_comma, is_comment, is_line_byte, is_line_end, behind_blanks, first_word, behind_word, has_no_word, is_empty, single_word, operand_words, without_comment, ends_with_colon}

-- printable, and none of `,`, `:` and `;`
abbrev pub is_plain : ℕ → Bool
is_plain b = nat_le 33 b && (nat_le b 126 && (not (nat_eq b 44) && (not (nat_eq b 58) && not (nat_eq b 59))))

pub record IsWord (w : List ℕ) : Type 0 where
  pub plain : list_all is_plain w ≡ true
  pub some : 0 < length w

-- ---- positions

-- where no element passes
pub position_none : {X : Type 0} (p : X → Bool) (xs : List X) → list_all (λ x. not (p x)) xs ≡ true → position_or_len p xs ≡ length xs
position_none p [] all = refl
position_none p (x ∷ xs) all = grind (arith, position_none p xs)

-- the first element that passes
pub position_at : {X : Type 0} (p : X → Bool) (xs : List X) (y : X) (ys : List X) → list_all (λ x. not (p x)) xs ≡ true → p y ≡ true → position_or_len p (xs ++ y ∷ ys) ≡ length xs
position_at p [] y ys all here = grind arith
position_at p (x ∷ xs) y ys all here = grind (arith, position_at p xs y ys)

pub weaker : {X : Type 0} (p q : X → Bool) → ((x : X) → p x ≡ true → q x ≡ true) → (xs : List X) → list_all p xs ≡ true → list_all q xs ≡ true
weaker p q h [] all = refl
weaker p q h (x ∷ xs) all = grind (arith, weaker p q h xs, h x)

pub plain_no_blank : (b : ℕ) → is_plain b ≡ true → not (is_blank b) ≡ true
plain_no_blank b h = grind (arith, nat_tests)

pub plain_no_comma : (b : ℕ) → is_plain b ≡ true → not (is_comma b) ≡ true
plain_no_comma b h = grind (arith, nat_tests)

pub plain_no_comment : (b : ℕ) → is_plain b ≡ true → not (is_comment b) ≡ true
plain_no_comment b h = grind (arith, nat_tests)

pub plain_line : (b : ℕ) → is_plain b ≡ true → is_line_byte b ≡ true
plain_line b h = grind (arith, nat_tests)

pub plain_no_colon : (b : ℕ) → is_plain b ≡ true → nat_eq b 58 ≡ false
plain_no_colon b h = grind (arith, nat_tests)

-- ---- words

-- the text begins with the word w, and r is left behind it
pub record Cuts (text w r : List ℕ) : Type 0 where
  pub word : first_word text ≡ w
  pub rest : behind_word text ≡ r

-- behind blanks the text has w and then r, which begins with a blank if it isn't empty
cut_at : (text w r : List ℕ) → behind_blanks text ≡ w ++ r → position_or_len is_blank (w ++ r) ≡ length w → Cuts text w r
cut_at text w r behind at = record {
  word = ap (λ t. take (position_or_len is_blank t) t) behind ∙ ap (λ n. take n (w ++ r)) at ∙ take-append_seam w r;
  rest = ap (λ t. drop (position_or_len is_blank t) t) behind ∙ ap (λ n. drop n (w ++ r)) at ∙ drop-append_seam w r;
}

no_blanks : (w : List ℕ) → list_all is_plain w ≡ true → list_all (λ b. not (is_blank b)) w ≡ true
no_blanks w plain = weaker is_plain (λ b. not (is_blank b)) plain_no_blank w plain

graph_first : (w r : List ℕ) → IsWord w → behind_blanks (w ++ r) ≡ w ++ r
graph_first [] r h = absurd (let s = h.some in omega arith)
graph_first (b ∷ bs) r h = let g = plain_no_blank b (grind (arith, h.plain)) in rw g refl

graph_second : (w r : List ℕ) → IsWord w → behind_blanks (32 ∷ (w ++ r)) ≡ w ++ r
graph_second [] r h = absurd (let s = h.some in omega arith)
graph_second (b ∷ bs) r h = let g = plain_no_blank b (grind (arith, h.plain)) in rw g refl

-- a word, and a blank behind it
pub cut_front : (w r : List ℕ) → IsWord w → Cuts (w ++ 32 ∷ r) w (32 ∷ r)
cut_front w r h = cut_at (w ++ 32 ∷ r) w (32 ∷ r) (graph_first w (32 ∷ r) h) (position_at is_blank w 32 r (no_blanks w h.plain) refl)

alone : (w : List ℕ) → IsWord w → position_or_len is_blank (w ++ []) ≡ length w
alone w h = ap (position_or_len is_blank) (append-nil w) ∙ position_none is_blank w (no_blanks w h.plain)

pub cut_alone : (w : List ℕ) → IsWord w → Cuts w w []
cut_alone w h = subst (λ (t : List ℕ). Cuts t w []) (append-nil w) (cut_at (w ++ []) w [] (graph_first w [] h) (alone w h))

pub cut_spaced : (w : List ℕ) → IsWord w → Cuts (32 ∷ w) w []
cut_spaced w h = subst (λ (t : List ℕ). Cuts (32 ∷ t) w []) (append-nil w) (cut_at (32 ∷ (w ++ [])) w [] (graph_second w [] h) (alone w h))

front_there : (n b : ℕ) (xs : List ℕ) → is_empty (take (1 + n) (b ∷ xs)) ≡ false
front_there n b xs = let e : 1 + n ≡ suc n = omega arith in rw e refl

-- a text that begins with a word, behind a blank or not, has a word
pub some_word : (w r : List ℕ) → IsWord w → has_no_word (w ++ r) ≡ false
some_word [] r h = absurd (let s = h.some in omega arith)
some_word (b ∷ bs) r h = let g = plain_no_blank b (grind (arith, h.plain)) in let blank : is_blank b ≡ false = grind arith in rw (g, blank) (front_there _ _ _)

pub some_spaced : (w r : List ℕ) → IsWord w → has_no_word (32 ∷ (w ++ r)) ≡ false
some_spaced [] r h = absurd (let s = h.some in omega arith)
some_spaced (b ∷ bs) r h = let g = plain_no_blank b (grind (arith, h.plain)) in let blank : is_blank b ≡ false = grind arith in rw (g, blank) (front_there _ _ _)

-- ---- operands

pub single_word-alone : (w : List ℕ) → IsWord w → single_word w ≡ w
single_word-alone w h = let c = cut_alone w h in rw (c.rest, c.word) refl

pub single_word-spaced : (w : List ℕ) → IsWord w → single_word (32 ∷ w) ≡ w
single_word-spaced w h = let c = cut_spaced w h in rw (c.rest, c.word) refl

-- further words, each behind a comma and a space
abbrev pub commas : List (List ℕ) → List ℕ
commas [] = []
commas (w ∷ ws) = 44 ∷ 32 ∷ (w ++ commas ws)

abbrev pub AreWords : List (List ℕ) → Type 0
AreWords [] = Unit {0}
AreWords (w ∷ ws) = IsWord w × AreWords ws

abbrev pub spaced : List ℕ → List ℕ
spaced w = 32 ∷ w

turned : (b : Bool) → not b ≡ true → b ≡ false
turned true h = absurd cc
turned false h = refl

pub none_pass : (p : ℕ → Bool) (xs : List ℕ) → list_all (λ b. not (p b)) xs ≡ true → All (λ b. p b ≡ false) xs
none_pass p xs all k d h = turned (p (get_or xs k d)) (AllPass-from_list_all (λ b. not (p b)) xs all k d h)

no_commas : (w : List ℕ) → list_all is_plain w ≡ true → list_all (λ b. not (is_comma b)) w ≡ true
no_commas w plain = weaker is_plain (λ b. not (is_comma b)) plain_no_comma w plain

split_commas : (w : List ℕ) (ws : List (List ℕ)) → list_all (λ b. not (is_comma b)) w ≡ true → AreWords ws → slice_split is_comma (w ++ commas ws) ≡ w ∷ map spaced ws
split_commas w [] free h = ap (slice_split is_comma) (append-nil w) ∙ slice_split_none is_comma w (none_pass is_comma w free)
split_commas w (v ∷ ws) free h = slice_split_at is_comma w 44 (32 ∷ (v ++ commas ws)) (none_pass is_comma w free) refl ∙ ap (λ (t : List (List ℕ)). w ∷ t) (split_commas (32 ∷ v) ws (no_commas v h.0.plain) h.1)

each_operand : (ws : List (List ℕ)) → AreWords ws → map single_word (map spaced ws) ≡ ws
each_operand [] h = refl
each_operand (w ∷ ws) h = let one = single_word-spaced w h.0 in let more = each_operand ws h.1 in cc

pub operands_words : (w : List ℕ) (ws : List (List ℕ)) → IsWord w → AreWords ws → operand_words (32 ∷ (w ++ commas ws)) ≡ w ∷ ws
operands_words w ws h hs =
    let there = some_spaced w (commas ws) h in
    let all = each_operand (w ∷ ws) (h, hs) in
    rw there (ap (map single_word) (split_commas (32 ∷ w) ws (no_commas w h.plain) hs) ∙ all)

-- ---- what is shown in a line

abbrev pub is_shown : ℕ → Bool
is_shown b = is_plain b || (nat_eq b 32 || nat_eq b 44)

plain_shown : (b : ℕ) → is_plain b ≡ true → is_shown b ≡ true
plain_shown b h = grind arith

shown_line : (b : ℕ) → is_shown b ≡ true → is_line_byte b ≡ true
shown_line b h = grind (arith, nat_tests)

shown_no_comment : (b : ℕ) → is_shown b ≡ true → not (is_comment b) ≡ true
shown_no_comment b h = grind (arith, nat_tests)

shown_no_end : (b : ℕ) → is_shown b ≡ true → not (is_line_end b) ≡ true
shown_no_end b h = grind (arith, nat_tests)

pub word_shown : (w : List ℕ) → IsWord w → list_all is_shown w ≡ true
word_shown w h = weaker is_plain is_shown plain_shown w h.plain

pub append_shown : (v w : List ℕ) → list_all is_shown v ≡ true → list_all is_shown w ≡ true → list_all is_shown (v ++ w) ≡ true
append_shown v w a b = list_all-append is_shown v w ∙ grind arith

pub commas_shown : (ws : List (List ℕ)) → AreWords ws → list_all is_shown (commas ws) ≡ true
commas_shown [] h = refl
commas_shown (w ∷ ws) h = append_shown w (commas ws) (word_shown w h.0) (commas_shown ws h.1)

pub all_line_bytes : (line : List ℕ) → list_all is_shown line ≡ true → list_all is_line_byte line ≡ true
all_line_bytes line h = weaker is_shown is_line_byte shown_line line h

pub no_comment : (line : List ℕ) → list_all is_shown line ≡ true → without_comment line ≡ line
no_comment line h = ap (λ n. take n line) (position_none is_comment line (weaker is_shown (λ b. not (is_comment b)) shown_no_comment line h)) ∙ take-length line

pub one_line : (line rest : List ℕ) → list_all is_shown line ≡ true → slice_split is_line_end (line ++ 10 ∷ rest) ≡ line ∷ slice_split is_line_end rest
one_line line rest h = slice_split_at is_line_end line 10 rest (none_pass is_line_end line (weaker is_shown (λ b. not (is_line_end b)) shown_no_end line h)) refl

-- ---- labels

pub no_colon : (w : List ℕ) → IsWord w → ends_with_colon w ≡ false
no_colon w h =
    let last : is_plain (get_or w (length w - 1) 0) ≡ true = AllPass-from_list_all is_plain w h.plain (length w - 1) 0 (let s = h.some in omega arith) in
    let no : nat_eq (get_or w (length w - 1) 0) 58 ≡ false = plain_no_colon _ last in
    grind arith
