-- The first word of a text, and the words behind it.
use Rattle.std.proofs.Common.{◌≡◌, ℕ, suc, ◌+◌, List, [], ◌∷◌, take, drop, Bool, true, false, refl, ap, ◌∙◌, sym, arith}
use Rattle.std.specs.Prelude.{filter}
use Rattle.std.specs.List.{slice_split, onto_first, position_or_len}
use Rattle.std.proofs.lemmas.Bool.{cond-true}
use Rattle.std.proofs.lemmas.Bool.Decides.{nat_tests}
use Rattle.std.proofs.lemmas.List.Splits.{slice_split-cons_yes, slice_split-cons_no}
use Rattle.sbpf_text.specs.Lexing.{is_blank, is_not_blank, behind_blanks}
use Rattle.script_words.specs.Words.{is_word, words, first_of, behind_first}

one_more : (n : ℕ) → 1 + n ≡ suc n
one_more n = omega arith

take_one : (n b : ℕ) (bs : List ℕ) → take (1 + n) (b ∷ bs) ≡ b ∷ take n bs
take_one n b bs = ap (λ k. take k (b ∷ bs)) (one_more n)

drop_one : (n b : ℕ) (bs : List ℕ) → drop (1 + n) (b ∷ bs) ≡ drop n bs
drop_one n b bs = ap (λ k. drop k (b ∷ bs)) (one_more n)

some_word : (b : ℕ) (bs : List ℕ) → is_word (b ∷ bs) ≡ true
some_word b bs = grind (arith, nat_tests)

keep_word : (b : ℕ) (bs : List ℕ) (parts : List (List ℕ)) → filter is_word ((b ∷ bs) ∷ parts) ≡ (b ∷ bs) ∷ filter is_word parts
keep_word b bs parts = cond-true _ _ _ (some_word b bs)

-- a blank in front says nothing
blank_in_front : (b : ℕ) (bs : List ℕ) → is_blank b ≡ true → words (b ∷ bs) ≡ words bs
blank_in_front b bs blank = ap (filter is_word) (slice_split-cons_yes is_blank b bs blank)

drop_blank : (b : ℕ) (bs : List ℕ) → is_blank b ≡ true → behind_blanks (b ∷ bs) ≡ behind_blanks bs
drop_blank b bs blank = rw blank (drop_one (position_or_len is_not_blank bs) b bs)

keep_other : (b : ℕ) (bs : List ℕ) → is_blank b ≡ false → behind_blanks (b ∷ bs) ≡ b ∷ bs
keep_other b bs other = rw other refl

-- what is left behind the blanks in front has the same words, and begins with a word if it has any
record IsLeft (text left : List ℕ) : Type 0 where
  words : words left ≡ words text
  begins : (b : ℕ) (bs : List ℕ) → left ≡ b ∷ bs → is_blank b ≡ false

blanks_cut : (text : List ℕ) → IsLeft text (behind_blanks text)
blanks_cut [] = record { words = refl; begins = λ b bs is. absurd cc }
blanks_cut (b ∷ bs) = go (blanks_cut bs) (is_blank b) refl
  where
    go : IsLeft bs (behind_blanks bs) → (t : Bool) → is_blank b ≡ t → IsLeft (b ∷ bs) (behind_blanks (b ∷ bs))
    go more true blank =
        record {
          words = ap words (drop_blank b bs blank) ∙ more.words ∙ sym (blank_in_front b bs blank);
          begins = λ c cs is. more.begins c cs (sym (drop_blank b bs blank) ∙ is);
        }
    go more false other =
        record {
          words = ap words (keep_other b bs other);
          begins = λ c cs is. let same : b ∷ bs ≡ c ∷ cs = sym (keep_other b bs other) ∙ is in cc;
        }

abbrev front : List ℕ → List ℕ
front text = take (position_or_len is_blank text) text

abbrev behind : List ℕ → List ℕ
behind text = drop (position_or_len is_blank text) text

-- the parts of a text are what stands ahead of the first blank, and the parts behind
record IsCut (text : List ℕ) (parts : List (List ℕ)) : Type 0 where
  split : slice_split is_blank text ≡ front text ∷ parts
  words : filter is_word parts ≡ words (behind text)

cut_front : (b : ℕ) (bs : List ℕ) → is_blank b ≡ false → front (b ∷ bs) ≡ b ∷ front bs
cut_front b bs other = rw other (take_one (position_or_len is_blank bs) b bs)

cut_behind : (b : ℕ) (bs : List ℕ) → is_blank b ≡ false → behind (b ∷ bs) ≡ behind bs
cut_behind b bs other = rw other (drop_one (position_or_len is_blank bs) b bs)

front_blank : (b : ℕ) (bs : List ℕ) → is_blank b ≡ true → front (b ∷ bs) ≡ []
front_blank b bs blank = rw blank refl

behind_blank : (b : ℕ) (bs : List ℕ) → is_blank b ≡ true → behind (b ∷ bs) ≡ b ∷ bs
behind_blank b bs blank = rw blank refl

abbrev parts_behind : List ℕ → List (List ℕ)
parts_behind text = behind_first (slice_split is_blank text)

cut : (text : List ℕ) → IsCut text (parts_behind text)
cut [] = record { split = refl; words = refl }
cut (b ∷ bs) = go (cut bs) (is_blank b) refl
  where
    go : IsCut bs (parts_behind bs) → (t : Bool) → is_blank b ≡ t → IsCut (b ∷ bs) (parts_behind (b ∷ bs))
    go more true blank =
        let split = slice_split-cons_yes is_blank b bs blank in
        record {
          split = split ∙ ap (λ w. w ∷ slice_split is_blank bs) (sym (front_blank b bs blank)) ∙ ap (λ ps. front (b ∷ bs) ∷ behind_first ps) (sym split);
          words = ap (λ ps. filter is_word (behind_first ps)) split ∙ sym (blank_in_front b bs blank) ∙ ap words (sym (behind_blank b bs blank));
        }
    go more false other =
        let split : slice_split is_blank (b ∷ bs) ≡ (b ∷ front bs) ∷ parts_behind bs = slice_split-cons_no is_blank b bs other ∙ ap (onto_first b) more.split in
        let same : parts_behind (b ∷ bs) ≡ parts_behind bs = ap behind_first split in
        record {
          split = split ∙ ap (λ w. w ∷ parts_behind bs) (sym (cut_front b bs other)) ∙ ap (λ ps. front (b ∷ bs) ∷ ps) (sym same);
          words = ap (filter is_word) same ∙ more.words ∙ ap words (sym (cut_behind b bs other));
        }

-- the words of a text that begins with a word
record IsCutWord (text : List ℕ) : Type 0 where
  first : front text ≡ first_of (words text)
  rest : words (behind text) ≡ behind_first (words text)

cut_left : (text : List ℕ) → ((b : ℕ) (bs : List ℕ) → text ≡ b ∷ bs → is_blank b ≡ false) → IsCutWord text
cut_left [] begins = record { first = refl; rest = refl }
cut_left (b ∷ bs) begins =
    let other = begins b bs refl in
    let parts = cut (b ∷ bs) in
    let whole : words (b ∷ bs) ≡ (b ∷ front bs) ∷ words (behind (b ∷ bs)) =
    ap (filter is_word) (parts.split ∙ ap (λ w. w ∷ parts_behind (b ∷ bs)) (cut_front b bs other)) ∙ keep_word b (front bs) (parts_behind (b ∷ bs)) ∙ ap (λ ws. (b ∷ front bs) ∷ ws) parts.words in
    record {
      first = cut_front b bs other ∙ sym (ap first_of whole);
      rest = sym (ap behind_first whole);
    }

-- the first word of a text, and the words behind it
pub word_cut : (text left : List ℕ) → left ≡ behind_blanks text → (front left ≡ first_of (words text)) × (words (behind left) ≡ behind_first (words text))
word_cut text left is =
    let blanks = blanks_cut text in
    let found = cut_left (behind_blanks text) blanks.begins in
    (ap front is ∙ found.first ∙ ap first_of blanks.words, ap (λ t. words (behind t)) is ∙ found.rest ∙ ap behind_first blanks.words)
