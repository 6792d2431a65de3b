-- Numbers and bytes read back from their text.
use Rattle.std.proofs.Common.{◌≡◌, ℕ, zero, suc, ◌+◌, ◌-◌, ◌*◌, ◌/◌, ◌%◌, ◌^◌, ◌<◌, ◌≤◌, List, [], ◌∷◌, length, Bool, true, false, not, refl, ap, sym, ◌∙◌, Some, get_or, arith}
use Rattle.std.specs.Prelude.{decimal, nat_lt, nat_eq, ◌&&◌, ◌||◌, ◌==◌, fold, codes, bytes_eq, slice_index, Result}
use Rattle.std.specs.Fmt.{digits, digits_onto, digit_glyph}
use Rattle.std.specs.List.{list_all}
use Rattle.std.specs.Result.{result_ok}
use Rattle.std.proofs.lemmas.Bool.{cond-true, cond-false}
use Rattle.std.proofs.lemmas.Bool.Decides.{nat_tests}
use Rattle.std.proofs.lemmas.List.Sums.{AllPass-from_list_all}
use Rattle.hex.specs.Hex.{encode_with, encode_lower, lower_digits, IsBytes}
use Rattle.hex.specs.declared.error.FromHexError.{FromHexError}
use Rattle.hex.proofs.HexLemmas.{length-encode_with, decode_of-encode_lower}
use Rattle.sbpf_text.specs.Lexing.{is_digit}
use Rattle.sbpf_text.specs.Numbers.{digit_value, with_digit, in_64_bits, decimal_number, natural}
use Rattle.sbpf_text.proofs.Numerals.{natural-decimal, digits-decimal}
use Rattle.script_words.specs.Words.{within, number_in, hex_of}
use Rattle.transcript_text.specs.Print.{bytes_text, address_text}
use Rattle.transcript_text.specs.Transcripts.{number_32, number_64, is_lower_digit, lower_number, address_of, reply_bytes}

-- ---- decimal numbers

natural_plain : (ds : List ℕ) → list_all is_digit ds ≡ true → natural ds ≡ decimal_number ds
natural_plain [] all = refl
natural_plain (b ∷ []) all = refl
natural_plain (b ∷ c ∷ ds) all =
    let second : is_digit c ≡ true = grind arith in
    let no : (nat_eq b 48 && nat_eq c 120) ≡ false = grind (arith, nat_tests) in
    cond-false _ _ _ no

pub decimal_number-decimal : (n : ℕ) → n < 2 ^ 64 → decimal_number (decimal n) ≡ Some n
decimal_number-decimal n h = sym (natural_plain (decimal n) (digits-decimal n h)) ∙ natural-decimal n h

within_is : (low high n : ℕ) → low ≤ n → n ≤ high → within low high n ≡ Some n
within_is low high n a b = grind (arith, nat_tests)

pub number_in-decimal : (low high n : ℕ) → n < 2 ^ 64 → low ≤ n → n ≤ high → number_in low high (decimal n) ≡ Some n
number_in-decimal low high n h a b = let read = decimal_number-decimal n h in rw read (within_is low high n a b)

pub number_32-decimal : (n : ℕ) → n < 2 ^ 32 → number_32 (decimal n) ≡ Some n
number_32-decimal n h = number_in-decimal 0 (2 ^ 32 - 1) n (omega arith) (omega arith) (omega arith)

pub number_64-decimal : (n : ℕ) → n < 2 ^ 64 → number_64 (decimal n) ≡ Some n
number_64-decimal n h = number_in-decimal 0 (2 ^ 64 - 1) n h (omega arith) (omega arith)

-- ---- hexadecimal numbers

pub glyph_read : (d : ℕ) → d < 16 → (is_lower_digit (digit_glyph false d) ≡ true) × (digit_value (digit_glyph false d) ≡ d) × (0 < d → nat_eq (digit_glyph false d) 48 ≡ false)
glyph_read d h = go (nat_lt d 10) refl
  where
    go : (b : Bool) → nat_lt d 10 ≡ b → (is_lower_digit (digit_glyph false d) ≡ true) × (digit_value (digit_glyph false d) ≡ d) × (0 < d → nat_eq (digit_glyph false d) 48 ≡ false)
    go true low = rw low (let l : d < 10 = grind (arith, nat_tests) in (grind (arith, nat_tests), grind (arith, nat_tests), λ some. grind (arith, nat_tests)))
    go false high = rw high (let l : 10 ≤ d = grind (arith, nat_tests) in (grind (arith, nat_tests), grind (arith, nat_tests), λ some. grind (arith, nat_tests)))

-- at most k digits of the base 16, ahead of others
abbrev onto : ℕ → ℕ → List ℕ → List ℕ
onto k n more = digits_onto k 16 false n more

digits_are : (n : ℕ) → digits 16 false n ≡ onto 64 n []
unfolding digits
digits_are n = refl

-- what is known of these digits
record AreDigits (k n : ℕ) (more ds : List ℕ) : Type 0 where
  digits : list_all is_lower_digit more ≡ true → list_all is_lower_digit ds ≡ true
  value : fold (with_digit 16) 0 ds ≡ fold (with_digit 16) n more
  first : 0 < n → nat_eq (get_or ds 0 0) 48 ≡ false
  longer : length more ≤ length ds
  some : 0 < k → length more < length ds

all_cons : (d : ℕ) (more : List ℕ) → d < 16 → list_all is_lower_digit more ≡ true → list_all is_lower_digit (digit_glyph false d ∷ more) ≡ true
all_cons d more h all = let one = (glyph_read d h).0 in rw one all

step_value : (m d : ℕ) (more : List ℕ) → d < 16 → fold (with_digit 16) m (digit_glyph false d ∷ more) ≡ fold (with_digit 16) (m * 16 + d) more
step_value m d more h = ap (λ v. fold (with_digit 16) (m * 16 + v) more) (glyph_read d h).1

digits_read : (k n : ℕ) (more : List ℕ) → n < 16 ^ k → AreDigits k n more (onto k n more)
digits_read zero n more h = record {
  digits = λ all. all;
  value = ap (λ m. fold (with_digit 16) m more) (omega arith);
  first = λ some. absurd (omega arith);
  longer = omega arith;
  some = λ no. absurd (omega arith);
}
digits_read (suc k) n more h = go (digits_read k (n / 16) (digit_glyph false (n % 16) ∷ more) (omega arith)) (n / 16 == 0) refl
  where
    go : AreDigits k (n / 16) (digit_glyph false (n % 16) ∷ more) (onto k (n / 16) (digit_glyph false (n % 16) ∷ more)) → (b : Bool) → (n / 16 == 0) ≡ b → AreDigits (suc k) n more (onto (suc k) n more)
    go rest true last =
        let low : n / 16 ≡ 0 = grind (arith, nat_tests) in
        let same : n % 16 ≡ n = omega (arith, low) in
        rw last (record {
          digits = λ all. all_cons (n % 16) more (omega arith) all;
          value = step_value 0 (n % 16) more (omega arith) ∙ ap (λ m. fold (with_digit 16) m more) (omega (arith, same));
          first = λ some. (glyph_read (n % 16) (omega arith)).2 (omega (arith, same));
          longer = omega arith;
          some = λ yes. omega arith;
        })
    go rest false again =
        let high : 0 < n / 16 = grind (arith, nat_tests) in
        rw again (record {
          digits = λ all. rest.digits (all_cons (n % 16) more (omega arith) all);
          value = rest.value ∙ step_value (n / 16) (n % 16) more (omega arith) ∙ ap (λ m. fold (with_digit 16) m more) (omega arith);
          first = λ some. rest.first high;
          longer = omega (arith, rest.longer);
          some = λ yes. omega (arith, rest.longer);
        })

in_64 : (n : ℕ) → n < 2 ^ 64 → in_64_bits n ≡ Some n
in_64 n h = grind (arith, nat_tests)

lower_read : (n : ℕ) (ds : List ℕ) → n < 2 ^ 64 → AreDigits 64 n [] ds → (n ≡ 0 → length ds ≡ 1) → lower_number ds ≡ Some n
lower_read n [] h are one = absurd (let some = are.some (omega arith) in omega (arith, some))
lower_read n (b ∷ bs) h are one =
    let all : list_all is_lower_digit (b ∷ bs) ≡ true = are.digits refl in
    let lead : (length bs == 0 || not (b == 48)) ≡ true = leads (nat_eq n 0) refl in
    let test : (list_all is_lower_digit (b ∷ bs) && (length bs == 0 || not (b == 48))) ≡ true = rw (all, lead) refl in
    cond-true _ _ _ test ∙ ap in_64_bits are.value ∙ in_64 n h
  where
    leads : (z : Bool) → nat_eq n 0 ≡ z → (length bs == 0 || not (b == 48)) ≡ true
    leads true is = let none : n ≡ 0 = grind (arith, nat_tests) in let l = one none in let e : length bs ≡ 0 = omega (arith, l) in grind (arith, nat_tests, e)
    leads false is = let some : 0 < n = grind (arith, nat_tests) in let f : nat_eq b 48 ≡ false = are.first some in grind (arith, nat_tests, f)

one_zero : (n : ℕ) → n ≡ 0 → length (onto 64 n []) ≡ 1
one_zero n is = ap (λ m. length (onto 64 m [])) is

pub address_of-text : (n : ℕ) → n < 2 ^ 64 → address_of (address_text n) ≡ Some n
address_of-text n h = ap lower_number (digits_are n) ∙ lower_read n (onto 64 n []) h (digits_read 64 n [] (omega arith)) (one_zero n)

pub address_digits : (n : ℕ) → n < 2 ^ 64 → list_all is_lower_digit (digits 16 false n) ≡ true
address_digits n h = ap (list_all is_lower_digit) (digits_are n) ∙ (digits_read 64 n [] (omega arith)).digits refl

-- ---- bytes

table_digit : (k : ℕ) → k < 16 → is_lower_digit (slice_index lower_digits k) ≡ true
table_digit k h = AllPass-from_list_all is_lower_digit lower_digits refl k 0 h

pub encoded_digits : (bs : List ℕ) → IsBytes bs → list_all is_lower_digit (encode_lower bs) ≡ true
unfolding encode_with
encoded_digits [] h = refl
encoded_digits (b ∷ bs) h =
    let byte : b < 256 = h 0 in
    let high = table_digit (b / 16) (omega arith) in
    let low = table_digit (b % 16) (omega arith) in
    rw (high, low) (encoded_digits bs (λ i. h (suc i)))

bytes_read : (t bs : List ℕ) → 2 ≤ length t → list_all is_lower_digit t ≡ true → hex_of t ≡ Some bs → reply_bytes t ≡ Some bs
bytes_read [] bs long all read = absurd (omega arith)
bytes_read (x ∷ []) bs long all read = absurd (omega arith)
bytes_read (x ∷ y ∷ t) bs long all read =
    let no : bytes_eq (x ∷ y ∷ t) (codes "-") ≡ false = grind (arith, nat_tests) in
    cond-false _ _ _ no ∙ cond-true _ _ _ all ∙ read

pub reply_bytes-text : (bs : List ℕ) → IsBytes bs → reply_bytes (bytes_text bs) ≡ Some bs
reply_bytes-text [] h = refl
reply_bytes-text (b ∷ bs) h =
    let long = length-encode_with lower_digits (b ∷ bs) in
    bytes_read (encode_lower (b ∷ bs)) (b ∷ bs) (omega (arith, long)) (encoded_digits (b ∷ bs) h)
    (ap (λ (r : Result (List ℕ) FromHexError). result_ok r) (decode_of-encode_lower (b ∷ bs) h))
