-- How many bytes hexadecimal digits give.
use Rattle.std.proofs.Common.{◌≡◌, ℕ, ◌*◌, ◌/◌, ◌%◌, List, length, true, false, Result, Ok, Err, refl, ap, ◌∙◌, sym, arith}
use Rattle.std.specs.List.{list_all}
use Rattle.std.specs.Result.{result_ok}
use Rattle.std.proofs.lemmas.List.Sums.{AllPass-from_list_all, list_all-from_AllPass}
use Rattle.hex.specs.declared.error.FromHexError.{FromHexError}
use Rattle.hex.specs.Hex.{decode_of, is_hex_digit}
use Rattle.hex.proofs.HexLemmas.{decode_of-odd, decode_of-ok, decode_of-digits}
use Rattle.script_words.specs.Words.{hex_of, size}

-- an odd number gives none
pub odd_gives_none : (digits : List ℕ) → length digits % 2 ≡ 1 → 0 ≡ size (hex_of digits)
odd_gives_none digits odd = sym (ap (λ (r : Result (List ℕ) FromHexError). size (result_ok r)) (decode_of-odd digits odd))

-- another byte among them gives none
pub others_give_none : (digits : List ℕ) → list_all is_hex_digit digits ≡ false → 0 ≡ size (hex_of digits)
others_give_none digits other = go (decode_of digits) refl
  where
    go : (read : Result (List ℕ) FromHexError) → decode_of digits ≡ read → 0 ≡ size (result_ok read)
    go (Ok bytes) is = let all : list_all is_hex_digit digits ≡ true = list_all-from_AllPass is_hex_digit digits (decode_of-ok digits bytes is).1 in cc
    go (Err e) is = refl

-- two digits for each byte
pub digits_give_half : (digits : List ℕ) → length digits % 2 ≡ 0 → list_all is_hex_digit digits ≡ true → length digits / 2 ≡ size (hex_of digits)
digits_give_half digits even all =
    let read = decode_of-digits digits even (AllPass-from_list_all is_hex_digit digits all) in
    let twice : length digits ≡ 2 * length read.0 = (decode_of-ok digits read.0 read.1).2 in
    let half : length digits / 2 ≡ length read.0 = omega (arith, twice) in
    half ∙ sym (ap (λ (r : Result (List ℕ) FromHexError). size (result_ok r)) read.1)
