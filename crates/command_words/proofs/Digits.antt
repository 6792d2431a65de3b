-- What hexadecimal digits give.
use Rattle.std.proofs.Common.{◌≡◌, ◌≤◌, ℕ, ◌%◌, List, length, drop, Bool, true, None, Ok, nat_eq, refl, subst, sym, arith, length-drop}
use Rattle.std.specs.Prelude.{IsSome, nat_le, codes, if◌then◌else◌}
use Rattle.std.specs.List.{list_all, starts_with}
use Rattle.std.proofs.lemmas.Bool.{and_parts, eqb-true}
use Rattle.std.proofs.lemmas.Bool.Decides.{nat_tests}
use Rattle.std.specs.Result.{result_ok}
use Rattle.std.proofs.lemmas.List.Sums.{AllPass-from_list_all}
use Rattle.std.specs.Prelude.{Result}
use Rattle.hex.specs.declared.error.FromHexError.{FromHexError}
use Rattle.hex.specs.Hex.{decode_of, is_hex_digit}
use Rattle.hex.proofs.HexLemmas.{decode_of-digits, decode_of-ok}
use Rattle.command_words.specs.Places.{is_hex, is_param, param_of}

-- an even number of them gives bytes
pub digits_decode : (digits : List ℕ) → length digits % 2 ≡ 0 → list_all is_hex_digit digits ≡ true → IsSome (result_ok (decode_of digits))
digits_decode digits even all =
    let read = decode_of-digits digits even (AllPass-from_list_all is_hex_digit digits all) in
    let P : Result (List ℕ) FromHexError → Type 0 = λ r. IsSome (result_ok r) in
    subst P (sym read.1) refl

-- a word of that form has bytes
pub param_decodes : (word : List ℕ) → is_param word ≡ true → IsSome (param_of word)
param_decodes word is =
    let one = and_parts (nat_le (length word) 8196) _ is in
    let two = and_parts (starts_with nat_eq word (codes "hex:")) (is_hex (drop 4 word)) one.1 in
    let three = and_parts (nat_eq (length (drop 4 word) % 2) 0) (list_all is_hex_digit (drop 4 word)) two.1 in
    let P : Bool → Type 0 = λ b. IsSome (if b then result_ok (decode_of (drop 4 word)) else None) in
    let even : length (drop 4 word) % 2 ≡ 0 = eqb-true _ _ three.0 in
    subst P (sym is) (digits_decode (drop 4 word) even three.1)

within : (a b : ℕ) → nat_le a b ≡ true → a ≤ b
within a b is = grind (arith, nat_tests)

-- which are at most 4,096
pub param_few : (word bytes : List ℕ) → is_param word ≡ true → decode_of (drop 4 word) ≡ Ok bytes → length bytes ≤ 4096
param_few word bytes is read =
    let few = within (length word) 8196 (and_parts (nat_le (length word) 8196) _ is).0 in
    let twice = (decode_of-ok (drop 4 word) bytes read).2 in
    omega (arith, few, twice, length-drop 4 word)
