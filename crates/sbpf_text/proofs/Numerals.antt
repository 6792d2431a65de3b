-- Numbers read back from their text.
use Rattle.std.proofs.Common.{◌≡◌, ℕ, zero, suc, ◌+◌, ◌-◌, ◌*◌, ◌/◌, ◌%◌, ◌^◌, ◌<◌, ◌≤◌, List, [], ◌∷◌, ◌++◌, length, Bool, true, false, refl, ap, sym, ◌∙◌, Some, get_or, arith, subst}
use Rattle.std.specs.Prelude.{ℤ, pos, negsuc, decimal, nat_le, nat_lt, nat_eq}
use Rattle.std.specs.Fmt.{signed_decimal}
use Rattle.std.specs.List.{list_all}
use Rattle.std.proofs.lemmas.Bool.Decides.{nat_tests}
use Rattle.std.proofs.lemmas.Fmt.{decimal_by_steps, first_decimal, decimal_nonempty, decimal_digit, decimal_step}
use Rattle.std.proofs.lemmas.List.Sums.{fold-append}
use Rattle.sbpf_insn.specs.declared.insn.Reg.{Reg}
use Rattle.sbpf_insn.specs.Table.{is_reg}
use Rattle.sbpf_text.specs.Lexing.{is_digit}
use Rattle.sbpf_text.specs.Numbers.{digit_value, with_digit, value_of, in_64_bits, is_decimal, natural, signed, signed_by, number, offset, wide_bits, wide_number, reg, register}
use Rattle.sbpf_insn.specs.Ranges.{fits_half}
use Rattle.sbpf_text.specs.Print.{register_text, offset_text}

-- digits and their value
record IsNumeral (n : ℕ) (ds : List ℕ) : Type 0 where
  digits : list_all is_digit ds ≡ true
  value : value_of 10 ds ≡ n

digit_read : (n : ℕ) → n < 10 → (is_digit (48 + n) ≡ true) × (digit_value (48 + n) ≡ n)
digit_read n h = (grind (arith, nat_tests), grind (arith, nat_tests))

all_push : (p : ℕ → Bool) (xs : List ℕ) (x : ℕ) → list_all p xs ≡ true → p x ≡ true → list_all p (xs ++ x ∷ []) ≡ true
all_push p [] x all one = grind arith
all_push p (y ∷ xs) x all one = grind (arith, all_push p xs x)

one_digit : (n : ℕ) → n < 10 → IsNumeral n ((48 + n) ∷ [])
one_digit n h = let d = digit_read n h in record {
  digits = grind (arith, d.0);
  value = omega (arith, d.1);
}

more_digits : (n : ℕ) (ds : List ℕ) → 10 ≤ n → IsNumeral (n / 10) ds → IsNumeral n (ds ++ ((48 + n % 10) ∷ []))
more_digits n ds h front =
    let d = digit_read (n % 10) (omega arith) in
    record {
      digits = all_push is_digit ds (48 + n % 10) front.digits d.0;
      value = fold-append (with_digit 10) 0 ds ((48 + n % 10) ∷ []) ∙ ap (λ v. v * 10 + digit_value (48 + n % 10)) front.value ∙ ap (λ v. n / 10 * 10 + v) d.1 ∙ omega arith;
    }

numeral : (n : ℕ) → n < 2 ^ 64 → IsNumeral n (decimal n)
numeral n h = decimal_by_steps IsNumeral one_digit more_digits n h

-- no leading zero
decimal_form : (ds : List ℕ) → list_all is_digit ds ≡ true → 0 < length ds → (1 < length ds → 48 < get_or ds 0 0) → is_decimal ds ≡ true
decimal_form [] all some first = absurd (omega arith)
decimal_form (b ∷ []) all some first = grind arith
decimal_form (b ∷ c ∷ ds) all some first = let f : 48 < b = first (omega arith) in grind (arith, nat_tests)

first_is : (n : ℕ) → n < 2 ^ 64 → 1 < length (decimal n) → 48 < get_or (decimal n) 0 0
first_is zero h long = absurd (let e = ap length (decimal_digit 0 (omega arith)) in omega (arith, e))
first_is (suc n) h long = first_decimal (suc n) (omega arith) h

natural_form : (ds : List ℕ) → is_decimal ds ≡ true → natural ds ≡ in_64_bits (value_of 10 ds)
natural_form [] is = absurd cc
natural_form (b ∷ []) is = grind arith
natural_form (b ∷ c ∷ ds) is = grind (arith, nat_tests)

pub natural-decimal : (n : ℕ) → n < 2 ^ 64 → natural (decimal n) ≡ Some n
natural-decimal n h =
    let num = numeral n h in
    let form : is_decimal (decimal n) ≡ true = decimal_form (decimal n) num.digits (decimal_nonempty n h) (first_is n h) in
    natural_form (decimal n) form ∙ ap in_64_bits num.value ∙ grind (arith, nat_tests)

pub digits-decimal : (n : ℕ) → n < 2 ^ 64 → list_all is_digit (decimal n) ≡ true
digits-decimal n h = (numeral n h).digits

-- ---- numbers with a sign

no_sign : (b : ℕ) → is_digit b ≡ true → nat_eq b 45 ≡ false
no_sign b h = grind (arith, nat_tests)

number_plain : (half : ℕ) (ds : List ℕ) → list_all is_digit ds ≡ true → 0 < length ds → number half ds ≡ signed_by half false (natural ds)
number_plain half [] all some = absurd (omega arith)
number_plain half (b ∷ ds) all some = let one : is_digit b ≡ true = grind arith in let no = no_sign b one in rw no refl

wide_plain : (ds : List ℕ) → list_all is_digit ds ≡ true → 0 < length ds → wide_number ds ≡ wide_bits false (natural ds)
wide_plain [] all some = absurd (omega arith)
wide_plain (b ∷ ds) all some = let one : is_digit b ≡ true = grind arith in let no = no_sign b one in rw no refl

signed_pos : (half n : ℕ) → nat_lt n half ≡ true → signed half false n ≡ Some (pos n)
signed_pos half n h = rw h refl

signed_neg : (half n : ℕ) → nat_lt n half ≡ true → signed half true (suc n) ≡ Some (negsuc n)
signed_neg half n h = let le : nat_le (suc n) half ≡ true = grind (arith, nat_tests) in rw le refl

pub below : (half n : ℕ) → half ≤ 2 ^ 63 → nat_lt n half ≡ true → suc n < 2 ^ 64
below half n small h = let lt : n < half = grind (arith, nat_tests) in omega arith

pub number-signed : (half : ℕ) → half ≤ 2 ^ 63 → (z : ℤ) → fits_half half z ≡ true → number half (signed_decimal z) ≡ Some z
number-signed half small (pos n) h =
    let b = below half n small h in
    number_plain half (decimal n) (digits-decimal n (omega arith)) (decimal_nonempty n (omega arith)) ∙ ap (signed_by half false) (natural-decimal n (omega arith)) ∙ signed_pos half n h
number-signed half small (negsuc n) h =
    let b = below half n small h in
    ap (signed_by half true) (natural-decimal (suc n) b) ∙ signed_neg half n h

pub offset-text : (half : ℕ) → half ≤ 2 ^ 63 → (z : ℤ) → fits_half half z ≡ true → offset half (offset_text z) ≡ Some z
offset-text half small (pos n) h =
    let b = below half n small h in
    ap (signed_by half false) (natural-decimal n (omega arith)) ∙ signed_pos half n h
offset-text half small (negsuc n) h =
    let b = below half n small h in
    ap (signed_by half true) (natural-decimal (suc n) b) ∙ signed_neg half n h

pub wide-decimal : (n : ℕ) → n < 2 ^ 64 → wide_number (decimal n) ≡ Some n
wide-decimal n h = wide_plain (decimal n) (digits-decimal n h) (decimal_nonempty n h) ∙ ap (wide_bits false) (natural-decimal n h)

-- ---- registers

one_digit_register : (n : ℕ) → n < 10 → register (114 ∷ (48 + n) ∷ []) ≡ Some (reg n)
one_digit_register n h = let d : is_digit (48 + n) ≡ true = grind (arith, nat_tests) in let v : 48 + n - 48 ≡ n = omega arith in rw (d, v) refl

ten : decimal 10 ≡ 49 ∷ 48 ∷ []
ten = decimal_step 10 (omega arith) (omega arith) ∙ ap (λ ds. ds ++ 48 ∷ []) (decimal_digit 1 (omega arith))

small_register : (n : ℕ) (b : Bool) → nat_eq n 10 ≡ b → n ≤ 10 → register (114 ∷ decimal n) ≡ Some (reg n)
small_register n true is h = let e : n ≡ 10 = grind (arith, nat_tests) in subst (λ (k : ℕ). register (114 ∷ decimal k) ≡ Some (reg k)) (sym e) (ap (λ ds. register (114 ∷ ds)) ten)
small_register n false is h = let lt : n < 10 = grind (arith, nat_tests) in ap (λ ds. register (114 ∷ ds)) (decimal_digit n lt) ∙ one_digit_register n lt

pub register-text : (r : Reg) → is_reg r ≡ true → register (register_text r) ≡ Some r
register-text r h = let le : r.n ≤ 10 = grind (arith, nat_tests) in small_register r.n (nat_eq r.n 10) refl le
