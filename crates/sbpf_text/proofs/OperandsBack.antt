-- Operands read back from their text.
use Rattle.std.proofs.Common.{◌≡◌, ℕ, suc, ◌+◌, ◌-◌, ◌^◌, ◌<◌, ◌≤◌, List, [], ◌∷◌, ◌++◌, length, take, Bool, true, false, not, refl, ap, sym, ◌∙◌, get_or, arith, subst, append_assoc, add-one}
use Rattle.std.specs.Prelude.{ℤ, pos, negsuc, decimal, nat_le, nat_lt, nat_eq, ◌&&◌, Ok}
use Rattle.std.specs.Fmt.{signed_decimal}
use Rattle.std.specs.List.{list_all, position_or_len}
use Rattle.std.proofs.lemmas.Bool.Decides.{nat_tests}
use Rattle.std.proofs.lemmas.Fmt.{decimal_nonempty}
use Rattle.std.proofs.lemmas.List.{length-append, get_or_push}
use Rattle.std.proofs.lemmas.List.Folds.{list_all-append}
use Rattle.std.proofs.Math.Seq.{take-append_seam, drop-append_seam}
use Rattle.sbpf_insn.specs.declared.insn.Reg.{Reg}
use Rattle.sbpf_insn.specs.declared.insn.Src.{Src}
use Rattle.sbpf_insn.specs.declared.insn.Src.TheVariants as src
use Rattle.sbpf_insn.specs.Table.{is_reg, is_src}
use Rattle.sbpf_text.specs.declared.operand.Operand.{Operand}
use Rattle.sbpf_text.specs.declared.operand.Operand.TheVariants as operand
use Rattle.sbpf_text.specs.declared.fault.AsmKind.TheVariants as kind
use Rattle.sbpf_text.specs.Lexing.{is_digit, begins_with}
use Rattle.sbpf_text.specs.Forms.{is_r, is_sign, is_register, is_number, is_value, is_target, is_address, has_brackets, inner, base_of, offset_of}
use Rattle.sbpf_text.specs.Faults.{or_fault}
use Rattle.sbpf_text.specs.Operands.{register_at, number_at, wide_at, offset_at, value_at, target_at}
use Rattle.sbpf_insn.specs.Ranges.{fits_half, fits16, fits32, src_fits}
use Rattle.sbpf_text.specs.Print.{register_text, offset_text, address_text, operand_text, source_operand}
use Rattle.sbpf_text.proofs.Numerals.{digits-decimal, number-signed, offset-text, wide-decimal, register-text, below}
use Rattle.sbpf_text.proofs.Cutting.{is_plain, IsWord, weaker, position_at}

-- ---- the texts are words

digit_plain : (b : ℕ) → is_digit b ≡ true → is_plain b ≡ true
digit_plain b h = grind (arith, nat_tests)

decimal_plain : (n : ℕ) → n < 2 ^ 64 → list_all is_plain (decimal n) ≡ true
decimal_plain n h = weaker is_digit is_plain digit_plain (decimal n) (digits-decimal n h)

append_plain : (v w : List ℕ) → list_all is_plain v ≡ true → list_all is_plain w ≡ true → list_all is_plain (v ++ w) ≡ true
append_plain v w a b = list_all-append is_plain v w ∙ grind arith

register_plain : (r : Reg) → is_reg r ≡ true → list_all is_plain (register_text r) ≡ true
register_plain r h = let le : r.n ≤ 10 = grind (arith, nat_tests) in decimal_plain r.n (omega arith)

offset_plain : (half : ℕ) → half ≤ 2 ^ 63 → (z : ℤ) → fits_half half z ≡ true → list_all is_plain (offset_text z) ≡ true
offset_plain half small (pos n) h = let b = below half n small h in decimal_plain n (omega arith)
offset_plain half small (negsuc n) h = let b = below half n small h in decimal_plain (suc n) b

signed_plain : (half : ℕ) → half ≤ 2 ^ 63 → (z : ℤ) → fits_half half z ≡ true → list_all is_plain (signed_decimal z) ≡ true
signed_plain half small (pos n) h = let b = below half n small h in decimal_plain n (omega arith)
signed_plain half small (negsuc n) h = let b = below half n small h in decimal_plain (suc n) b

signed_some : (half : ℕ) → half ≤ 2 ^ 63 → (z : ℤ) → fits_half half z ≡ true → 0 < length (signed_decimal z)
signed_some half small (pos n) h = let b = below half n small h in decimal_nonempty n (omega arith)
signed_some half small (negsuc n) h = omega arith

offset_some : (z : ℤ) → 0 < length (offset_text z)
offset_some (pos n) = omega arith
offset_some (negsuc n) = omega arith

-- the numbers of an operand fit
abbrev pub operand_fits : Operand → Bool
operand_fits (operand.Register r) = is_reg r
operand_fits (operand.Number k) = fits32 k
operand_fits (operand.Wide n) = nat_lt n (2 ^ 64)
operand_fits (operand.Near z) = fits16 z
operand_fits (operand.Far z) = fits32 z
operand_fits (operand.Address base z) = is_reg base && fits16 z

lt_of : (n m : ℕ) → nat_lt n m ≡ true → n < m
lt_of n m h = grind (arith, nat_tests)

pub operand_is_word : (p : Operand) → operand_fits p ≡ true → IsWord (operand_text p)
operand_is_word (operand.Register r) h = record { plain = register_plain r h; some = omega arith }
operand_is_word (operand.Number k) h = record { plain = signed_plain (2 ^ 31) (omega arith) k h; some = signed_some (2 ^ 31) (omega arith) k h }
operand_is_word (operand.Wide n) h = record { plain = decimal_plain n (lt_of n (2 ^ 64) h); some = decimal_nonempty n (lt_of n (2 ^ 64) h) }
operand_is_word (operand.Near z) h = record { plain = offset_plain (2 ^ 15) (omega arith) z h; some = offset_some z }
operand_is_word (operand.Far z) h = record { plain = offset_plain (2 ^ 31) (omega arith) z h; some = offset_some z }
operand_is_word (operand.Address base z) h =
    let r : is_reg base ≡ true = grind arith in
    let f : fits16 z ≡ true = grind arith in
    record {
      plain = append_plain (register_text base) (offset_text z ++ 93 ∷ []) (register_plain base r) (append_plain (offset_text z) (93 ∷ []) (offset_plain (2 ^ 15) (omega arith) z f) refl);
      some = omega arith;
    }

-- ---- the texts read back

pub register_back : (r : Reg) → is_reg r ≡ true → register_at (register_text r) ≡ Ok r
register_back r h = ap (or_fault kind.Register) (register-text r h)

pub number_back : (k : ℤ) → fits32 k ≡ true → number_at (signed_decimal k) ≡ Ok k
number_back k h = ap (or_fault kind.Number) (number-signed (2 ^ 31) (omega arith) k h)

pub wide_back : (n : ℕ) → nat_lt n (2 ^ 64) ≡ true → wide_at (decimal n) ≡ Ok n
wide_back n h = ap (or_fault kind.Number) (wide-decimal n (lt_of n (2 ^ 64) h))

pub offset_back : (z : ℤ) → fits16 z ≡ true → offset_at (offset_text z) ≡ Ok z
offset_back z h = ap (or_fault kind.Number) (offset-text (2 ^ 15) (omega arith) z h)

digits_number : (ds : List ℕ) → list_all is_digit ds ≡ true → 0 < length ds → (is_number ds ≡ true) × (is_register ds ≡ false)
digits_number [] all some = absurd (omega arith)
digits_number (b ∷ ds) all some = let one : is_digit b ≡ true = grind arith in (grind arith, grind (arith, nat_tests))

pub wide_form : (n : ℕ) → nat_lt n (2 ^ 64) ≡ true → is_number (decimal n) ≡ true
wide_form n h = (digits_number (decimal n) (digits-decimal n (lt_of n (2 ^ 64) h)) (decimal_nonempty n (lt_of n (2 ^ 64) h))).0

pub number_form : (k : ℤ) → fits32 k ≡ true → (is_number (signed_decimal k) ≡ true) × (is_register (signed_decimal k) ≡ false)
number_form (pos n) h = let b = below (2 ^ 31) n (omega arith) h in digits_number (decimal n) (digits-decimal n (omega arith)) (decimal_nonempty n (omega arith))
number_form (negsuc n) h = (refl, refl)

pub value_form : (s : Src) → src_fits s ≡ true → is_value (operand_text (source_operand s)) ≡ true
value_form (src.Imm k) h = let f = number_form k h in rw (f.0, f.1) refl
value_form (src.Reg r) h = refl

pub value_back : (s : Src) → is_src s ≡ true → src_fits s ≡ true → value_at (operand_text (source_operand s)) ≡ Ok s
unfolding value_at
value_back (src.Imm k) r h = let f = number_form k h in rw (f.1, number_back k h) refl
value_back (src.Reg r) h f = rw (register_back r h) refl

-- ---- targets

sign_first : (z : ℤ) → begins_with is_sign (offset_text z) ≡ true
sign_first (pos n) = refl
sign_first (negsuc n) = refl

pub target_form : (z : ℤ) → is_target (offset_text z) ≡ true
target_form z = rw (sign_first z) refl

pub target_back : (half : ℕ) (labels : List (List ℕ × ℕ)) (slot : ℕ) (settled : Bool) (z : ℤ) → half ≤ 2 ^ 63 → fits_half half z ≡ true → target_at half labels slot settled (offset_text z) ≡ Ok z
unfolding target_at
target_back half labels slot settled z small h = rw (sign_first z) (ap (or_fault kind.Number) (offset-text half small z h))

-- ---- addresses

in_brackets : (xs : List ℕ) → (has_brackets (91 ∷ (xs ++ 93 ∷ [])) ≡ true) × (inner (91 ∷ (xs ++ 93 ∷ [])) ≡ xs)
in_brackets xs =
    let long : length (xs ++ 93 ∷ []) ≡ length xs + 1 = length-append xs (93 ∷ []) in
    let last : get_or (91 ∷ (xs ++ 93 ∷ [])) (length xs + 1) 0 ≡ 93 = rw (add-one) (get_or_push xs 93 0 (length xs) refl) in
    let at : length (91 ∷ (xs ++ 93 ∷ [])) - 1 ≡ length xs + 1 = omega (arith, long) in
    let cut : length (91 ∷ (xs ++ 93 ∷ [])) - 2 ≡ length xs = omega (arith, long) in
    let two : nat_le 2 (length (91 ∷ (xs ++ 93 ∷ []))) ≡ true = grind (arith, nat_tests, long) in
    let end : nat_eq (get_or (91 ∷ (xs ++ 93 ∷ [])) (length (91 ∷ (xs ++ 93 ∷ [])) - 1) 0) 93 ≡ true = rw (at, last) refl in
    (rw (two, end) refl, ap (λ n. take n (xs ++ 93 ∷ [])) cut ∙ take-append_seam xs (93 ∷ []))

address_is : (base : Reg) (z : ℤ) → address_text base z ≡ 91 ∷ ((register_text base ++ offset_text z) ++ 93 ∷ [])
address_is base z = ap (λ t. 91 ∷ t) (sym (append_assoc (register_text base) (offset_text z) (93 ∷ [])))

digit_no_sign : (b : ℕ) → is_digit b ≡ true → not (is_sign b) ≡ true
digit_no_sign b h = grind (arith, nat_tests)

sign_behind : (base : Reg) (z : ℤ) → is_reg base ≡ true → position_or_len is_sign (register_text base ++ offset_text z) ≡ length (register_text base)
sign_behind base (pos n) h =
    let le : base.n ≤ 10 = grind (arith, nat_tests) in
    position_at is_sign (register_text base) 43 (decimal n) (weaker is_digit (λ b. not (is_sign b)) digit_no_sign (decimal base.n) (digits-decimal base.n (omega arith))) refl
sign_behind base (negsuc n) h =
    let le : base.n ≤ 10 = grind (arith, nat_tests) in
    position_at is_sign (register_text base) 45 (decimal (suc n)) (weaker is_digit (λ b. not (is_sign b)) digit_no_sign (decimal base.n) (digits-decimal base.n (omega arith))) refl

-- an address of a base and an offset
pub record IsAddress (word base off : List ℕ) : Type 0 where
  pub form : is_address word ≡ true
  pub front : base_of word ≡ base
  pub back : offset_of word ≡ off

address_at : (word base off : List ℕ) → has_brackets word ≡ true → inner word ≡ base ++ off → begins_with is_r (base ++ off) ≡ true → position_or_len is_sign (base ++ off) ≡ length base → 0 < length off → IsAddress word base off
address_at word base off brackets within first at some = record {
  form = rw (brackets, within, first, at) (let long = length-append base off in grind (arith, nat_tests, long));
  front = rw (within, at) (take-append_seam base off);
  back = rw (within, at) (drop-append_seam base off);
}

pub address_back : (base : Reg) (z : ℤ) → is_reg base ≡ true → IsAddress (address_text base z) (register_text base) (offset_text z)
address_back base z h =
    let b = in_brackets (register_text base ++ offset_text z) in
    subst (λ (w : List ℕ). IsAddress w (register_text base) (offset_text z)) (sym (address_is base z)) (address_at (91 ∷ ((register_text base ++ offset_text z) ++ 93 ∷ [])) (register_text base) (offset_text z) b.0 b.1 refl (sign_behind base z h) (offset_some z))
