-- Decoded hexadecimal digits are bytes.
use Rattle.std.proofs.Common.{◌≡◌, ℕ, zero, suc, ◌+◌, ◌*◌, ◌<◌, List, [], ◌∷◌, length, Bool, true, false, refl, ap, Some, None, Ok, Err, Result, arith, subst}
use Rattle.std.specs.Prelude.{Option, ◌%◌, ◌==◌, if◌then◌else◌}
use Rattle.std.specs.Result.{result_ok}
use Rattle.std.proofs.lemmas.Bool.Decides.{nat_tests}
use Rattle.hex.specs.declared.error.FromHexError.{FromHexError}
use Rattle.hex.specs.declared.error.FromHexError.TheVariants.{OddLength}
use Rattle.hex.specs.Hex.{◌>>=◌, decode_of, decode_pairs, pair_value, value_at, digit_or_error, hex_digit_value, IsBytes}
use Rattle.script_words.specs.Words.{hex_of}

pub none_are_bytes : IsBytes []
none_are_bytes i = omega arith

cons_bytes : (b : ℕ) (bs : List ℕ) → b < 256 → IsBytes bs → IsBytes (b ∷ bs)
cons_bytes b bs h hs zero = h
cons_bytes b bs h hs (suc i) = hs i

digit_small : (c v : ℕ) → hex_digit_value c ≡ Some v → v < 16
digit_small c v h = grind (arith, nat_tests)

value_small : (c i v : ℕ) (o : Option ℕ) → (o ≡ Some v → v < 16) → digit_or_error c i o ≡ Ok v → v < 16
value_small c i v None k h = absurd cc
value_small c i v (Some w) k h = k (let same : w ≡ v = cc in ap Some same)

ok_same : {A : Type 0} → (x y : A) (r : Result A FromHexError) → r ≡ Ok x → r ≡ Ok y → x ≡ y
ok_same x y r p q = cc

pair_of : (a b : Result ℕ FromHexError) (v : ℕ) → ((x : ℕ) → a ≡ Ok x → x < 16) → ((y : ℕ) → b ≡ Ok y → y < 16) → (a >>= λ h. b >>= λ l. Ok (h * 16 + l)) ≡ Ok v → v < 256
pair_of (Err e) b v p q h = absurd cc
pair_of (Ok x) (Err e) v p q h = absurd cc
pair_of (Ok x) (Ok y) v p q h = let same = ok_same (x * 16 + y) v _ refl h in omega (arith, p x refl, q y refl, same)

pair_small : (high low i v : ℕ) → pair_value high low i ≡ Ok v → v < 256
pair_small high low i v h = pair_of (value_at high i) (value_at low (i + 1)) v (λ x is. value_small high i x (hex_digit_value high) (digit_small high x) is) (λ y is. value_small low (i + 1) y (hex_digit_value low) (digit_small low y) is) h

pairs_of : (a : Result ℕ FromHexError) (b : Result (List ℕ) FromHexError) (bs : List ℕ) → ((x : ℕ) → a ≡ Ok x → x < 256) → ((ys : List ℕ) → b ≡ Ok ys → IsBytes ys) → (a >>= λ byte. b >>= λ bytes. Ok (byte ∷ bytes)) ≡ Ok bs → IsBytes bs
pairs_of (Err e) b bs p q h = absurd cc
pairs_of (Ok x) (Err e) bs p q h = absurd cc
pairs_of (Ok x) (Ok ys) bs p q h = let same = ok_same (x ∷ ys) bs _ refl h in subst (λ (zs : List ℕ). IsBytes zs) same (cons_bytes x ys (p x refl) (q ys refl))

decoded : (i : ℕ) (s bs : List ℕ) → decode_pairs i s ≡ Ok bs → IsBytes bs
unfolding decode_pairs
decoded i [] bs h = let same = ok_same [] bs _ refl h in subst (λ (zs : List ℕ). IsBytes zs) same none_are_bytes
decoded i (digit ∷ []) bs h = absurd cc
decoded i (high ∷ low ∷ rest) bs h = pairs_of (pair_value high low i) (decode_pairs (i + 2) rest) bs (pair_small high low i) (decoded (i + 2) rest) h

decoded_even : (t : Bool) (s bs : List ℕ) → (if t then Err OddLength else decode_pairs 0 s) ≡ Ok bs → IsBytes bs
decoded_even true s bs h = absurd cc
decoded_even false s bs h = decoded 0 s bs h

found : (r : Result (List ℕ) FromHexError) (bs : List ℕ) → result_ok r ≡ Some bs → r ≡ Ok bs
found (Ok x) bs h = let same : x ≡ bs = cc in ap Ok same
found (Err e) bs h = absurd cc

pub hex_of-bytes : (s bs : List ℕ) → hex_of s ≡ Some bs → IsBytes bs
hex_of-bytes s bs h = decoded_even (length s % 2 == 1) s bs (found (decode_of s) bs h)
