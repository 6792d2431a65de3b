-- The numbers that are selected, from one record on.
use Rattle.std.proofs.Common.{◌≡◌, ℕ, suc, ◌+◌, ◌-◌, ◌<◌, Bool, true, false, cond, List, [], ◌∷◌, ◌++◌, sym, ap, ◌∙◌, arith, append_assoc}
use Rattle.std.specs.List.{filter, range_with_len}

-- the numbers below n, from i on
abbrev pub left : (ℕ → Bool) → ℕ → ℕ → List ℕ
left f i n = filter f (range_with_len i (n - i))

pub left_first : (f : ℕ → Bool) (i n : ℕ) → i < n → left f i n ≡ cond (f i) (i ∷ left f (i + 1) n) (left f (i + 1) n)
left_first f i n lt =
    let e : n - i ≡ suc (n - (i + 1)) = omega arith in
    ap (λ (k : ℕ). filter f (range_with_len i k)) e

pub kept : (f : ℕ → Bool) (i n : ℕ) (items whole : List ℕ) → i < n → f i ≡ true → items ++ left f i n ≡ whole → (items ++ i ∷ []) ++ left f (i + 1) n ≡ whole
kept f i n items whole lt yes' same =
    append_assoc items (i ∷ []) (left f (i + 1) n) ∙ ap (λ (t : List ℕ). items ++ t) (sym (left_first f i n lt ∙ ap (λ (b : Bool). cond b (i ∷ left f (i + 1) n) (left f (i + 1) n)) yes')) ∙ same

pub passed : (f : ℕ → Bool) (i n : ℕ) (items whole : List ℕ) → i < n → f i ≡ false → items ++ left f i n ≡ whole → items ++ left f (i + 1) n ≡ whole
passed f i n items whole lt no' same =
    ap (λ (t : List ℕ). items ++ t) (sym (left_first f i n lt ∙ ap (λ (b : Bool). cond b (i ∷ left f (i + 1) n) (left f (i + 1) n)) no')) ∙ same
