-- The bytes of a file outside the span of a call that stores: they stay.
use Rattle.std.proofs.Common.{◌≡◌, ℕ, ◌+◌, ◌-◌, ◌<◌, ◌≤◌, Bool, true, false, List, ◌++◌, length, take, drop, refl, sym, ap, ◌∙◌, inl, inr, ⊎_elim, arith, get_or}
use Rattle.std.specs.Prelude.{◌≢◌, ◌⊎◌, ◌==◌, ◌/◌, nat_lt, min, replicate, if◌then◌else◌}
use Rattle.std.proofs.lemmas.Bool.Decides.{nat_tests}
use Rattle.std.proofs.lemmas.List.{length-append, length-take, length-replicate, get_or_append_left, get_or-append_right, get_or-take, get_or-drop, get_or-replicate, get_or_past}
use Rattle.page_base.specs.Bytes.{Pages, Put}
use Rattle.core_quick.specs.Plain.{with_length}
use Rattle.core_quick.specs.State.{Exclusive, Reach}
use Rattle.core_quick.specs.Reach.{no_reach, write_reach, trunc_reach}
use Rattle.core_quick.proofs.Words.{less_or_not}

-- past the pages of the span the new bytes are the old ones, with zeros past their end
abbrev pub RestStays : Reach → List ℕ → List ℕ → Type 0
RestStays reach old new = (q : ℕ) → q < length new → ((i : ℕ) → i < reach.pages → reach.first + i ≢ q / 4096) → get_or new q 0 ≡ get_or old q 0

-- a list, lengthened with zeros
padded : (xs : List ℕ) (off q : ℕ) → q < off → get_or (take off xs ++ replicate (off - length xs) 0) q 0 ≡ get_or xs q 0
padded xs off q l = ⊎_elim
    (λ (k : q < length xs). get_or_append_left (take off xs) (replicate (off - length xs) 0) 0 q (let t = length-take off xs in omega arith) ∙ get_or-take off xs q 0 l)
    (λ (k : length xs ≤ q).
    get_or-append_right (take off xs) (replicate (off - length xs) 0) (length xs) q 0 (let t = length-take off xs in omega arith) k
    ∙ (get_or-replicate (off - length xs) (q - length xs) 0 0 (omega arith) ∙ sym (get_or_past xs q 0 k))) (less_or_not q (length xs))

put_rest : (file bytes : List ℕ) (off q : ℕ) → (q < off) ⊎ (off + length bytes ≤ q) → get_or (Put file off bytes) q 0 ≡ get_or file q 0
put_rest file bytes off q out = go (length bytes == 0)
  where
    gap : List ℕ
    gap = replicate (off - length file) 0

    start : length (take off file ++ gap) ≡ off
    start = let a = length-append (take off file) gap in let b = length-take off file in let c = length-replicate {A = ℕ} (off - length file) 0 in omega arith

    so_far : length (take off file ++ gap ++ bytes) ≡ off + length bytes
    so_far = let a = length-append (take off file ++ gap) bytes in let b = start in omega arith

    go : (t : Bool) → get_or (if t then file else take off file ++ gap ++ bytes ++ drop (off + length bytes) file) q 0 ≡ get_or file q 0
    go true = refl
    go false = ⊎_elim
        (λ (l : q < off).
        get_or_append_left (take off file ++ gap ++ bytes) (drop (off + length bytes) file) 0 q (let s = so_far in omega arith)
        ∙ (get_or_append_left (take off file ++ gap) bytes 0 q (let s = start in omega arith) ∙ padded file off q l))
        (λ (l : off + length bytes ≤ q).
        let e : off + length bytes + (q - (off + length bytes)) ≡ q = omega arith in
        get_or-append_right (take off file ++ gap ++ bytes) (drop (off + length bytes) file) (off + length bytes) q 0 so_far l
        ∙ (get_or-drop (off + length bytes) file (q - (off + length bytes)) 0 ∙ ap (λ (k : ℕ). get_or file k 0) e)) out

pub write_rest : (off n len : ℕ) (file bytes : List ℕ) → length bytes ≡ n → RestStays (write_reach off n len) file (Put file off bytes)
write_rest off n len file bytes e = go (n == 0) refl
  where
    go : (z : Bool) → (n == 0) ≡ z →
        RestStays (if z then no_reach else record { mode = Exclusive; from = if nat_lt len (off + n) then min (off / 4096) (len / 4096) else off / 4096; to = Pages (off + n); first = off / 4096; pages = Pages (off + n) - off / 4096; begin = off; end = off + n }) file (Put file off bytes)
    go true z q l none = let s : n ≡ 0 = grind (arith, nat_tests) in put_rest file bytes off q (⊎_elim (λ a. inl a) (λ (b : off ≤ q). inr (omega arith)) (less_or_not q off))
    go false z q l none = put_rest file bytes off q (⊎_elim (λ a. inl a) (λ (b : off ≤ q).
        ⊎_elim (λ (k : q < off + n). absurd (none (q / 4096 - off / 4096) (omega arith) (omega arith))) (λ (k : off + n ≤ q). inr (omega arith)) (less_or_not q (off + n))) (less_or_not q off))

pub trunc_rest : (n len : ℕ) (file : List ℕ) → length (with_length file n) ≡ n → RestStays (trunc_reach n len) file (with_length file n)
trunc_rest n len file e q l none = padded file n q (omega arith)

-- no bytes that are put change nothing
pub put_none : (file bytes : List ℕ) (off : ℕ) → length bytes ≡ 0 → Put file off bytes ≡ file
put_none file bytes off e = go (length bytes == 0) (none (length bytes) e)
  where
    none : (n : ℕ) → n ≡ 0 → (n == 0) ≡ true
    none n e = grind (arith, nat_tests)

    go : (t : Bool) → t ≡ true → (if t then file else take off file ++ replicate (off - length file) 0 ++ bytes ++ drop (off + length bytes) file) ≡ file
    go true e = refl
    go false e = absurd (cc)
