-- The chunks of a parallel iterator are the pieces.
use Rattle.std.proofs.Common.{◌≡◌, ℕ, zero, suc, ◌+◌, ◌-◌, ◌*◌, ◌/◌, ◌%◌, ◌<◌, ◌≤◌, List, [], ◌∷◌, length, take, drop, map, ap, ◌∙◌, sym, refl, arith, ⊎_elim}
use Rattle.std.proofs.lemmas.Bool.{cases_lt}
use Rattle.std.proofs.lemmas.List.{length-drop, drop-drop}
use Rattle.std.specs.List.{range_with_len}
use native.Mathlib.Nat.{div-eq_of_lt, div-eq-sub-div, mod-eq_of_lt, mod-eq-sub-mod, zero-div, zero-mod, suc-mul}
use Rattle.page_base.specs.Bytes.{Cut}
use Rattle.rayon.specs.Lists.{chunks_from, chunks_of}
use Rattle.chunk_scan.specs.Pieces.{piece_count, pieces}

count_none : (size : ℕ) → piece_count size 0 ≡ 0
count_none size = let whole : 0 / size ≡ 0 = zero-div size in let part : 0 % size ≡ 0 = zero-mod size in omega (arith, whole, part)

-- the first piece, and those of the rest
count_more : (size n rest : ℕ) → 0 < size → 0 < n → rest ≡ n - size → piece_count size n ≡ suc (piece_count size rest)
count_more size n rest pos some is = ⊎_elim
    (λ lt.
    let whole : n / size ≡ 0 = div-eq_of_lt lt in
    let part : n % size ≡ n = mod-eq_of_lt lt in
    let none : piece_count size rest ≡ 0 = ap (piece_count size) (omega arith) ∙ count_none size in
    omega (arith, whole, part, none))
    (λ ge.
    let whole : n / size ≡ rest / size + 1 = div-eq-sub-div pos ge ∙ ap (λ k. k / size + 1) (sym is) in
    let part : n % size ≡ rest % size = mod-eq-sub-mod ge ∙ ap (λ k. k % size) (sym is) in
    omega (arith, whole, part))
    (cases_lt n size)

module _ {X : Type 0} where
  shifted : (f g : ℕ → X) (at n : ℕ) → ((i : ℕ) → f (i + 1) ≡ g i) → map f (range_with_len (at + 1) n) ≡ map g (range_with_len at n)
  shifted f g at zero each = refl
  shifted f g at (suc n) each = (λ i. each at i ∷ shifted f g (at + 1) n each i)

pieces_from : (fuel size : ℕ) (input : List ℕ) → 0 < size → length input ≤ fuel → chunks_from fuel size input ≡ pieces size input
pieces_from zero size [] pos le = ap (λ n. map (λ i. Cut [] (i * size) size) (range_with_len 0 n)) (sym (count_none size))
pieces_from zero size (x ∷ xs) pos le = absurd (omega arith)
pieces_from (suc fuel) size [] pos le = ap (λ n. map (λ i. Cut [] (i * size) size) (range_with_len 0 n)) (sym (count_none size))
pieces_from (suc fuel) size (x ∷ xs) pos le =
    let all = x ∷ xs in
    let rest = drop size all in
    let len : length rest ≡ length all - size = length-drop size all in
    let one_more : (i : ℕ) → (i + 1) * size ≡ size + i * size = λ i. ap (λ k. k * size) (omega arith) ∙ suc-mul i size ∙ omega arith in
    let next : (i : ℕ) → Cut all ((i + 1) * size) size ≡ Cut rest (i * size) size =
    λ i. ap (take size) (ap (λ n. drop n all) (one_more i) ∙ sym (drop-drop (i * size) size all)) in
    let more = shifted (λ i. Cut all (i * size) size) (λ i. Cut rest (i * size) size) 0 (piece_count size (length rest)) next in
    let count = count_more size (length all) (length rest) pos (omega arith) len in
    let none : 0 ≡ 0 * size = omega arith in
    let first : take size all ≡ Cut all (0 * size) size = ap (λ n. take size (drop n all)) none in
    (λ i. first i ∷ (pieces_from fuel size rest pos (omega (arith, len)) ∙ sym more) i)
    ∙ ap (λ n. map (λ i. Cut all (i * size) size) (range_with_len 0 n)) (sym count)

pub chunks_are_pieces : (size : ℕ) (input : List ℕ) → 0 < size → chunks_of size input ≡ pieces size input
chunks_are_pieces size input pos = pieces_from (length input) size input pos (omega arith)
