-- Bytes Put into a file that was lengthened first.
use Rattle.std.proofs.Common.{◌≡◌, inl, inr, ℕ, ◌+◌, ◌-◌, ◌≤◌, ◌≢◌, List, [], ◌++◌, length, take, drop, replicate, ap, ◌∙◌, sym, arith, length-append}
use Rattle.std.proofs.lemmas.Grind.{common_steps}
use Rattle.std.proofs.lemmas.List.{length-replicate, take-replicate, take-append-le}
use Rattle.std.proofs.lemmas.Bool.{cases_lt, cond-false, ne_eqb}
use Rattle.std.proofs.Math.Seq.{take-append-add}
use Rattle.page_base.specs.Bytes.{Put}

no_zeros : (file : List ℕ) (n m : ℕ) → n ≤ m → file ++ replicate (n - m) 0 ≡ file
no_zeros file n m le = grind (arith, common_steps)

take_past : (file zeros : List ℕ) (off n : ℕ) → off ≡ length file + n → take off (file ++ zeros) ≡ file ++ take n zeros
take_past file zeros off n is = ap (λ k. take k (file ++ zeros)) is ∙ take-append-add file zeros n

take_whole : (file : List ℕ) (off : ℕ) → length file ≤ off → take off file ≡ file
take_whole file off le = grind (arith, common_steps)

drop_whole : (file : List ℕ) (off : ℕ) → length file ≤ off → drop off file ≡ []
drop_whole file off le = grind (arith, common_steps)

-- a front of a list with zeros behind it
pub take_lengthened : (file : List ℕ) (off end : ℕ) → off ≤ end → take off (file ++ replicate (end - length file) 0) ≡ take off file ++ replicate (off - length file) 0
take_lengthened file off end within =
    elim (cases_lt off (length file)) [
      | inl below ↦
          let low : off ≤ length file = omega arith in
          take-append-le off file _ low ∙ sym (no_zeros (take off file) off (length file) low)
      | inr above ↦
          let some : off ≡ length file + (off - length file) = omega arith in
          let fewer : off - length file ≤ end - length file = omega arith in
          take_past file (replicate (end - length file) 0) off (off - length file) some
          ∙ ap (λ zeros. file ++ zeros) (take-replicate (off - length file) (end - length file) 0 fewer)
          ∙ ap (λ front. front ++ replicate (off - length file) 0) (sym (take_whole file off above))
    ]

-- nothing of the zeros is left behind the end
pub drop_lengthened : (file : List ℕ) (end : ℕ) → drop end (file ++ replicate (end - length file) 0) ≡ drop end file
drop_lengthened file end =
    elim (cases_lt end (length file)) [
      | inl below ↦
          let low : end ≤ length file = omega arith in
          ap (drop end) (no_zeros file end (length file) low)
      | inr above ↦
          let all : length (file ++ replicate (end - length file) 0) ≤ end = simp (length-append, length-replicate) (omega arith) in
          drop_whole _ end all ∙ sym (drop_whole file end above)
    ]

-- the bytes written over the lengthened file
pub put_lengthened : (file long new bytes : List ℕ) (off : ℕ) → length bytes ≢ 0 → long ≡ file ++ replicate (off + length bytes - length file) 0 → new ≡ take off long ++ bytes ++ drop (off + length bytes) long → new ≡ Put file off bytes
put_lengthened file long new bytes off some is written =
    let within : off ≤ off + length bytes = omega arith in
    let front : take off long ≡ take off file ++ replicate (off - length file) 0 = ap (take off) is ∙ take_lengthened file off (off + length bytes) within in
    let back : drop (off + length bytes) long ≡ drop (off + length bytes) file = ap (drop (off + length bytes)) is ∙ drop_lengthened file (off + length bytes) in
    written ∙ ap (λ x. x ++ bytes ++ drop (off + length bytes) long) front ∙ ap (λ x. take off file ++ replicate (off - length file) 0 ++ bytes ++ x) back ∙ sym (cond-false _ _ _ (ne_eqb _ _ some))

-- a slice of the whole of a vector, Put back
pub put_back : (part items : List ℕ) (n : ℕ) → length part ≡ n → length items ≡ n → take n (part ++ drop (length part) items) ≡ part
put_back part items n is same = grind (arith, common_steps)
