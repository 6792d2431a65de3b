-- A name at the front of 96 bytes, with zeros behind it.
use Rattle.std.proofs.Common.{◌≡◌, ℕ, ◌+◌, ◌-◌, ◌≤◌, List, ◌++◌, length, take, drop, replicate, IsTrue, ap, subst, ◌∙◌, sym, arith, length-append}
use Rattle.std.proofs.Math.Seq.{drop-append_seam, take-append_seam}
use Rattle.std.proofs.lemmas.List.{drop-replicate, length-replicate}
use Rattle.std.proofs.lemmas.Bool.Decides.{nat_tests}
use Rattle.name_table.specs.Name.{is_name}

-- a name is short enough
pub short_name : (name : List ℕ) → IsTrue (is_name name) → length name ≤ 96
short_name name named = grind (arith, nat_tests)

-- what is kept of a name
pub padded : (name front : List ℕ) → front ≡ name → length name ≤ 96 → IsTrue (is_name name) →
    (length name ≤ 96) × (length (front ++ drop (length name) (replicate 96 0)) ≡ 96) × (drop (length name) (front ++ drop (length name) (replicate 96 0)) ≡ replicate (96 - length name) 0) × IsTrue (is_name (take (length name) (front ++ drop (length name) (replicate 96 0))))
padded name front same short named =
    let rest : length (replicate (96 - length name) 0) ≡ 96 - length name = length-replicate {A = ℕ} (96 - length name) 0 in
    let full : length name + length (replicate (96 - length name) 0) ≡ 96 = omega (arith, rest) in
    let zeros : drop (length name) (replicate 96 0) ≡ replicate (96 - length name) 0 = drop-replicate (length name) 96 0 in
    let all : front ++ drop (length name) (replicate 96 0) ≡ name ++ replicate (96 - length name) 0 = ap (λ xs. xs ++ drop (length name) (replicate 96 0)) same ∙ ap (λ xs. name ++ xs) zeros in (
      short,
      ap length all ∙ length-append name (replicate (96 - length name) 0) ∙ full,
      ap (drop (length name)) all ∙ drop-append_seam name (replicate (96 - length name) 0),
      subst (λ (xs : List ℕ). IsTrue (is_name xs)) (sym (ap (take (length name)) all ∙ take-append_seam name (replicate (96 - length name) 0))) named,
    )
