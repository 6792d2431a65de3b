-- The pages that a die begins with are written one by one.
use Rattle.std.proofs.Common.{◌≡◌, ℕ, suc, ◌+◌, ◌-◌, ◌<◌, List, [], ◌∷◌, ◌++◌, length, take, replicate, set, get_or, ap, sym, ◌∙◌, arith}
use Rattle.std.proofs.lemmas.List.{append_assoc, length-take-le, set_at, take_more}

pub loaded_more : (pages : List (List ℕ)) (i : ℕ) (page zeros : List ℕ) → i < length pages → page ≡ get_or pages i [] → set (take i pages ++ replicate (length pages - i) zeros) i page ≡ take (i + 1) pages ++ replicate (length pages - (i + 1)) zeros
loaded_more pages i page zeros within is =
    let left = length pages - (i + 1) in
    let one : length pages - i ≡ suc left = omega arith in
    let front : length (take i pages) ≡ i = length-take-le i pages (omega arith) in
    let more : take (i + 1) pages ≡ take i pages ++ page ∷ [] = take_more pages i [] within ∙ ap (λ (x : List ℕ). take i pages ++ x ∷ []) (sym is) in
    ap (λ (n : ℕ). set (take i pages ++ replicate n zeros) i page) one
    ∙ set_at (take i pages) zeros (replicate left zeros) page i front
    ∙ sym (append_assoc (take i pages) (page ∷ []) (replicate left zeros))
    ∙ ap (λ (xs : List (List ℕ)). xs ++ replicate left zeros) (sym more)
