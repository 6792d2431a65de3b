-- What is under each name after one entry is put.
use Rattle.std.proofs.Common.{◌≡◌, ℕ, ◌+◌, ◌<◌, ◌≤◌, Bool, true, false, List, [], ◌∷◌, ◌++◌, length, get_or, set, refl, ap, ◌∙◌, sym, arith, Option, Some, subst, add_comm, add-one}
use Rattle.std.specs.Prelude.{bytes_eq, if◌then◌else◌}
use Rattle.std.proofs.Math.Path.{fun_ext}
use Rattle.std.proofs.lemmas.Slice.Eq.{bytes_eq-Decides}
use Rattle.edge_io.specs.Edges.{with_entry}
use Rattle.edge_io.specs.Memory.{entry, place}

set-next : (first file : List ℕ × List ℕ) (files : List (List ℕ × List ℕ)) (i : ℕ) → set (first ∷ files) (1 + i) file ≡ first ∷ set files i file
set-next first file files i = rw (add_comm 1 i, add-one) refl

get_or-next : (first d : List ℕ × List ℕ) (files : List (List ℕ × List ℕ)) (i : ℕ) → get_or (first ∷ files) (1 + i) d ≡ get_or files i d
get_or-next first d files i = rw (add_comm 1 i, add-one) refl

-- one test, asked twice
asked_twice : (b : Bool) (x y z : Option (List ℕ)) → (if b then x else y) ≡ (if b then x else (if b then z else y))
asked_twice true x y z = refl
asked_twice false x y z = refl

-- two tests that don't both hold, in either order
either_order : (b c : Bool) (x y z : Option (List ℕ)) → (b ≡ true → c ≡ true → ⊥) → (if b then x else (if c then y else z)) ≡ (if c then y else (if b then x else z))
either_order true true x y z apart = absurd (apart refl refl)
either_order true false x y z apart = refl
either_order false c x y z apart = refl

-- no text equals two that differ
not_both : (first name other : List ℕ) → bytes_eq first name ≡ false → bytes_eq first other ≡ true → bytes_eq name other ≡ true → ⊥
not_both first name other differ one two =
    let same : first ≡ name = (bytes_eq-Decides first other).0 one ∙ sym ((bytes_eq-Decides name other).0 two) in
    let holds : bytes_eq first name ≡ true = (bytes_eq-Decides first name).1 same in
    cc

-- the first entry of the name is given these bytes
pub entry-set : (files : List (List ℕ × List ℕ)) (name bytes other : List ℕ) (d : List ℕ × List ℕ) → place files name < length files → entry (set files (place files name) ((get_or files (place files name) d).0, bytes)) other ≡ (if bytes_eq name other then Some bytes else entry files other)
entry-set [] name bytes other d within = absurd (omega arith)
entry-set (first ∷ files) name bytes other d within =
    elim (bytes_eq first.0 name) as (λ b. bytes_eq first.0 name ≡ b → (if b then 0 else 1 + place files name) < length (first ∷ files) → entry (set (first ∷ files) (if b then 0 else 1 + place files name) ((get_or (first ∷ files) (if b then 0 else 1 + place files name) d).0, bytes)) other ≡ (if bytes_eq name other then Some bytes else (if bytes_eq first.0 other then Some first.1 else entry files other))) [
      | true ↦ λ same _.
          subst
          (λ (n : List ℕ). (if bytes_eq first.0 other then Some bytes else entry files other) ≡ (if bytes_eq n other then Some bytes else (if bytes_eq first.0 other then Some first.1 else entry files other)))
          ((bytes_eq-Decides first.0 name).0 same)
          (asked_twice (bytes_eq first.0 other) _ _ _)
      | false ↦ λ differ inside.
          let inner : place files name < length files = omega arith in
          rw (get_or-next, set-next)
          (ap (λ o. if bytes_eq first.0 other then Some first.1 else o) (entry-set files name bytes other d inner)
          ∙ either_order (bytes_eq first.0 other) (bytes_eq name other) _ _ _ (not_both first.0 name other differ))
    ] refl within

-- an entry is added, where none has the name
pub entry-push : (files : List (List ℕ × List ℕ)) (name bytes other : List ℕ) → length files ≤ place files name → entry (files ++ (name, bytes) ∷ []) other ≡ (if bytes_eq name other then Some bytes else entry files other)
entry-push [] name bytes other beyond = refl
entry-push (first ∷ files) name bytes other beyond =
    elim (bytes_eq first.0 name) as (λ b. bytes_eq first.0 name ≡ b → length (first ∷ files) ≤ (if b then 0 else 1 + place files name) → (if bytes_eq first.0 other then Some first.1 else entry (files ++ (name, bytes) ∷ []) other) ≡ (if bytes_eq name other then Some bytes else (if bytes_eq first.0 other then Some first.1 else entry files other))) [
      | true ↦ λ same none. absurd (omega arith)
      | false ↦ λ differ none.
          let inner : length files ≤ place files name = omega arith in
          ap (λ o. if bytes_eq first.0 other then Some first.1 else o) (entry-push files name bytes other inner)
          ∙ either_order (bytes_eq first.0 other) (bytes_eq name other) _ _ _ (not_both first.0 name other differ)
    ] refl beyond

pub entries-set : (files : List (List ℕ × List ℕ)) (name bytes : List ℕ) (i : ℕ) (d file : List ℕ × List ℕ) → i ≡ place files name → i < length files → file ≡ ((get_or files i d).0, bytes) → Some (entry (set files i file)) ≡ with_entry (Some (entry files)) name bytes
entries-set files name bytes i d file here within is =
    let inside : place files name < length files = omega arith in
    ap Some (ap (λ (f : List ℕ × List ℕ). entry (set files i f)) is ∙ ap (λ j. entry (set files j ((get_or files j d).0, bytes))) here ∙ fun_ext (λ other. entry-set files name bytes other d inside))

pub entries-push : (files new : List (List ℕ × List ℕ)) (name bytes : List ℕ) → length files ≤ place files name → new ≡ files ++ (name, bytes) ∷ [] → Some (entry new) ≡ with_entry (Some (entry files)) name bytes
entries-push files new name bytes beyond is =
    ap Some (ap entry is ∙ fun_ext (λ other. entry-push files name bytes other beyond))
