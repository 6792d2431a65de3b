-- Where the instructions of a part of code stand, slot by slot.
use Rattle.std.proofs.Common.{◌≡◌, ℕ, zero, suc, ◌+◌, ◌-◌, ◌<◌, ◌≤◌, Bool, true, List, [], ◌∷◌, ◌++◌, length, Option, Some, None, refl, sym, ap, ◌∙◌, arith, ◌⊎◌, inl, inr, subst, length-append, append_assoc, zero-add}
use Rattle.std.specs.Prelude.{slice_get}
use Rattle.std.proofs.lemmas.Bool.{cases_lt}
use Rattle.sbpf_insn.specs.declared.insn.Insn.{Insn}
use Rattle.sbpf_insn.specs.declared.insn.Insn.TheVariants as insn
use Rattle.sbpf_insn.specs.Decoded.{slots_of}
use Rattle.sbpf_insn.specs.Cells.{cells, cells_of, slots, flat, at_slot}
use Rattle.sbpf_insn.proofs.CellLaws.{length-cells_of, cells-append, slots_grown}

get_past : {X : Type 0} → (xs ys : List X) (k : ℕ) → slice_get (xs ++ ys) (length xs + k) ≡ slice_get ys k
get_past [] ys k = ap (slice_get ys) (zero-add k)
get_past (x ∷ xs) ys k = let e : length (x ∷ xs) + k ≡ suc (length xs + k) = omega arith in rw e (get_past xs ys k)

pub slots_more : (j : Insn) (code : List Insn) → slots (j ∷ code) ≡ slots_of j + slots code
slots_more j code = length-append (cells_of j) (cells code) ∙ omega (arith, length-cells_of j)

pub slots_both : (a b : List Insn) → slots (a ++ b) ≡ slots a + slots b
slots_both a b = ap length (cells-append a b) ∙ length-append (cells a) (cells b)

-- an instruction has one cell, or a wide load two, of which the second is empty
shape : (j : Insn) → ((slots_of j ≡ 1) × (cells_of j ≡ Some j ∷ [])) ⊎ ((slots_of j ≡ 2) × (cells_of j ≡ Some j ∷ None ∷ []))
shape (insn.LoadWide dst value) = inr (refl, refl)
shape j = inl (refl, refl)

at_behind : (pre code : List Insn) (k : ℕ) → at_slot (pre ++ code) (slots pre + k) ≡ at_slot code k
at_behind pre code k = ap (λ (c : List (Option Insn)). flat (slice_get c (slots pre + k))) (cells-append pre code) ∙ ap flat (get_past (cells pre) (cells code) k)

at_past : (j : Insn) (code : List Insn) (s : ℕ) → at_slot (j ∷ code) (slots_of j + s) ≡ at_slot code s
at_past j code s = ap (λ (n : ℕ). flat (slice_get (cells_of j ++ cells code) (n + s))) (sym (length-cells_of j)) ∙ ap flat (get_past (cells_of j) (cells code) s)

at_first : (j : Insn) (code : List Insn) → at_slot (j ∷ code) 0 ≡ Some j
at_first j code = elim (shape j) [
  | inl one ↦ ap (λ (c : List (Option Insn)). flat (slice_get (c ++ cells code) 0)) one.1
  | inr two ↦ ap (λ (c : List (Option Insn)). flat (slice_get (c ++ cells code) 0)) two.1
]

at_inside : (j : Insn) (code : List Insn) (s : ℕ) (i : Insn) → s < slots_of j → at_slot (j ∷ code) s ≡ Some i → s ≡ 0
at_inside j code zero i lt at = refl
at_inside j code (suc zero) i lt at = elim (shape j) [
  | inl one ↦ absurd (omega (arith, one.0))
  | inr two ↦ let e : at_slot (j ∷ code) 1 ≡ None = ap (λ (c : List (Option Insn)). flat (slice_get (c ++ cells code) 1)) two.1 in absurd cc
]
at_inside j code (suc (suc s)) i lt at = elim (shape j) [ inl one ↦ absurd (omega (arith, one.0)) | inr two ↦ absurd (omega (arith, two.0)) ]

same_insn : (j i : Insn) (o : Option Insn) → o ≡ Some j → o ≡ Some i → j ≡ i
same_insn j i o e f = cc

-- ---- code that has instructions at a place

abbrev pub HasAt : List Insn → ℕ → List Insn → Type 0
HasAt code s [] = Unit {0}
HasAt code s (i ∷ more) = (at_slot code s ≡ Some i) × HasAt code (s + slots_of i) more

pub has_moved : (code : List Insn) (s t : ℕ) (part : List Insn) → s ≡ t → HasAt code s part → HasAt code t part
has_moved code s t part e h = subst (λ (k : ℕ). HasAt code k part) e h

pub has_front : (code : List Insn) (s : ℕ) (a b : List Insn) → HasAt code s (a ++ b) → HasAt code s a
has_front code s [] b h = tt
has_front code s (i ∷ a) b h = (h.0, has_front code (s + slots_of i) a b h.1)

pub has_back : (code : List Insn) (s : ℕ) (a b : List Insn) → HasAt code s (a ++ b) → HasAt code (s + slots a) b
has_back code s [] b h = let e : s ≡ s + slots [] = omega arith in has_moved code s (s + slots []) b e h
has_back code s (i ∷ a) b h =
    let e : s + slots_of i + slots a ≡ s + slots (i ∷ a) = omega (arith, slots_more i a) in
    has_moved code (s + slots_of i + slots a) (s + slots (i ∷ a)) b e (has_back code (s + slots_of i) a b h.1)

pub has_all : (pre code : List Insn) → HasAt (pre ++ code) (slots pre) code
has_all pre [] = tt
has_all pre (i ∷ code) =
    let z : slots pre ≡ slots pre + 0 = omega arith in
    let here : at_slot (pre ++ i ∷ code) (slots pre) ≡ Some i = ap (at_slot (pre ++ i ∷ code)) z ∙ at_behind pre (i ∷ code) 0 ∙ at_first i code in
    let later : HasAt (pre ++ i ∷ code) (slots (pre ++ i ∷ [])) code = subst (λ (c : List Insn). HasAt c (slots (pre ++ i ∷ [])) code) (append_assoc pre (i ∷ []) code) (has_all (pre ++ i ∷ []) code) in
    (here, has_moved (pre ++ i ∷ code) (slots (pre ++ i ∷ [])) (slots pre + slots_of i) code (slots_grown pre i) later)

-- ---- what holds of each instruction and its slot

abbrev pub AllAt : (ℕ → Insn → Type 0) → ℕ → List Insn → Type 0
AllAt P s [] = Unit {0}
AllAt P s (i ∷ more) = P s i × AllAt P (s + slots_of i) more

pub all_moved : (P : ℕ → Insn → Type 0) (s t : ℕ) (part : List Insn) → s ≡ t → AllAt P s part → AllAt P t part
all_moved P s t part e h = subst (λ (k : ℕ). AllAt P k part) e h

pub all_join : (P : ℕ → Insn → Type 0) (s t : ℕ) (a b : List Insn) → t ≡ s + slots a → AllAt P s a → AllAt P t b → AllAt P s (a ++ b)
all_join P s t [] b e x y = let z : t ≡ s = omega (arith, e) in all_moved P t s b z y
all_join P s t (i ∷ a) b e x y = (x.0, all_join P (s + slots_of i) t a b (omega (arith, slots_more i a, e)) x.1 y)

pub all_here : (P : ℕ → Insn → Type 0) (s k : ℕ) (i : Insn) (code : List Insn) → AllAt P s code → at_slot code k ≡ Some i → P (s + k) i
all_here P s k i [] all at = absurd cc
all_here P s k i (j ∷ code) all at = elim (cases_lt k (slots_of j)) [
  | inl lt ↦
      let z : k ≡ 0 = at_inside j code k i lt at in
      let same : j ≡ i = same_insn j i (at_slot (j ∷ code) 0) (at_first j code) (ap (at_slot (j ∷ code)) (sym z) ∙ at) in
      let e : s ≡ s + k = omega (arith, z) in
      subst (λ (n : ℕ). P n i) e (subst (P s) same all.0)
  | inr le ↦
      let back : slots_of j + (k - slots_of j) ≡ k = omega arith in
      let at' : at_slot code (k - slots_of j) ≡ Some i = sym (at_past j code (k - slots_of j)) ∙ ap (at_slot (j ∷ code)) back ∙ at in
      let e : s + slots_of j + (k - slots_of j) ≡ s + k = omega arith in
      subst (λ (n : ℕ). P n i) e (all_here P (s + slots_of j) (k - slots_of j) i code all.1 at')
]
