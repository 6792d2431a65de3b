-- Code grows by an instruction.
use Rattle.std.proofs.Common.{◌≡◌, ℕ, zero, suc, ◌+◌, ◌<◌, ◌≤◌, ◌^◌, Bool, true, List, [], ◌∷◌, ◌++◌, length, take, get_or, Option, Some, None, refl, sym, ap, ◌∙◌, append_assoc, arith}
use Rattle.std.specs.Prelude.{slice_get, IsTrue, IfSome}
use Rattle.sbpf_insn.proofs.Rows.{and_left, and_right}
use Rattle.std.specs.List.{list_all}
use Rattle.std.proofs.lemmas.List.{append-nil, length-append, take_all, take_more}
use Rattle.std.proofs.lemmas.List.Folds.{list_all-append}
use Rattle.std.proofs.lemmas.Option.{slice_get-get_or}
use Rattle.sbpf_insn.specs.declared.insn.Insn.{Insn}
use Rattle.sbpf_insn.specs.declared.insn.Insn.TheVariants.{LoadWide}
use Rattle.sbpf_insn.specs.Table.{is_well_formed}
use Rattle.sbpf_insn.specs.Decoded.{slots_of}
use Rattle.sbpf_insn.specs.Ranges.{fits_fields}
use Rattle.sbpf_insn.specs.Program.{AreProper}
use Rattle.sbpf_insn.specs.Cells.{cells, cells_of, insns_of, slots, flat, at_slot, insns, IsCode}

pub insns_of-append : (xs ys : List (Option Insn)) → insns_of (xs ++ ys) ≡ insns_of xs ++ insns_of ys
insns_of-append [] ys = refl
insns_of-append (None ∷ xs) ys = insns_of-append xs ys
insns_of-append (Some i ∷ xs) ys = ap (λ (t : List Insn). i ∷ t) (insns_of-append xs ys)

pub cells-append : (a b : List Insn) → cells (a ++ b) ≡ cells a ++ cells b
cells-append [] b = refl
cells-append (i ∷ a) b = ap (λ (t : List (Option Insn)). cells_of i ++ t) (cells-append a b) ∙ sym (append_assoc (cells_of i) (cells a) (cells b))

pub insns_of-cells_of : (i : Insn) → insns_of (cells_of i) ≡ i ∷ []
insns_of-cells_of (LoadWide dst value) = refl
insns_of-cells_of _ = refl

pub length-cells_of : (i : Insn) → length (cells_of i) ≡ slots_of i
length-cells_of (LoadWide dst value) = refl
length-cells_of _ = refl

all_both : {X : Type 0} (p : X → Bool) (a b : List X) → list_all p a ≡ true → list_all p b ≡ true → list_all p (a ++ b) ≡ true
all_both p a b f g = list_all-append p a b ∙ rw (f, g) refl

-- the instructions after one more
pub grown_insns : (xs : List (Option Insn)) (i : Insn) → insns_of (xs ++ cells_of i) ≡ insns_of xs ++ i ∷ []
grown_insns xs i = insns_of-append xs (cells_of i) ∙ ap (λ (t : List Insn). insns_of xs ++ t) (insns_of-cells_of i)

pub proper_grown : (code : List Insn) (i : Insn) → AreProper code → is_well_formed i ≡ true → fits_fields i ≡ true → AreProper (code ++ i ∷ [])
proper_grown code i proper formed fit = record {
  formed = all_both is_well_formed code (i ∷ []) proper.formed (rw formed refl);
  fit = all_both fits_fields code (i ∷ []) proper.fit (rw fit refl);
}

pub grown : (xs : List (Option Insn)) (i : Insn) → IsCode xs → is_well_formed i ≡ true → fits_fields i ≡ true → length xs + slots_of i < 2 ^ 32 → IsCode (xs ++ cells_of i)
grown xs i code formed fit short = record {
  laid = rw (grown_insns xs i, cells-append (insns_of xs) (i ∷ []), code.laid, append-nil) refl;
  proper = rw (grown_insns xs i) (proper_grown (insns_of xs) i code.proper formed fit);
  short = omega (arith, length-append xs (cells_of i), length-cells_of i, short);
}

-- the slots of what was laid
pub slots_is : (xs : List (Option Insn)) → IsCode xs → slots (insns_of xs) ≡ length xs
slots_is xs code = ap length code.laid

-- an instruction other than a wide load has one slot
pub narrow_cells : (i : Insn) → slots_of i ≡ 1 → cells_of i ≡ Some i ∷ []
narrow_cells (LoadWide dst value) e = absurd cc
narrow_cells _ e = refl

-- what holds of each instruction holds of each slot's
pub all_at : (p : Insn → Bool) (xs : List (Option Insn)) (k : ℕ) (i : Insn) → list_all p (insns_of xs) ≡ true → slice_get xs k ≡ Some (Some i) → p i ≡ true
all_at p [] k i all at = absurd cc
all_at p (None ∷ xs) zero i all at = absurd cc
all_at p (None ∷ xs) (suc k) i all at = all_at p xs k i all at
all_at p (Some j ∷ xs) zero i all at = let same : j ≡ i = cc in rw (← same) (and_left (p j) (list_all p (insns_of xs)) all)
all_at p (Some j ∷ xs) (suc k) i all at = all_at p xs k i (and_right (p j) (list_all p (insns_of xs)) all) at

pub flat_is : (o : Option (Option Insn)) (i : Insn) → flat o ≡ Some i → o ≡ Some (Some i)
flat_is None i e = absurd cc
flat_is (Some o) i e = cc

pub formed_cell : (xs : List (Option Insn)) (k : ℕ) (r : Option Insn) → IsCode xs → r ≡ flat (slice_get xs k) → IfSome r (λ i. IsTrue (is_well_formed i))
formed_cell xs k None code e = tt
formed_cell xs k (Some i) code e = all_at is_well_formed xs k i code.proper.formed (flat_is (slice_get xs k) i (sym e))

pub fit_cell : (xs : List (Option Insn)) (k : ℕ) (r : Option Insn) → IsCode xs → r ≡ flat (slice_get xs k) → IfSome r (λ i. fits_fields i ≡ true)
fit_cell xs k None code e = tt
fit_cell xs k (Some i) code e = all_at fits_fields xs k i code.proper.fit (flat_is (slice_get xs k) i (sym e))

-- the instruction at a slot, by the slots
pub at_slot_is : (xs : List (Option Insn)) (code : List Insn) (k : ℕ) → IsCode xs → insns_of xs ≡ code → at_slot code k ≡ flat (slice_get xs k)
at_slot_is xs code k laid e = rw (← e, laid.laid) refl

-- the instructions of the slots of code are that code
pub insns_of-cells : (code : List Insn) → insns_of (cells code) ≡ code
insns_of-cells [] = refl
insns_of-cells (i ∷ code) = insns_of-append (cells_of i) (cells code) ∙ ap (λ (t : List Insn). t ++ insns_of (cells code)) (insns_of-cells_of i) ∙ ap (λ (t : List Insn). i ∷ t) (insns_of-cells code)

-- ---- the first k slots, as a loop over slots reads them

one_cell : (o : Option Insn) → insns_of (o ∷ []) ≡ insns o
one_cell None = refl
one_cell (Some i) = refl

flat_same : (c o : Option Insn) (g : Option (Option Insn)) → g ≡ Some c → o ≡ flat g → o ≡ c
flat_same c o g e f = f ∙ ap flat e

pub insns_of-take_more : (code : List Insn) (k : ℕ) (o : Option Insn) → k < slots code → o ≡ at_slot code k → insns_of (take (k + 1) (cells code)) ≡ insns_of (take k (cells code)) ++ insns o
insns_of-take_more code k o within at =
    let c = get_or (cells code) k None in
    let same : o ≡ c = flat_same c o (slice_get (cells code) k) (slice_get-get_or (cells code) k None within) at in
    ap insns_of (take_more (cells code) k None within) ∙ insns_of-append (take k (cells code)) (c ∷ []) ∙ ap (λ (t : List Insn). insns_of (take k (cells code)) ++ t) (one_cell c ∙ ap insns (sym same))

pub insns_of-take_all : (code : List Insn) (k : ℕ) → slots code ≤ k → insns_of (take k (cells code)) ≡ code
insns_of-take_all code k past = ap insns_of (take_all k (cells code) past) ∙ insns_of-cells code

-- code with one more instruction has its slots more
pub slots_grown : (code : List Insn) (i : Insn) → slots (code ++ i ∷ []) ≡ slots code + slots_of i
slots_grown code i = ap length (cells-append code (i ∷ [])) ∙ omega (arith, length-append (cells code) (cells (i ∷ [])), length-append (cells_of i) (cells []), length-cells_of i)
