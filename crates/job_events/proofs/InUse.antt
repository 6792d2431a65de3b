-- All files fill as many pages as there are places.
use Rattle.std.proofs.Common.{◌≡◌, ℕ, zero, suc, ◌+◌, ◌<◌, ◌≤◌, Bool, true, false, List, [], ◌∷◌, length, refl, sym, ap, ◌∙◌, arith}
use Rattle.std.specs.Prelude.{◌≢◌, ◌==◌, nat_lt, if◌then◌else◌, sum_by}
use Rattle.std.specs.List.{Contains}
use Rattle.std.proofs.lemmas.Bool.Decides.{nat_tests}
use Rattle.std.proofs.lemmas.List.Sums.{sum_by-cons}
use Rattle.page_base.specs.Bytes.{Pages}
use Rattle.extent_map.specs.declared.places.Place.{Place}
use Rattle.extent_map.specs.Places.{Places as Extents, IsSound, count_of, AreInOrder, free_blocks as free_of}
use Rattle.flash_die.specs.Dies.{DieView}
use Rattle.core_state.specs.Words.{EachBehind}
use Rattle.core_state.specs.State.{Shape, File, Names}
use Rattle.core_state.specs.Coherent.{Coherent}
use Rattle.core_state.specs.Placed.{HavePlaces}
use Rattle.core_stores.proofs.Free.{free_enough}
use Rattle.system_blocks.proofs.Rows.{rows, row_exact, free_same}
use Rattle.system_state.specs.Cores.{core_of}
use Rattle.system_state.specs.declared.state.State.{State}
use Rattle.call_answers.specs.Ends.{filled}
use Rattle.call_job.specs.declared.job.Job.{Job}

same_below : (m n : ℕ) → ((p : ℕ) → nat_lt p m ≡ nat_lt p n) → m ≡ n
same_below m n h =
    let a = h m in
    let b = h n in
    grind (arith, nat_tests)

-- ---- sums over files

sum_same : (g k : File → ℕ) (files : List File) → ((f : File) → Contains files f → g f ≡ k f) → sum_by g files ≡ sum_by k files
sum_same g k [] h = refl
sum_same g k (f ∷ files) h =
    let a = sum_by-cons g f files in
    let b = sum_by-cons k f files in
    let e = h f (zero, omega arith, refl) in
    let ih = sum_same g k files (λ x c. h x (let l = c.1 in (suc c.0, omega arith, c.2))) in
    omega arith

sum_zero : (files : List File) → sum_by (λ (f : File). 0) files ≡ 0
sum_zero [] = refl
sum_zero (f ∷ files) = let a = sum_by-cons (λ (x : File). 0) f files in let ih = sum_zero files in omega arith

-- a place more counts for its file alone
counted_other : (p : Place) (ps : List Place) (id : ℕ) → p.file ≢ id → count_of id (p ∷ ps) ≡ count_of id ps
counted_other p ps id n = go (p.file == id) refl
  where
    go : (t : Bool) → (p.file == id) ≡ t → (if t then count_of id ps + 1 else count_of id ps) ≡ count_of id ps
    go true e = absurd (let d : p.file ≡ id = grind (arith, nat_tests) in n d)
    go false e = refl

sum_step : (p : Place) (ps : List Place) (files : List File) → EachBehind (λ (f g : File). f.id < g.id) files → sum_by (λ (f : File). count_of f.id (p ∷ ps)) files ≤ sum_by (λ (f : File). count_of f.id ps) files + 1
sum_step p ps [] ids = omega arith
sum_step p ps (f ∷ files) ids = go (p.file == f.id) refl (sum_step p ps files ids.1)
  where
    a : sum_by (λ (x : File). count_of x.id (p ∷ ps)) (f ∷ files) ≡ count_of f.id (p ∷ ps) + sum_by (λ (x : File). count_of x.id (p ∷ ps)) files
    a = sum_by-cons (λ (x : File). count_of x.id (p ∷ ps)) f files

    b : sum_by (λ (x : File). count_of x.id ps) (f ∷ files) ≡ count_of f.id ps + sum_by (λ (x : File). count_of x.id ps) files
    b = sum_by-cons (λ (x : File). count_of x.id ps) f files

    rest_same : p.file ≡ f.id → sum_by (λ (x : File). count_of x.id (p ∷ ps)) files ≡ sum_by (λ (x : File). count_of x.id ps) files
    rest_same e = sum_same (λ (x : File). count_of x.id (p ∷ ps)) (λ (x : File). count_of x.id ps) files (λ x c. counted_other p ps x.id (λ d. let l = ids.0 x c in absurd (omega arith)))

    go : (t : Bool) → (p.file == f.id) ≡ t → sum_by (λ (x : File). count_of x.id (p ∷ ps)) files ≤ sum_by (λ (x : File). count_of x.id ps) files + 1 →
        sum_by (λ (x : File). count_of x.id (p ∷ ps)) (f ∷ files) ≤ sum_by (λ (x : File). count_of x.id ps) (f ∷ files) + 1
    go true e ih =
        let d : p.file ≡ f.id = grind (arith, nat_tests) in
        let r = rest_same d in
        let n : count_of f.id (p ∷ ps) ≡ count_of f.id ps + 1 = ap (λ (t : Bool). if t then count_of f.id ps + 1 else count_of f.id ps) e in
        let u = a in
        let v = b in
        omega arith
    go false e ih =
        let n : count_of f.id (p ∷ ps) ≡ count_of f.id ps = ap (λ (t : Bool). if t then count_of f.id ps + 1 else count_of f.id ps) e in
        let u = a in
        let v = b in
        omega arith

sum_counts : (files : List File) (ps : List Place) → EachBehind (λ (f g : File). f.id < g.id) files → sum_by (λ (f : File). count_of f.id ps) files ≤ length ps
sum_counts files [] ids = let z = sum_zero files in omega arith
sum_counts files (p ∷ ps) ids = let s = sum_step p ps files ids in let ih = sum_counts files ps ids in omega arith

-- ---- all files

pages_counted : (shape : Shape) (names : Names) (ps : List Place) → AreInOrder ps → HavePlaces shape names (rows ps) → (f : File) → Contains names.files f → Pages f.len ≡ count_of f.id ps
pages_counted shape names ps order have f c = same_below (Pages f.len) (count_of f.id ps) (λ p. sym (have.exact f c p) ∙ row_exact f.id p ps order)

-- the number of pages that all files fill is that of the blocks that aren't free
pub filled_is : (shape : Shape) (names : Names) (ps : List Place) → AreInOrder ps → EachBehind (λ (f g : File). f.id < g.id) names.files → HavePlaces shape names (rows ps) →
    length (free_of (record { blocks = shape.blocks; placed = ps })) + length ps ≡ shape.blocks → length ps ≡ filled names.files
filled_is shape names ps order ids have rest =
    let a = sum_counts names.files ps ids in
    let b = sum_same (λ (f : File). Pages f.len) (λ (f : File). count_of f.id ps) names.files (pages_counted shape names ps order have) in
    let d = free_enough shape names (rows ps) in
    let e = ap length (free_same shape names ps order have) in
    omega arith

-- of a state whose core is coherent
pub in_use_is : {D : Type 0} (seen : D → DieView) (s : State D Job) (n : ℕ) → Coherent (core_of seen s) → s.meta.extents.blocks ≡ s.sizes.blocks → IsSound s.meta.extents →
    n ≡ length s.meta.extents.placed → length (free_of s.meta.extents) + n ≡ s.meta.extents.blocks → n ≡ filled (core_of seen s).names.files
in_use_is {D} seen s n h blocks sound is rest =
    let c = core_of seen s in
    let ps = s.meta.extents.placed in
    let e : s.meta.extents ≡ record { blocks = c.shape.blocks; placed = ps } = ap (λ (m : ℕ). let w : Extents = record { blocks = m; placed = ps } in w) blocks in
    let k = ap (λ (x : Extents). length (free_of x)) e in
    is ∙ filled_is c.shape c.names ps sound.order h.placed.named.ids h.placed.have (omega arith)
