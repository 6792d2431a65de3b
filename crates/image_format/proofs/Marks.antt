-- The bitmap: bits and the blocks that have a page.
use Rattle.std.proofs.Common.{◌≡◌, ℕ, zero, suc, ◌+◌, ◌-◌, ◌*◌, ◌<◌, List, [], ◌∷◌, ◌++◌, length, set, replicate, map, Bool, true, false, cond, eqb, Option, Some, None, Ok, ap, ◌∙◌, sym, refl, arith, add-one, ◌||◌, length-append}
use Rattle.std.specs.Prelude.{not, is_none}
use Rattle.std.specs.List.{list_any, range_with_len, find}
use Rattle.std.proofs.lemmas.Bool.{cond-true, cond-false}
use Rattle.std.proofs.lemmas.List.{append-nil, set_at, map_push, length-map, length-replicate}
use Rattle.extent_map.specs.declared.places.Place.{Place}
use Rattle.extent_map.specs.Places.{owner_of}
use Rattle.image_format.specs.declared.faults.ImageKind.TheVariants.{Bitmap}
use Rattle.image_format.specs.Faults.{fault}
use Rattle.image_format.specs.Bitmap.{is_set, is_stray, bitmap, written_in}
use Rattle.image_format.proofs.Areas.{length_range}

-- ---- stray bits

pub none_used : (b : ℕ) (ps : List Place) → is_none (owner_of b ps) ≡ not (list_any (λ u. eqb u b) (map (λ (p : Place). p.block) ps))
none_used b [] = refl
none_used b (p ∷ ps) =
    elim (eqb p.block b) as (λ (t : Bool). is_none (cond t (Some (p.file, p.page)) (owner_of b ps)) ≡ not (t || list_any (λ u. eqb u b) (map (λ (q : Place). q.block) ps))) [
      | true ↦ refl
      | false ↦ none_used b ps
    ]

pub stray_none : (used bits : List ℕ) → find (is_stray bits used) (range_with_len 0 (8 * length bits)) ≡ None → bitmap used bits ≡ Ok tt
unfolding bitmap
stray_none used bits e = rw e refl

pub stray_some : (used bits : List ℕ) (b : ℕ) → find (is_stray bits used) (range_with_len 0 (8 * length bits)) ≡ Some b → bitmap used bits ≡ fault Bitmap b
unfolding bitmap
stray_some used bits b e = rw e refl

-- ---- a search through a range

pub found_here : (p : ℕ → Bool) (a n m : ℕ) (r : Option ℕ) → n ≡ suc m → p a ≡ true → find p (range_with_len a n) ≡ r → r ≡ Some a
found_here p a n m r is here all =
    let step : find p (range_with_len a n) ≡ Some a = rw is (cond-true (p a) (Some a) (find p (range_with_len (a + 1) m)) here) in
    sym all ∙ step

pub found_later : (p : ℕ → Bool) (a n m : ℕ) (r : Option ℕ) → n ≡ suc m → p a ≡ false → find p (range_with_len a n) ≡ r → find p (range_with_len (a + 1) m) ≡ r
found_later p a n m r is here all =
    let step : find p (range_with_len a n) ≡ find p (range_with_len (a + 1) m) = rw is (cond-false (p a) (Some a) (find p (range_with_len (a + 1) m)) here) in
    sym step ∙ all

pub found_none : (p : ℕ → Bool) (a n : ℕ) (r : Option ℕ) → n ≡ 0 → find p (range_with_len a n) ≡ r → r ≡ None
found_none p a n r is all =
    let step : find p (range_with_len a n) ≡ None = rw is refl in
    sym all ∙ step

-- ---- which blocks are written

range_push : (a n : ℕ) → range_with_len a (suc n) ≡ range_with_len a n ++ (a + n) ∷ []
range_push a zero = let e : a ≡ a + 0 = omega arith in ap (λ k. k ∷ []) e
range_push a (suc n) =
    let e : a + 1 + n ≡ a + suc n = omega arith in
    ap (λ xs. a ∷ xs) (range_push (a + 1) n ∙ ap (λ k. range_with_len (a + 1) n ++ k ∷ []) e)

pub range_more : {X : Type 0} (f : ℕ → X) (n : ℕ) → map f (range_with_len 0 (n + 1)) ≡ map f (range_with_len 0 n) ++ f n ∷ []
range_more f n =
    let e : 0 + n ≡ n = omega arith in
    ap (λ k. map f (range_with_len 0 k)) (add-one n) ∙ ap (map f) (range_push 0 n ∙ ap (λ k. range_with_len 0 n ++ k ∷ []) e) ∙ map_push f (range_with_len 0 n) n

pub bits_step : (f : ℕ → Bool) (n b : ℕ) (bs : List Bool) → b < n → bs ≡ map f (range_with_len 0 b) ++ replicate (n - b) false → set bs b (f b) ≡ map f (range_with_len 0 (b + 1)) ++ replicate (n - (b + 1)) false
bits_step f n b bs lt is =
    let left : n - b ≡ suc (n - (b + 1)) = omega arith in
    let len : length (map f (range_with_len 0 b)) ≡ b = length-map (range_with_len 0 b) f ∙ length_range 0 b in
    ap (λ xs. set xs b (f b)) (is ∙ ap (λ k. map f (range_with_len 0 b) ++ replicate k false) left)
    ∙ set_at (map f (range_with_len 0 b)) false (replicate (n - (b + 1)) false) (f b) b len
    ∙ seam (map f (range_with_len 0 b)) (f b) (replicate (n - (b + 1)) false)
    ∙ ap (λ xs. xs ++ replicate (n - (b + 1)) false) (sym (range_more f b))
  where
    seam : (xs : List Bool) (x : Bool) (ys : List Bool) → xs ++ x ∷ ys ≡ (xs ++ x ∷ []) ++ ys
    seam [] x ys = refl
    seam (z ∷ zs) x ys = ap (λ r. z ∷ r) (seam zs x ys)

pub bits_within : (f : ℕ → Bool) (n b : ℕ) (bs : List Bool) → b < n → bs ≡ map f (range_with_len 0 b) ++ replicate (n - b) false → b < length bs
bits_within f n b bs lt is =
    omega (arith, ap length is, length-append (map f (range_with_len 0 b)) (replicate (n - b) false), length-map (range_with_len 0 b) f, length_range 0 b, length-replicate {A = Bool} (n - b) false)

pub bits_done : (f : ℕ → Bool) (n b : ℕ) (bs : List Bool) → n ≡ b → bs ≡ map f (range_with_len 0 b) ++ replicate (n - b) false → bs ≡ map f (range_with_len 0 n)
bits_done f n b bs all is =
    let none : n - b ≡ 0 = omega arith in
    is ∙ ap (λ k. map f (range_with_len 0 b) ++ replicate k false) none ∙ append-nil (map f (range_with_len 0 b)) ∙ ap (λ k. map f (range_with_len 0 k)) (sym all)

pub written_length : (blocks : ℕ) (bits : List ℕ) → length (written_in blocks bits) ≡ blocks
unfolding written_in
written_length blocks bits = length-map (range_with_len 0 blocks) (is_set bits) ∙ length_range 0 blocks
