-- The bitmap and the data blocks that are written are read again.
use Rattle.std.proofs.Common.{◌≡◌, ℕ, zero, suc, ◌+◌, ◌*◌, ◌/◌, ◌%◌, ◌^◌, ◌<◌, ◌≤◌, List, [], ◌∷◌, length, take, get_or, map, Bool, true, false, eqb, Some, None, Ok, ap, ◌∙◌, sym, refl, arith, inl, inr, ◌||◌}
use Rattle.std.specs.Prelude.{not, ◌&&◌}
use Rattle.std.specs.List.{list_any, range_with_len, find, flat_map, AllByRecursion}
use Rattle.std.proofs.lemmas.Bool.{cond-false, cases_lt}
use Rattle.std.proofs.lemmas.List.{drop_all, get_or_past, take_at, length-map}
use Rattle.std.proofs.Math.Nat.{zero-div}
use Rattle.extent_map.specs.declared.places.Place.{Place}
use Rattle.extent_map.specs.Places.{is_used}
use Rattle.image_format.specs.Numbers.{part}
use Rattle.image_format.specs.Layout.{bit_pages}
use Rattle.image_format.specs.Bitmap.{is_set, is_stray, bitmap}
use Rattle.image_format.specs.Tails.{data_page}
use Rattle.image_format.specs.Encoding.{one_if, bit, byte_from, bits_part}
use Rattle.image_format.specs.Whole.{block_at}
use Rattle.image_format.proofs.Areas.{length_range, part_right}
use Rattle.image_format.proofs.Marks.{stray_none}

-- ---- one bit

record Eight (a b c d e f g h : ℕ) : Type 0 where
  pub zero_th : (a + 2 * b + 4 * c + 8 * d + 16 * e + 32 * f + 64 * g + 128 * h) / 1 % 2 ≡ a
  pub first : (a + 2 * b + 4 * c + 8 * d + 16 * e + 32 * f + 64 * g + 128 * h) / 2 % 2 ≡ b
  pub second : (a + 2 * b + 4 * c + 8 * d + 16 * e + 32 * f + 64 * g + 128 * h) / 4 % 2 ≡ c
  pub third : (a + 2 * b + 4 * c + 8 * d + 16 * e + 32 * f + 64 * g + 128 * h) / 8 % 2 ≡ d
  pub fourth : (a + 2 * b + 4 * c + 8 * d + 16 * e + 32 * f + 64 * g + 128 * h) / 16 % 2 ≡ e
  pub fifth : (a + 2 * b + 4 * c + 8 * d + 16 * e + 32 * f + 64 * g + 128 * h) / 32 % 2 ≡ f
  pub sixth : (a + 2 * b + 4 * c + 8 * d + 16 * e + 32 * f + 64 * g + 128 * h) / 64 % 2 ≡ g
  pub seventh : (a + 2 * b + 4 * c + 8 * d + 16 * e + 32 * f + 64 * g + 128 * h) / 128 % 2 ≡ h

eight : (a b c d e f g h : ℕ) → a ≤ 1 → b ≤ 1 → c ≤ 1 → d ≤ 1 → e ≤ 1 → f ≤ 1 → g ≤ 1 → h ≤ 1 → Eight a b c d e f g h
eight a b c d e f g h pa pb pc pd pe pf pg ph =
    record { zero_th = omega arith; first = omega arith; second = omega arith; third = omega arith; fourth = omega arith; fifth = omega arith; sixth = omega arith; seventh = omega arith }

one_small : (b : Bool) → one_if b ≤ 1
one_small true = omega arith
one_small false = omega arith

one_is : (b : Bool) → eqb (one_if b) 1 ≡ b
one_is true = refl
one_is false = refl

all : (w : List Bool) (c : ℕ) → Eight (bit w c) (bit w (c + 1)) (bit w (c + 2)) (bit w (c + 3)) (bit w (c + 4)) (bit w (c + 5)) (bit w (c + 6)) (bit w (c + 7))
all w c =
    eight (bit w c) (bit w (c + 1)) (bit w (c + 2)) (bit w (c + 3)) (bit w (c + 4)) (bit w (c + 5)) (bit w (c + 6)) (bit w (c + 7))
    (one_small (get_or w c false)) (one_small (get_or w (c + 1) false)) (one_small (get_or w (c + 2) false)) (one_small (get_or w (c + 3) false)) (one_small (get_or w (c + 4) false)) (one_small (get_or w (c + 5) false)) (one_small (get_or w (c + 6) false)) (one_small (get_or w (c + 7) false))

bit_of : (w : List Bool) (c r : ℕ) → r < 8 → eqb (byte_from w c / 2 ^ r % 2) 1 ≡ get_or w (c + r) false
bit_of w c zero lt = let k : c ≡ c + 0 = omega arith in ap (λ n. eqb n 1) (all w c).zero_th ∙ one_is (get_or w c false) ∙ ap (λ i. get_or w i false) k
bit_of w c (suc zero) lt = ap (λ n. eqb n 1) (all w c).first ∙ one_is (get_or w (c + 1) false)
bit_of w c (suc (suc zero)) lt = ap (λ n. eqb n 1) (all w c).second ∙ one_is (get_or w (c + 2) false)
bit_of w c (suc (suc (suc zero))) lt = ap (λ n. eqb n 1) (all w c).third ∙ one_is (get_or w (c + 3) false)
bit_of w c (suc (suc (suc (suc zero)))) lt = ap (λ n. eqb n 1) (all w c).fourth ∙ one_is (get_or w (c + 4) false)
bit_of w c (suc (suc (suc (suc (suc zero))))) lt = ap (λ n. eqb n 1) (all w c).fifth ∙ one_is (get_or w (c + 5) false)
bit_of w c (suc (suc (suc (suc (suc (suc zero)))))) lt = ap (λ n. eqb n 1) (all w c).sixth ∙ one_is (get_or w (c + 6) false)
bit_of w c (suc (suc (suc (suc (suc (suc (suc zero))))))) lt = ap (λ n. eqb n 1) (all w c).seventh ∙ one_is (get_or w (c + 7) false)
bit_of w c (suc (suc (suc (suc (suc (suc (suc (suc r)))))))) lt = absurd (omega arith)

get_range : (g : ℕ → ℕ) (a n j : ℕ) → j < n → get_or (map g (range_with_len a n)) j 0 ≡ g (a + j)
get_range g a zero j lt = absurd (omega arith)
get_range g a (suc n) zero lt = let e : a ≡ a + 0 = omega arith in ap g e
get_range g a (suc n) (suc j) lt = let e : a + 1 + j ≡ a + suc j = omega arith in get_range g (a + 1) n j (omega arith) ∙ ap g e

none_past : (b : ℕ) → eqb (0 / 2 ^ (b % 8) % 2) 1 ≡ false
none_past b = ap (λ n. eqb (n % 2) 1) (zero-div (2 ^ (b % 8)))

-- the bit of a block is whether it is written
pub is_set_again : (blocks : ℕ) (w : List Bool) (b : ℕ) → length w ≤ blocks → is_set (bits_part blocks w) b ≡ get_or w b false
unfolding bits_part
is_set_again blocks w b len =
    let n = 4096 * bit_pages blocks in
    let bytes = map (λ i. byte_from w (8 * i)) (range_with_len 0 n) in
    elim (cases_lt (b / 8) n) [
      | inl lt ↦
          let e : 0 + b / 8 ≡ b / 8 = omega arith in
          let place : 8 * (b / 8) + b % 8 ≡ b = omega arith in
          ap (λ byte. eqb (byte / 2 ^ (b % 8) % 2) 1) (get_range (λ i. byte_from w (8 * i)) 0 n (b / 8) lt ∙ ap (λ i. byte_from w (8 * i)) e)
          ∙ bit_of w (8 * (b / 8)) (b % 8) (omega arith) ∙ ap (λ i. get_or w i false) place
      | inr le ↦
          let past : get_or bytes (b / 8) 0 ≡ 0 = get_or_past bytes (b / 8) 0 (omega (arith, length-map (range_with_len 0 n) (λ i. byte_from w (8 * i)), length_range 0 n)) in
          ap (λ byte. eqb (byte / 2 ^ (b % 8) % 2) 1) past ∙ none_past b ∙ sym (get_or_past w b false (omega arith))
    ]

-- ---- no bit is stray

find_none : (p : ℕ → Bool) (a n : ℕ) → ((k : ℕ) → p k ≡ false) → find p (range_with_len a n) ≡ None
find_none p a zero none = refl
find_none p a (suc n) none = cond-false (p a) (Some a) (find p (range_with_len (a + 1) n)) (none a) ∙ find_none p (a + 1) n none

pub used_any : (b : ℕ) (ps : List Place) → is_used b ps ≡ list_any (λ x. eqb x b) (map (λ (p : Place). p.block) ps)
used_any b [] = refl
used_any b (p ∷ ps) = ap (λ t. eqb p.block b || t) (used_any b ps)

pub bitmap_again : (blocks : ℕ) (w : List Bool) (ps : List Place) → length w ≤ blocks → ((b : ℕ) → get_or w b false ≡ true → is_used b ps ≡ true) → bitmap (map (λ (p : Place). p.block) ps) (bits_part blocks w) ≡ Ok tt
bitmap_again blocks w ps len used =
    stray_none (map (λ (p : Place). p.block) ps) (bits_part blocks w) (find_none (is_stray (bits_part blocks w) (map (λ (p : Place). p.block) ps)) 0 (8 * length (bits_part blocks w)) none)
  where
    by_test : (b : ℕ) (t : Bool) → get_or w b false ≡ t → (t && not (list_any (λ u. eqb u b) (map (λ (p : Place). p.block) ps))) ≡ false
    by_test b false e = refl
    by_test b true e = ap not (sym (used_any b ps) ∙ used b e)

    none : (b : ℕ) → is_stray (bits_part blocks w) (map (λ (p : Place). p.block) ps) b ≡ false
    none b = ap (λ t. t && not (list_any (λ u. eqb u b) (map (λ (p : Place). p.block) ps))) (is_set_again blocks w b len) ∙ by_test b (get_or w b false) refl

-- ---- data blocks

abbrev nil : List ℕ
nil = []

past_end : (b : ℕ) → part nil (4096 * b) 4096 ≡ nil
past_end b = ap (take 4096) (drop_all (4096 * b) nil (omega arith))

pub block_again : (body : List (List ℕ)) (b : ℕ) → AllByRecursion (λ (page : List ℕ). length page ≡ 4096) body → data_page (flat_map (λ page. page) body) b ≡ block_at body b
block_again [] b whole = past_end b
block_again (page ∷ pages) zero whole = take_at page (flat_map (λ p. p) pages) 4096 whole.0
block_again (page ∷ pages) (suc b) whole =
    let at : 4096 * suc b ≡ length page + 4096 * b = omega (arith, whole.0) in
    part_right page (flat_map (λ p. p) pages) (4096 * suc b) (4096 * b) 4096 at ∙ block_again pages b whole.1

-- ---- the ends

pub find_all : {X : Type 0} (p : X → Bool) (xs : List X) → AllByRecursion (λ x. p x ≡ false) xs → find p xs ≡ None
find_all p [] all = refl
find_all p (x ∷ xs) all = cond-false (p x) (Some x) (find p xs) all.0 ∙ find_all p xs all.1
