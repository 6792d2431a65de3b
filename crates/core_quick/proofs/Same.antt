-- A file that keeps its number of pages keeps its blocks.
use Rattle.std.proofs.Common.{◌≡◌, ℕ, ◌+◌, ◌-◌, Bool, true, false, List, [], ◌++◌, take, Option, Some, None, refl, sym, ap, ◌∙◌, arith}
use Rattle.std.specs.Prelude.{◌==◌, nat_lt, is_some, if◌then◌else◌}
use Rattle.std.specs.List.{slice_get}
use Rattle.std.proofs.lemmas.Bool.Decides.{nat_tests}
use mathlib.Core.Path.{fun_ext}
use Rattle.index_lists.proofs.Counts.{count-nil}
use Rattle.core_lanes.specs.Words.{listed_to, is_in, without_all}
use Rattle.core_lanes.specs.State.{Block, Places, Core}
use Rattle.core_lanes.specs.Resizing.{free_blocks, blocks_between, page_between, new_places, renewed, renewed_in, exchanged, resized}

-- nothing is listed of no numbers
listed_none : (row : ℕ → Option ℕ) (n : ℕ) → n ≡ 0 → listed_to n row ≡ []
unfolding listed_to
listed_none row n e = ap (λ (k : ℕ). listed_to k row) e

no_gone : (places : Places) (id n : ℕ) → blocks_between places id n n ≡ []
no_gone places id n = listed_none (λ j. places id (n + j)) (n - n) (omega arith)

no_fresh : (xs : List ℕ) (n : ℕ) → take (n - n) xs ≡ []
no_fresh xs n = let e : n - n ≡ 0 = omega arith in ap (λ (k : ℕ). take k xs) e

-- a page is where it was
same_page : (row : ℕ → Option ℕ) (n p : ℕ) → is_some (row p) ≡ nat_lt p n → page_between row [] n n p ≡ row p
same_page row n p e = go (nat_lt p n) (row p) e
  where
    go : (t : Bool) (o : Option ℕ) → is_some o ≡ t → (if t then (if t then o else slice_get [] (p - n)) else None) ≡ o
    go true o e = refl
    go false None e = refl
    go false (Some b) e = absurd (cc)

same_places : (places : Places) (id n : ℕ) → ((p : ℕ) → is_some (places id p) ≡ nat_lt p n) → new_places places id [] n n ≡ places
same_places places id n exact = fun_ext (λ f. fun_ext (λ p. go f p (f == id) refl))
  where
    go : (f p : ℕ) (t : Bool) → (f == id) ≡ t → (if t then page_between (places id) [] n n p else places f p) ≡ places f p
    go f p true e = let s : f ≡ id = grind (arith, nat_tests) in same_page (places id) n p (exact p) ∙ ap (λ (k : ℕ). places k p) (sym s)
    go f p false e = refl

same_blocks : (blocks : ℕ → Block) → renewed_in ([] ++ []) blocks ≡ blocks
same_blocks blocks = fun_ext (λ b. go b (is_in b []) (ap (λ (n : ℕ). nat_lt 0 n) (count-nil b)))
  where
    go : (b : ℕ) (t : Bool) → t ≡ false → (if t then renewed (blocks b) else blocks b) ≡ blocks b
    go b true e = absurd (cc)
    go b false e = refl

without_none : (xs : List ℕ) → without_all [] xs ≡ xs
unfolding without_all
without_none xs = refl

unchanged : (c : Core) (id n : ℕ) → ((p : ℕ) → is_some (c.places id p) ≡ nat_lt p n) → exchanged c id [] [] n n ≡ c
unchanged c id n exact =
    let a = same_places c.places id n exact in
    let b = same_blocks c.blocks in
    let h = without_none c.host_order in
    let d = without_none c.drive_order in
    let u = without_none c.unclean in
    λ i. record c { places = a i; blocks = b i; host_order = h i; drive_order = d i; unclean = u i }

-- a file of so many pages, that has as many
pub resized_same : (c : Core) (id n : ℕ) → ((p : ℕ) → is_some (c.places id p) ≡ nat_lt p n) → resized c id n n ≡ c
resized_same c id n exact =
    ap (λ (gone : List ℕ). exchanged c id gone (take (n - n) (free_blocks c.shape c.names.files c.places)) n n) (no_gone c.places id n)
    ∙ (ap (λ (fresh : List ℕ). exchanged c id [] fresh n n) (no_fresh (free_blocks c.shape c.names.files c.places) n) ∙ unchanged c id n exact)
