-- The blocks of a span take new pages, and the blocks of other spans stay.
use Rattle.std.proofs.Common.{◌≡◌, ℕ, zero, suc, ◌-◌, ◌<◌, ◌≤◌, Bool, true, false, List, [], ◌∷◌, Option, Some, None, refl, sym, ap, subst, inl, inr, arith}
use Rattle.std.specs.Prelude.{◌⊎◌, ◌==◌, nat_lt, if◌then◌else◌}
use Rattle.std.specs.List.{slice_get}
use mathlib.Core.Path.{fun_ext}
use Rattle.std.proofs.lemmas.Bool.Decides.{nat_tests}
use Rattle.dispatcher.specs.declared.side.Side.{Side}
use Rattle.index_lists.specs.Words.{count}
use Rattle.index_lists.proofs.Counts.{count-here, count-tail}
use Rattle.core_quick.specs.Words.{is_at, or_else, first_to}
use Rattle.core_quick.specs.State.{Page, Block, Places}
use Rattle.core_quick.specs.Contents.{flashes}
use Rattle.core_quick.specs.Resizing.{page_between, new_places}
use Rattle.core_quick.specs.EndEvent.{installed_at, with_span}
use Rattle.core_quick.proofs.Words.{low, high}

none_else : (n : ℕ) (o : Option ℕ) (t : Bool) → o ≡ None → t ≡ false → or_else o (if t then Some n else None) ≡ None
none_else n o true e f = absurd (cc)
none_else n o false e f = ap (λ (w : Option ℕ). or_else w None) e

first_none : (n : ℕ) (test : ℕ → Bool) → ((i : ℕ) → i < n → test i ≡ false) → first_to n test ≡ None
unfolding first_to
first_none zero test h = refl
first_none (suc n) test h = none_else n (first_to n test) (test n) (first_none n test (λ i l. h i (omega arith))) (h n (omega arith))

not_at : (o : Option ℕ) (b : ℕ) → (o ≡ Some b → ⊥) → is_at o b ≡ false
not_at None b h = refl
not_at (Some i) b h = go (i == b) refl
  where
    go : (t : Bool) → (i == b) ≡ t → t ≡ false
    go true e = let s : i ≡ b = grind (arith, nat_tests) in absurd (h (ap (λ (k : ℕ). Some k) s))
    go false e = refl

pub span_stays : (side : Side) (n : ℕ) (at : ℕ → Option ℕ) (page : ℕ → Page) (blocks : ℕ → Block) (b : ℕ) → ((i : ℕ) → i < n → at i ≡ Some b → ⊥) → with_span side n at page blocks b ≡ blocks b
span_stays side n at page blocks b h = ap (λ (o : Option ℕ). installed_at side page o (blocks b)) (first_none n (λ i. is_at (at i) b) (λ i l. not_at (at i) b (h i l)))

pub span_flashes : (side : Side) (n : ℕ) (at : ℕ → Option ℕ) (page : ℕ → Page) (blocks : ℕ → Block) → flashes (with_span side n at page blocks) ≡ flashes blocks
span_flashes side n at page blocks = fun_ext (λ b. go b (first_to n (λ i. is_at (at i) b)))
  where
    go : (b : ℕ) (o : Option ℕ) → (installed_at side page o (blocks b)).flash ≡ (blocks b).flash
    go b None = refl
    go b (Some i) = refl

-- ---- a file's new pages

pub fresh_listed : (xs : List ℕ) (k b : ℕ) → slice_get xs k ≡ Some b → 0 < count b xs
fresh_listed [] k b e = absurd (cc)
fresh_listed (x ∷ xs) zero b e = let s : x ≡ b = cc in let k : 0 < count b (b ∷ xs) = omega (arith, count-here b xs) in subst (λ (z : ℕ). 0 < count b (z ∷ xs)) (sym s) k
fresh_listed (x ∷ xs) (suc k) b e = let l = fresh_listed xs k b e in omega (arith, count-tail b x xs)

same_id : (id : ℕ) → (id == id) ≡ true
same_id id = grind (arith, nat_tests)

pub own_place : (places : Places) (id : ℕ) (fresh : List ℕ) (from to p : ℕ) → new_places places id fresh from to id p ≡ page_between (places id) fresh from to p
own_place places id fresh from to p = ap (λ (t : Bool). if t then page_between (places id) fresh from to p else places id p) (same_id id)

-- a page that neither comes nor goes
pub page_stays : (row : ℕ → Option ℕ) (fresh : List ℕ) (from to p : ℕ) → (from ≤ p → p < to → ⊥) → (to ≤ p → p < from → ⊥) → (from ≤ p → row p ≡ None) → page_between row fresh from to p ≡ row p
page_stays row fresh from to p comes goes past = go (nat_lt p to) (nat_lt p from) refl refl
  where
    go : (t u : Bool) → nat_lt p to ≡ t → nat_lt p from ≡ u → (if t then (if u then row p else slice_get fresh (p - from)) else None) ≡ row p
    go true true e f = refl
    go true false e f = absurd (comes (high p from f) (low p to e))
    go false true e f = absurd (goes (high p to e) (low p from f))
    go false false e f = sym (past (high p from f))

-- a block of a new page was the file's there, or is fresh
pub page_was : (row : ℕ → Option ℕ) (fresh : List ℕ) (from to p b : ℕ) → page_between row fresh from to p ≡ Some b → (row p ≡ Some b) ⊎ (slice_get fresh (p - from) ≡ Some b)
page_was row fresh from to p b e = go (nat_lt p to) (nat_lt p from) e
  where
    go : (t u : Bool) → (if t then (if u then row p else slice_get fresh (p - from)) else None) ≡ Some b → (row p ≡ Some b) ⊎ (slice_get fresh (p - from) ≡ Some b)
    go true true f = inl f
    go true false f = inr f
    go false u f = absurd (cc)
