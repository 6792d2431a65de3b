-- Steps of the two caches.
use Rattle.std.proofs.Common.{◌≡◌, ℕ, ◌<◌, ◌≤◌, Bool, true, false, List, [], ◌∷◌, ◌++◌, length, set, Option, Some, None, refl, sym, ap, ◌∙◌, subst, arith}
use Rattle.std.proofs.lemmas.List.{set-get_or, set-set}
use Rattle.std.specs.Prelude.{◌==◌, is_some, not}
use Rattle.std.proofs.lemmas.Bool.Decides.{nat_tests}
use Rattle.page_base.specs.Bytes.{zero_page, cleared_from}
use Rattle.index_lists.specs.Words.{one_if, count, without, last}
use Rattle.index_lists.specs.Lists.{Lists, list_at, with_list}
use Rattle.index_lists.proofs.Counts.{without-absent, count-without_same, length-without}
use Rattle.page_cache.specs.Cached.{Cached, copy_at, with_page, without_page}
use Rattle.coherence.specs.Changes.{page_or}

pub absent_of : (b : ℕ) (xs : List ℕ) (t : Bool) → t ≡ not (count b xs == 0) → t ≡ false → count b xs ≡ 0
absent_of b xs t e f = grind (arith, nat_tests)

pub last_absent : (s new : Lists) (b : ℕ) → count b (list_at s 0) ≡ 0 → new ≡ with_list s 0 (list_at s 0 ++ b ∷ []) → new ≡ with_list s 0 (last b (list_at s 0))
last_absent s new b k e = e ∙ ap (λ (xs : List ℕ). with_list s 0 (xs ++ b ∷ [])) (sym (without-absent b (list_at s 0) k))

pub same_without : (s : Lists) (b : ℕ) → count b (list_at s 0) ≡ 0 → s ≡ with_list s 0 (without b (list_at s 0))
same_without s b k = ap (λ (ys : List (List ℕ)). let t : Lists = record s { lists = ys } in t) (sym (set-get_or s.lists 0 [])) ∙ ap (with_list s 0) (sym (without-absent b (list_at s 0) k))

none_of : (o : Option (List ℕ)) → is_some o ≡ false → o ≡ None
none_of None e = refl
none_of (Some p) e = absurd cc

as_cached : ℕ → List (Option (List ℕ)) → List ℕ → Cached
as_cached frames copies order = record { frames = frames; copies = copies; order = order }

same_cached : (m : ℕ) (xs ys : List (Option (List ℕ))) (os ps : List ℕ) → xs ≡ ys → os ≡ ps → as_cached m xs os ≡ as_cached m ys ps
same_cached m xs ys os ps b e = cc

-- a cache without a copy of the block stays as it is
pub without_none : (s : Cached) (b : ℕ) (t : Bool) → t ≡ is_some (copy_at s b) → count b s.order ≡ one_if t → t ≡ false → s ≡ without_page s b
unfolding as_cached
without_none s b t e k f =
    let none : copy_at s b ≡ None = none_of (copy_at s b) (sym e ∙ f) in
    let z : count b s.order ≡ 0 = k ∙ ap one_if f in
    same_cached s.frames _ _ _ _ (sym (ap (set s.copies b) (sym none) ∙ set-get_or s.copies b None)) (sym (without-absent b s.order z))

pub room_without : (s new : Cached) (b : ℕ) (t : Bool) → new ≡ without_page s b → count b s.order ≡ one_if t → t ≡ true → length s.order ≤ s.frames → length new.order < new.frames
room_without s new b t e k f l =
    let z : count b s.order ≡ 1 = k ∙ ap one_if f in
    subst (λ (v : Cached). length v.order < v.frames) (sym e) (omega (arith, length-without b s.order))

-- a new copy in place of the old one
pub with_without : (s mid new : Cached) (b : ℕ) (page : List ℕ) → mid ≡ without_page s b → new ≡ with_page mid b page → new ≡ with_page s b page
unfolding as_cached
with_without s mid new b page e f =
    f ∙ ap (λ (v : Cached). with_page v b page) e
    ∙ same_cached s.frames _ _ _ _ (set-set s.copies b None (Some page)) (ap (λ (xs : List ℕ). xs ++ b ∷ []) (without-absent b (without b s.order) (count-without_same b s.order)))

pub cleared : (page new : List ℕ) → new ≡ cleared_from page 0 → new ≡ zero_page
unfolding zero_page
cleared page new e = e

-- what was read
pub read_first : (o : Option (List ℕ)) (page rest : List ℕ) → o ≡ Some page → page ≡ page_or o rest
read_first o page rest e = ap (λ (w : Option (List ℕ)). page_or w rest) (sym e)

pub read_second : (o q : Option (List ℕ)) (t : Bool) (page rest : List ℕ) → t ≡ is_some o → t ≡ false → q ≡ Some page → page ≡ page_or o (page_or q rest)
read_second o q t page rest e f g = ap (λ (w : Option (List ℕ)). page_or w rest) (sym g) ∙ ap (λ (w : Option (List ℕ)). page_or w (page_or q rest)) (sym (none_of o (sym e ∙ f)))

pub read_none : (o q : Option (List ℕ)) (t u : Bool) (page new : List ℕ) → t ≡ is_some o → t ≡ false → u ≡ is_some q → u ≡ false → new ≡ cleared_from page 0 → new ≡ page_or o (page_or q zero_page)
read_none o q t u page new e f g h c =
    cleared page new c ∙ ap (λ (w : Option (List ℕ)). page_or w zero_page) (sym (none_of q (sym g ∙ h))) ∙ ap (λ (w : Option (List ℕ)). page_or w (page_or q zero_page)) (sym (none_of o (sym e ∙ f)))
