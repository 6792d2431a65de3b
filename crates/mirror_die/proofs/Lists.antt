-- The pages of a mirror as a list, when one of them changes.
use Rattle.std.proofs.Common.{◌≡◌, ℕ, zero, suc, ◌<◌, List, [], ◌∷◌, length, get_or, set, Option, Some, None, refl, ap, ◌∙◌, arith}
use Rattle.std.specs.Prelude.{IfSome}
use Rattle.std.proofs.lemmas.List.{set-get_or}
use Rattle.flash_die.specs.Dies.{with_page}
use Rattle.mirror_die.specs.Mirror.{page_of, pages_of, told_pages}
use Rattle.mirror_die.specs.declared.freshness.Fresh.{Fresh}
use Rattle.mirror_die.specs.declared.freshness.Fresh.TheVariants.{OnBoth}

pub pages_of-set : (fresh : List Fresh) (first second : List (List ℕ)) (page : ℕ) (now : Fresh) (a b : List ℕ) → pages_of (set fresh page now) (set first page a) (set second page b) ≡ set (pages_of fresh first second) page (page_of now a b)
pages_of-set [] first second page now a b = refl
pages_of-set (f ∷ fresh) [] second zero now a b = refl
pages_of-set (f ∷ fresh) [] second (suc page) now a b = refl
pages_of-set (f ∷ fresh) (x ∷ first) [] zero now a b = refl
pages_of-set (f ∷ fresh) (x ∷ first) [] (suc page) now a b = refl
pages_of-set (f ∷ fresh) (x ∷ first) (y ∷ second) zero now a b = refl
pages_of-set (f ∷ fresh) (x ∷ first) (y ∷ second) (suc page) now a b = ap (λ rest. page_of f x y ∷ rest) (pages_of-set fresh first second page now a b)

-- the page that a copy has, put back into its place
pub pages_of-kept : (fresh : List Fresh) (first second : List (List ℕ)) (page : ℕ) (now : Fresh) → page_of now (get_or first page []) (get_or second page []) ≡ page_of (get_or fresh page OnBoth) (get_or first page []) (get_or second page []) → pages_of (set fresh page now) first second ≡ pages_of fresh first second
pages_of-kept [] first second page now same = refl
pages_of-kept (f ∷ fresh) [] second zero now same = refl
pages_of-kept (f ∷ fresh) [] second (suc page) now same = refl
pages_of-kept (f ∷ fresh) (x ∷ first) [] zero now same = refl
pages_of-kept (f ∷ fresh) (x ∷ first) [] (suc page) now same = refl
pages_of-kept (f ∷ fresh) (x ∷ first) (y ∷ second) zero now same = ap (λ head. head ∷ pages_of fresh first second) same
pages_of-kept (f ∷ fresh) (x ∷ first) (y ∷ second) (suc page) now same = ap (λ rest. page_of f x y ∷ rest) (pages_of-kept fresh first second page now same)

pub get_or-pages_of : (fresh : List Fresh) (first second : List (List ℕ)) (page : ℕ) → page < length fresh → length first ≡ length fresh → length second ≡ length fresh → get_or (pages_of fresh first second) page [] ≡ page_of (get_or fresh page OnBoth) (get_or first page []) (get_or second page [])
get_or-pages_of [] first second page within f s = absurd (omega arith)
get_or-pages_of (fresh ∷ rest) [] second page within f s = absurd (omega arith)
get_or-pages_of (fresh ∷ rest) (a ∷ first) [] page within f s = absurd (omega arith)
get_or-pages_of (fresh ∷ rest) (a ∷ first) (b ∷ second) zero within f s = refl
get_or-pages_of (fresh ∷ rest) (a ∷ first) (b ∷ second) (suc page) within f s = get_or-pages_of rest first second page (omega arith) (omega arith) (omega arith)

-- one page changes on both copies
pub told_pages-with_page : (fresh : List Fresh) (first second : Option (List (List ℕ))) (page : ℕ) (now : Fresh) (a b : List ℕ) → told_pages (set fresh page now) (with_page first page a) (with_page second page b) ≡ with_page (told_pages fresh first second) page (page_of now a b)
told_pages-with_page fresh (Some first) (Some second) page now a b = ap Some (pages_of-set fresh first second page now a b)
told_pages-with_page fresh (Some first) None page now a b = refl
told_pages-with_page fresh None second page now a b = refl

-- a page that was read is put back into its place
pub with_page-read : (pages : Option (List (List ℕ))) (page : ℕ) (bytes : List ℕ) → IfSome pages (λ told. bytes ≡ get_or told page []) → with_page pages page bytes ≡ pages
with_page-read (Some pages) page bytes read = ap (λ (b : List ℕ). Some (set pages page b)) read ∙ ap Some (set-get_or pages page [])
with_page-read None page bytes read = refl
