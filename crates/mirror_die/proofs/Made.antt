-- The bytes of a mirror's pages, and a mirror just made.
use Rattle.std.proofs.Common.{◌≡◌, ℕ, zero, suc, List, [], ◌∷◌, length, get_or, Option, Some, None, refl, ap, sym, subst, ◌∙◌, arith}
use Rattle.std.specs.Prelude.{IfSome, replicate}
use Rattle.std.proofs.lemmas.List.Sums.{sum_by-cons}
use Rattle.flash_die.specs.Dies.{DieView, IsDie}
use Rattle.mirror_die.specs.Freshness.{alone, stale_of}
use Rattle.mirror_die.specs.Mirror.{MirrorView, IsMirror, FreshIsEqual, pages_of, told_pages, both_told, made_of, sum_of, seen_of}
use Rattle.mirror_die.specs.declared.freshness.Fresh.{Fresh}
use Rattle.mirror_die.specs.declared.freshness.Fresh.TheVariants.{OnBoth}
use Rattle.mirror_die.proofs.Reading.{gave_first, gave_second}

pub stale_of-replicate : (n : ℕ) → stale_of (replicate n OnBoth) ≡ 0
stale_of-replicate zero = refl
stale_of-replicate (suc n) = omega (arith, sum_by-cons alone OnBoth (replicate n OnBoth), stale_of-replicate n)

pages_of-both : (n : ℕ) (first second : List (List ℕ)) → length first ≡ n → length second ≡ n → pages_of (replicate n OnBoth) first second ≡ first
pages_of-both zero [] second f s = refl
pages_of-both zero (a ∷ first) second f s = absurd (omega arith)
pages_of-both (suc n) [] second f s = absurd (omega arith)
pages_of-both (suc n) (a ∷ first) [] f s = absurd (omega arith)
pages_of-both (suc n) (a ∷ first) (b ∷ second) f s = ap (λ (l : List (List ℕ)). a ∷ l) (pages_of-both n first second (omega arith) (omega arith))

told_both : (n : ℕ) (first second : Option (List (List ℕ))) → IfSome first (λ pages. length pages ≡ n) → IfSome second (λ pages. length pages ≡ n) → told_pages (replicate n OnBoth) first second ≡ both_told first second
told_both n (Some first) (Some second) f s = ap Some (pages_of-both n first second f s)
told_both n (Some first) None f s = refl
told_both n None second f s = refl

-- what a mirror tells that was just made
pub seen_made : (first second : DieView) (fresh : List Fresh) (n : ℕ) → first.size ≡ second.size → n ≡ first.size → IsDie first → IsDie second → fresh ≡ replicate n OnBoth → seen_of (record { first = first; second = second; fresh = fresh; faults = 0 }) ≡ made_of first second
seen_made first second fresh n sizes is is_first is_second all =
    let f : IfSome first.pages (λ pages. length pages ≡ n) = subst (λ (k : ℕ). IfSome first.pages (λ pages. length pages ≡ k)) (sym is) is_first.whole in
    let s : IfSome second.pages (λ pages. length pages ≡ n) = subst (λ (k : ℕ). IfSome second.pages (λ pages. length pages ≡ k)) (sym sizes ∙ sym is) is_second.whole in
    let pages : told_pages fresh first.pages second.pages ≡ both_told first.pages second.pages = ap (λ (l : List Fresh). told_pages l first.pages second.pages) all ∙ told_both n first.pages second.pages f s in
    λ i. record { pages = pages i; size = first.size; faults = 0; most = sum_of first.most second.most; plan = None }

-- of a told list and a told copy, the bytes of one are those of the other
pub told_bytes : (pages : Option (List (List ℕ))) (list : List (List ℕ)) (page : ℕ) (bytes : List ℕ) → pages ≡ Some list → IfSome pages (λ told. bytes ≡ get_or told page []) → bytes ≡ get_or list page []
told_bytes pages list page bytes is read = subst (λ (o : Option (List (List ℕ))). IfSome o (λ told. bytes ≡ get_or told page [])) is read

pub fresh_is_equal : (mirror : MirrorView) → IsDie mirror.first → IsDie mirror.second → IsMirror mirror → FreshIsEqual mirror
fresh_is_equal mirror is_first is_second is = record {
  first = λ pages first told copy page within on.
      let read : IfSome mirror.first.pages (λ p. get_or first page [] ≡ get_or p page []) = subst (λ (o : Option (List (List ℕ))). IfSome o (λ p. get_or first page [] ≡ get_or p page [])) (sym copy) refl in
      told_bytes (seen_of mirror).pages pages page (get_or first page []) told (gave_first mirror.fresh mirror.first.pages mirror.second.pages page mirror.first.size (get_or first page []) within is.marks is_first.whole whole on read);
  second = λ pages second told copy page within on.
      let read : IfSome mirror.second.pages (λ p. get_or second page [] ≡ get_or p page []) = subst (λ (o : Option (List (List ℕ))). IfSome o (λ p. get_or second page [] ≡ get_or p page [])) (sym copy) refl in
      told_bytes (seen_of mirror).pages pages page (get_or second page []) told (gave_second mirror.fresh mirror.first.pages mirror.second.pages page mirror.first.size (get_or second page []) within is.marks is_first.whole whole is.same on read);
}
  where
    whole : IfSome mirror.second.pages (λ pages. length pages ≡ mirror.first.size)
    whole = subst (λ (n : ℕ). IfSome mirror.second.pages (λ pages. length pages ≡ n)) is.sizes is_second.whole
