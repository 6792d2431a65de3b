-- The law of a mirror as a die, and its proof. This project's own.
use Rattle.std.proofs.Common.{◌≡◌, ℕ, zero, suc, ◌+◌, ◌<◌, ◌≤◌, List, [], ◌∷◌, length, get_or, Option, Some, None, refl, ap, subst, arith}
use Rattle.std.specs.Prelude.{IfSome}
use Rattle.flash_die.specs.Dies.{AreWhole, IsDie}
use Rattle.mirror_die.specs.Mirror.{MirrorView, IsMirror, page_of, pages_of, told_pages, sum_of, seen_of}
use Rattle.mirror_die.specs.declared.freshness.Fresh.{Fresh}
use Rattle.mirror_die.specs.declared.freshness.Fresh.TheVariants.{OnBoth, OnFirst, OnSecond}

-- as many pages as the copies have
pub length-pages_of : (fresh : List Fresh) (first second : List (List ℕ)) → length first ≡ length fresh → length second ≡ length fresh → length (pages_of fresh first second) ≡ length fresh
length-pages_of [] first second f s = refl
length-pages_of (fresh ∷ rest) [] second f s = absurd (omega arith)
length-pages_of (fresh ∷ rest) (a ∷ first) [] f s = absurd (omega arith)
length-pages_of (fresh ∷ rest) (a ∷ first) (b ∷ second) f s = ap suc (length-pages_of rest first second (omega arith) (omega arith))

told_whole : (fresh : List Fresh) (first second : Option (List (List ℕ))) (size : ℕ) → length fresh ≡ size → IfSome first (λ pages. length pages ≡ size) → IfSome second (λ pages. length pages ≡ size) → IfSome (told_pages fresh first second) (λ pages. length pages ≡ size)
told_whole fresh (Some first) (Some second) size all f s = grind (arith, length-pages_of)
told_whole fresh (Some first) None size all f s = tt
told_whole fresh None second size all f s = tt

-- each page is a copy's
page_of-whole : (fresh : Fresh) (first second : List ℕ) → length first ≡ 4096 → length second ≡ 4096 → length (page_of fresh first second) ≡ 4096
page_of-whole OnBoth first second f s = f
page_of-whole OnFirst first second f s = f
page_of-whole OnSecond first second f s = s

pages_of-whole : (fresh : List Fresh) (first second : List (List ℕ)) → AreWhole first → AreWhole second → (k : ℕ) (d : List ℕ) → k < length (pages_of fresh first second) → length (get_or (pages_of fresh first second) k d) ≡ 4096
pages_of-whole [] first second f s k d within = absurd (omega (arith, within))
pages_of-whole (fresh ∷ rest) [] second f s k d within = absurd (omega (arith, within))
pages_of-whole (fresh ∷ rest) (a ∷ first) [] f s k d within = absurd (omega (arith, within))
pages_of-whole (fresh ∷ rest) (a ∷ first) (b ∷ second) f s zero d within = page_of-whole fresh a b (f 0 d (omega arith)) (s 0 d (omega arith))
pages_of-whole (fresh ∷ rest) (a ∷ first) (b ∷ second) f s (suc k) d within =
    pages_of-whole rest first second (λ j e under. f (suc j) e (omega (arith, under))) (λ j e under. s (suc j) e (omega (arith, under))) k d (omega (arith, within))

told_each_whole : (fresh : List Fresh) (first second : Option (List (List ℕ))) → IfSome first AreWhole → IfSome second AreWhole → IfSome (told_pages fresh first second) AreWhole
told_each_whole fresh (Some first) (Some second) f s = pages_of-whole fresh first second f s
told_each_whole fresh (Some first) None f s = tt
told_each_whole fresh None second f s = tt

sum_bounded : (first second : Option ℕ) (faults a b : ℕ) → faults ≤ a + b → IfSome first (λ most. a ≤ most) → IfSome second (λ most. b ≤ most) → IfSome (sum_of first second) (λ most. faults ≤ most)
sum_bounded (Some first) (Some second) faults a b caused f s = omega arith
sum_bounded (Some first) None faults a b caused f s = tt
sum_bounded None second faults a b caused f s = tt

pub sound_mirror : (mirror : MirrorView) → IsDie mirror.first → IsDie mirror.second → IsMirror mirror → IsDie (seen_of mirror)
sound_mirror mirror first second is = record {
  whole = told_whole mirror.fresh mirror.first.pages mirror.second.pages mirror.first.size is.marks first.whole (subst (λ (n : ℕ). IfSome mirror.second.pages (λ pages. length pages ≡ n)) is.sizes second.whole);
  each_whole = told_each_whole mirror.fresh mirror.first.pages mirror.second.pages first.each_whole second.each_whole;
  bounded = sum_bounded mirror.first.most mirror.second.most mirror.faults mirror.first.faults mirror.second.faults is.caused first.bounded second.bounded;
  planned = tt;
}
