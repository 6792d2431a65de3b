-- A call of a mirror is one of a die, and leaves a mirror.
use Rattle.std.proofs.Common.{◌≡◌, ◌≢◌, ℕ, ◌+◌, ◌^◌, ◌<◌, ◌≤◌, Bool, true, false, List, [], length, get_or, set, Option, Some, None, refl, ap, sym, subst, ◌∙◌, ⊎_elim, arith}
use Rattle.std.specs.Prelude.{IfSome, IsSomeAnd, ◌⊎◌, replicate}
use Rattle.std.proofs.Math.ListN.{length-replicate}
use Rattle.std.proofs.lemmas.List.{get_or-set_same, get_or-set_other, length-set}
use Rattle.flash_die.specs.Dies.{DieView, IsDie, WentWrite, with_page}
use Rattle.mirror_die.specs.Mirror.{MirrorView, AreEqual, IsMirror, TellsMost, page_of, told_pages, sum_of, seen_of}
use Rattle.mirror_die.specs.Calls.{counted}
use Rattle.mirror_die.specs.declared.freshness.Fresh.{Fresh}
use Rattle.mirror_die.specs.declared.freshness.Fresh.TheVariants.{OnBoth, OnFirst}
use Rattle.mirror_die.proofs.Lists.{told_pages-with_page}

-- a call keeps the bound
pub still_told : (old new : DieView) → new.most ≡ old.most → TellsMost old → TellsMost new
still_told old new same told = subst (λ (m : Option ℕ). IsSomeAnd m (λ n. n < 2 ^ 63)) (sym same) told

-- the pages that are fresh on both copies are the same on both
abbrev pub AreSame : List Fresh → Option (List (List ℕ)) → Option (List (List ℕ)) → Type 0
AreSame fresh first second = (a b : List (List ℕ)) → first ≡ Some a → second ≡ Some b → (page : ℕ) → get_or fresh page OnFirst ≡ OnBoth → get_or a page [] ≡ get_or b page []

-- whether two pages are one
pub one_page : (i j : ℕ) → (i ≡ j) ⊎ (i ≢ j)
one_page i j = grind arith

-- one page changes on both copies
same_with : (fresh : List Fresh) (first second : Option (List (List ℕ))) (page : ℕ) (now : Fresh) (a b : List ℕ) → page < length fresh → IfSome first (λ pages. length pages ≡ length fresh) → IfSome second (λ pages. length pages ≡ length fresh) → (now ≡ OnBoth → a ≡ b) → AreSame fresh first second → AreSame (set fresh page now) (with_page first page a) (with_page second page b)
same_with fresh None second page now a b within f s agree same p q is_first is_second at both = absurd (cc)
same_with fresh (Some first) None page now a b within f s agree same p q is_first is_second at both = absurd (cc)
same_with fresh (Some first) (Some second) page now a b within f s agree same p q is_first is_second at both =
    let is_p : p ≡ set first page a = cc in
    let is_q : q ≡ set second page b = cc in
    ⊎_elim
    (λ (here : at ≡ page).
    let marked : get_or (set fresh page now) page OnFirst ≡ now = get_or-set_same fresh page now OnFirst within in
    let is_now : now ≡ OnBoth = sym marked ∙ subst (λ (n : ℕ). get_or (set fresh page now) n OnFirst ≡ OnBoth) here both in
    let on_p : get_or (set first page a) page [] ≡ a = get_or-set_same first page a [] (omega arith) in
    let on_q : get_or (set second page b) page [] ≡ b = get_or-set_same second page b [] (omega arith) in
    let equal : get_or p page [] ≡ get_or q page [] = ap (λ (l : List (List ℕ)). get_or l page []) is_p ∙ on_p ∙ agree is_now ∙ sym on_q ∙ sym (ap (λ (l : List (List ℕ)). get_or l page []) is_q) in
    subst (λ (n : ℕ). get_or p n [] ≡ get_or q n []) (sym here) equal)
    (λ (apart : at ≢ page).
    let marked : get_or (set fresh page now) at OnFirst ≡ get_or fresh at OnFirst = get_or-set_other fresh page at now OnFirst apart in
    let on_p : get_or (set first page a) at [] ≡ get_or first at [] = get_or-set_other first page at a [] apart in
    let on_q : get_or (set second page b) at [] ≡ get_or second at [] = get_or-set_other second page at b [] apart in
    ap (λ (l : List (List ℕ)). get_or l at []) is_p ∙ on_p ∙ same first second refl refl at (sym marked ∙ both) ∙ sym on_q ∙ sym (ap (λ (l : List (List ℕ)). get_or l at []) is_q))
    (one_page at page)

-- what a write leaves in its page
pub record Left (old : DieView) (page : ℕ) (good : Bool) (bytes : List ℕ) (new : DieView) : Type 0 where
  pub left : List ℕ
  pub pages : new.pages ≡ with_page old.pages page left
  pub taken : good ≡ true → left ≡ bytes

pub left_by : (old : DieView) (page : ℕ) (good : Bool) (bytes : List ℕ) (new : DieView) → WentWrite old page good bytes new → Left old page good bytes new
left_by old page true bytes new went = record { left = bytes; pages = went.ok refl; taken = λ _. refl }
left_by old page false bytes new went =
    let changed = went.err refl in
    record { left = changed.left; pages = changed.same; taken = λ good. absurd (cc) }

-- of the copies' pages after a call, with one of them changed: where the page is fresh on both it is the same on both
pub mirror_after : (old new : MirrorView) (page : ℕ) (now : Fresh) (a b : List ℕ) → IsMirror old → IsDie old.first → IsDie old.second → page < old.first.size → new.first.size ≡ old.first.size → new.second.size ≡ old.second.size → new.first.most ≡ old.first.most → new.second.most ≡ old.second.most → new.first.pages ≡ with_page old.first.pages page a → new.second.pages ≡ with_page old.second.pages page b → new.fresh ≡ set old.fresh page now → (now ≡ OnBoth → a ≡ b) → new.faults ≤ new.first.faults + new.second.faults → IsMirror new
mirror_after old new page now a b is first second within first_size second_size first_most second_most first_pages second_pages fresh agree caused = record {
  sizes = omega (arith, is.sizes);
  marks = ap length fresh ∙ length-set old.fresh page now ∙ is.marks ∙ sym first_size;
  few = omega (arith, is.few);
  first_most = still_told old.first new.first first_most is.first_most;
  second_most = still_told old.second new.second second_most is.second_most;
  caused = caused;
  same =
      let whole_first : IfSome old.first.pages (λ pages. length pages ≡ length old.fresh) = subst (λ (n : ℕ). IfSome old.first.pages (λ pages. length pages ≡ n)) (sym is.marks) first.whole in
      let whole_second : IfSome old.second.pages (λ pages. length pages ≡ length old.fresh) = subst (λ (n : ℕ). IfSome old.second.pages (λ pages. length pages ≡ n)) (is.sizes ∙ sym is.marks) second.whole in
      let after : AreSame (set old.fresh page now) (with_page old.first.pages page a) (with_page old.second.pages page b) = same_with old.fresh old.first.pages old.second.pages page now a b (omega (arith, is.marks)) whole_first whole_second agree is.same in
      λ p q is_first is_second at both. after p q (sym first_pages ∙ is_first) (sym second_pages ∙ is_second) at (ap (λ (l : List Fresh). get_or l at OnFirst) (sym fresh) ∙ both);
}

-- and the list of pages is the old one with that page changed
pub told_after : (old new : MirrorView) (page : ℕ) (now : Fresh) (a b : List ℕ) → new.first.pages ≡ with_page old.first.pages page a → new.second.pages ≡ with_page old.second.pages page b → new.fresh ≡ set old.fresh page now → (seen_of new).pages ≡ with_page (seen_of old).pages page (page_of now a b)
told_after old new page now a b first_pages second_pages fresh =
    ap (λ (l : List Fresh). told_pages l new.first.pages new.second.pages) fresh
    ∙ ap (λ (p : Option (List (List ℕ))). told_pages (set old.fresh page now) p new.second.pages) first_pages
    ∙ ap (λ (p : Option (List (List ℕ))). told_pages (set old.fresh page now) (with_page old.first.pages page a) p) second_pages
    ∙ told_pages-with_page old.fresh old.first.pages old.second.pages page now a b

-- the sum of the bounds stays
pub sum_kept : (old new : MirrorView) → new.first.most ≡ old.first.most → new.second.most ≡ old.second.most → (seen_of new).most ≡ (seen_of old).most
sum_kept old new first second = ap (λ (m : Option ℕ). sum_of m new.second.most) first ∙ ap (λ (m : Option ℕ). sum_of old.first.most m) second

-- the mirror's own count
pub counted_later : (good : Bool) (before now : ℕ) → now ≡ counted good before → before ≤ now
counted_later true before now is = omega arith
counted_later false before now is = omega arith

pub counted_rose : (good : Bool) (before now : ℕ) → now ≡ counted good before → good ≡ false → before < now
counted_rose true before now is bad = absurd (cc (bad))
counted_rose false before now is bad = omega arith

-- a mirror just made: each page is fresh on both copies
pub mirror_made : (first second : DieView) (fresh : List Fresh) (size : ℕ) → first.size ≡ second.size → AreEqual first.pages second.pages → TellsMost first → TellsMost second → size ≡ first.size → size < 2 ^ 32 → fresh ≡ replicate size OnBoth → IsMirror (record { first = first; second = second; fresh = fresh; faults = 0 })
mirror_made first second fresh size sizes equal first_most second_most is_size few all = record {
  sizes = sym sizes;
  marks = ap length all ∙ length-replicate size OnBoth ∙ is_size;
  few = omega arith;
  first_most = first_most;
  second_most = second_most;
  caused = omega arith;
  same = λ p q is_first is_second page both. ap (λ (l : List (List ℕ)). get_or l page []) (equal p q is_first is_second);
}
