-- A mirror: two dies that hold the same pages, and what it tells as one die. This project's own.
use Rattle.std.specs.Prelude.{◌≡◌, ℕ, ◌+◌, ◌^◌, ◌<◌, ◌≤◌, List, [], ◌∷◌, length, get_or, true, Option, Some, None, IsSomeAnd}
use Rattle.flash_die.specs.Dies.{DieView}
use Rattle.mirror_die.specs.Freshness.{is_on_first, is_on_second}
use Rattle.mirror_die.specs.declared.freshness.Fresh.{Fresh}
use Rattle.mirror_die.specs.declared.freshness.Fresh.TheVariants.{OnBoth, OnFirst, OnSecond}

-- what its copies tell, on which of them each page is fresh, and how many of its calls have failed
pub record MirrorView : Type 0 where
  pub first : DieView
  pub second : DieView
  pub fresh : List Fresh
  pub faults : ℕ

-- a page's bytes: those of a fresh copy
abbrev pub page_of : Fresh → List ℕ → List ℕ → List ℕ
page_of OnBoth first second = first
page_of OnFirst first second = first
page_of OnSecond first second = second

-- the list of pages, each from a fresh copy
abbrev pub pages_of : List Fresh → List (List ℕ) → List (List ℕ) → List (List ℕ)
pages_of [] first second = []
pages_of (fresh ∷ rest) [] second = []
pages_of (fresh ∷ rest) (a ∷ first) [] = []
pages_of (fresh ∷ rest) (a ∷ first) (b ∷ second) = page_of fresh a b ∷ pages_of rest first second

-- told where both copies tell their pages
abbrev pub told_pages : List Fresh → Option (List (List ℕ)) → Option (List (List ℕ)) → Option (List (List ℕ))
told_pages fresh (Some first) (Some second) = Some (pages_of fresh first second)
told_pages fresh (Some first) None = None
told_pages fresh None second = None

-- told where both copies tell theirs
abbrev pub sum_of : Option ℕ → Option ℕ → Option ℕ
sum_of (Some first) (Some second) = Some (first + second)
sum_of (Some first) None = None
sum_of None second = None

-- the mirror as one die; it tells no plan
abbrev pub seen_of : MirrorView → DieView
seen_of mirror = record {
  pages = told_pages mirror.fresh mirror.first.pages mirror.second.pages;
  size = mirror.first.size;
  faults = mirror.faults;
  most = sum_of mirror.first.most mirror.second.most;
  plan = None;
}

-- the list of the first of two dies that both tell their pages
abbrev pub both_told : Option (List (List ℕ)) → Option (List (List ℕ)) → Option (List (List ℕ))
both_told (Some first) (Some second) = Some first
both_told (Some first) None = None
both_told None second = None

-- a mirror just made of two dies
abbrev pub made_of : DieView → DieView → DieView
made_of first second = record {
  pages = both_told first.pages second.pages;
  size = first.size;
  faults = 0;
  most = sum_of first.most second.most;
  plan = None;
}

-- it tells a bound of its faults below 2^63
abbrev pub TellsMost : DieView → Type 0
TellsMost die = IsSomeAnd die.most (λ most. most < 2 ^ 63)

-- two dies that tell their pages have the same ones
abbrev pub AreEqual : Option (List (List ℕ)) → Option (List (List ℕ)) → Type 0
AreEqual first second = (a b : List (List ℕ)) → first ≡ Some a → second ≡ Some b → a ≡ b

-- what holds of every mirror: the copies have equally many pages, those that are fresh on both are the same on both,
-- and a call of the mirror fails only with a call of a copy
pub record IsMirror (mirror : MirrorView) : Type 0 where
  pub sizes : mirror.second.size ≡ mirror.first.size
  pub marks : length mirror.fresh ≡ mirror.first.size
  pub few : mirror.first.size < 2 ^ 32
  pub first_most : TellsMost mirror.first
  pub second_most : TellsMost mirror.second
  pub caused : mirror.faults ≤ mirror.first.faults + mirror.second.faults
  pub same : (first second : List (List ℕ)) → mirror.first.pages ≡ Some first → mirror.second.pages ≡ Some second → (page : ℕ) → get_or mirror.fresh page OnFirst ≡ OnBoth → get_or first page [] ≡ get_or second page []

-- where the pages are told, those that are fresh on a copy are the pages of the mirror
pub record FreshIsEqual (mirror : MirrorView) : Type 0 where
  pub first : (pages first : List (List ℕ)) → (seen_of mirror).pages ≡ Some pages → mirror.first.pages ≡ Some first → (page : ℕ) → page < mirror.first.size → is_on_first (get_or mirror.fresh page OnBoth) ≡ true → get_or first page [] ≡ get_or pages page []
  pub second : (pages second : List (List ℕ)) → (seen_of mirror).pages ≡ Some pages → mirror.second.pages ≡ Some second → (page : ℕ) → page < mirror.first.size → is_on_second (get_or mirror.fresh page OnBoth) ≡ true → get_or second page [] ≡ get_or pages page []
