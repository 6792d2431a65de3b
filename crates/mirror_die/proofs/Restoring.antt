-- What making a page fresh on both copies leaves of a mirror.
use Rattle.std.proofs.Common.{◌≡◌, ℕ, ◌<◌, true, false, List, [], length, get_or, set, Option, None, refl, ap, sym, subst, ◌∙◌, arith}
use Rattle.std.specs.Prelude.{IfSome}
use Rattle.std.proofs.lemmas.List.{set-get_or}
use Rattle.flash_die.specs.Dies.{DieView, IsDie, with_page}
use Rattle.mirror_die.specs.Freshness.{is_on_first, is_on_second, alone}
use Rattle.mirror_die.specs.Mirror.{MirrorView, IsMirror, page_of, told_pages, seen_of}
use Rattle.mirror_die.specs.Rebuild.{Copies, marks_after, to_first, to_second, fresh_at, IsRestored}
use Rattle.mirror_die.specs.declared.copies.Copied.{Copied}
use Rattle.mirror_die.specs.declared.copies.Copied.TheVariants.{Done, ReadFailed, WriteFailed}
use Rattle.mirror_die.specs.declared.freshness.Fresh.{Fresh}
use Rattle.mirror_die.specs.declared.freshness.Fresh.TheVariants.{OnBoth, OnFirst, OnSecond}
use Rattle.mirror_die.proofs.Lists.{with_page-read}
use Rattle.mirror_die.proofs.Steps.{left_by, told_after, sum_kept}
use Rattle.mirror_die.proofs.Reading.{gave_first, gave_second}

-- a mirror that tells the same
seen_same : (old new : MirrorView) → (seen_of new).pages ≡ (seen_of old).pages → new.first.size ≡ old.first.size → new.first.most ≡ old.first.most → new.second.most ≡ old.second.most → new.faults ≡ old.faults → seen_of new ≡ seen_of old
seen_same old new pages size first_most second_most faults =
    let most = sum_kept old new first_most second_most in
    λ i. record { pages = pages i; size = size i; faults = faults i; most = most i; plan = None }

-- the list of pages, where the second copy of a page is written with what the first one gave
kept_second : (old new : MirrorView) (page : ℕ) (now : Fresh) (bytes left : List ℕ) → IsMirror old → IsDie old.first → IsDie old.second → page < old.first.size → is_on_first (fresh_at old page) ≡ true → IfSome old.first.pages (λ pages. bytes ≡ get_or pages page []) → new.first.pages ≡ old.first.pages → new.second.pages ≡ with_page old.second.pages page left → new.fresh ≡ set old.fresh page now → page_of now bytes left ≡ bytes → (seen_of new).pages ≡ (seen_of old).pages
kept_second old new page now bytes left is first second within on read first_pages second_pages fresh own =
    let told = told_after old new page now bytes left (first_pages ∙ sym (with_page-read old.first.pages page bytes read)) second_pages fresh in
    let gave = gave_first old.fresh old.first.pages old.second.pages page old.first.size bytes within is.marks first.whole (subst (λ (n : ℕ). IfSome old.second.pages (λ pages. length pages ≡ n)) is.sizes second.whole) on read in
    told ∙ ap (λ (l : List ℕ). with_page (seen_of old).pages page l) own ∙ with_page-read (seen_of old).pages page bytes gave

-- and where the first copy is written with what the second one gave
kept_first : (old new : MirrorView) (page : ℕ) (now : Fresh) (bytes left : List ℕ) → IsMirror old → IsDie old.first → IsDie old.second → page < old.first.size → is_on_second (fresh_at old page) ≡ true → IfSome old.second.pages (λ pages. bytes ≡ get_or pages page []) → new.second.pages ≡ old.second.pages → new.first.pages ≡ with_page old.first.pages page left → new.fresh ≡ set old.fresh page now → page_of now left bytes ≡ bytes → (seen_of new).pages ≡ (seen_of old).pages
kept_first old new page now bytes left is first second within on read second_pages first_pages fresh own =
    let told = told_after old new page now left bytes first_pages (second_pages ∙ sym (with_page-read old.second.pages page bytes read)) fresh in
    let gave = gave_second old.fresh old.first.pages old.second.pages page old.first.size bytes within is.marks first.whole (subst (λ (n : ℕ). IfSome old.second.pages (λ pages. length pages ≡ n)) is.sizes second.whole) is.same on read in
    told ∙ ap (λ (l : List ℕ). with_page (seen_of old).pages page l) own ∙ with_page-read (seen_of old).pages page bytes gave

-- the list of pages, where nothing was written
kept_unwritten : (old new : MirrorView) → new.first.pages ≡ old.first.pages → new.second.pages ≡ old.second.pages → new.fresh ≡ old.fresh → (seen_of new).pages ≡ (seen_of old).pages
kept_unwritten old new first second fresh =
    ap (λ (l : List Fresh). told_pages l new.first.pages new.second.pages) fresh ∙ ap (λ (p : Option (List (List ℕ))). told_pages old.fresh p new.second.pages) first ∙ ap (λ (p : Option (List (List ℕ))). told_pages old.fresh old.first.pages p) second

-- a mark that is set to what it is
same_mark : (fresh now : List Fresh) (page : ℕ) (mark : Fresh) → now ≡ fresh → get_or fresh page OnBoth ≡ mark → now ≡ set fresh page mark
same_mark fresh now page mark same is = same ∙ sym (ap (set fresh page) (sym is) ∙ set-get_or fresh page OnBoth)

pub second_by : (outcome : Copied) (old new : MirrorView) (page : ℕ) (before after : List ℕ) → IsMirror old → IsDie old.first → IsDie old.second → page < old.first.size → fresh_at old page ≡ OnFirst → Copies outcome old.first old.second page before after new.first new.second → new.fresh ≡ marks_after outcome old.fresh page → new.faults ≡ old.faults → IsRestored old page (to_second outcome) new
second_by Done old new page before after is first second within on copies fresh faults = record {
  same = seen_same old new (kept_second old new page OnBoth after after is first second within (ap is_on_first on) (copies.0.ok refl) copies.0.pages (copies.1.ok refl) fresh refl) copies.0.counts.size copies.0.counts.most copies.1.counts.most faults;
  done = λ _. fresh;
  left = λ failed. absurd (failed refl);
  first_later = copies.0.counts.later;
  second_later = copies.1.counts.later;
  first = λ e. absurd (cc (e));
  second = λ e. absurd (cc (e));
}
second_by ReadFailed old new page before after is first second within on copies fresh faults = record {
  same = seen_same old new (kept_unwritten old new copies.0.pages (ap (λ (d : DieView). d.pages) copies.1) fresh) copies.0.counts.size copies.0.counts.most (ap (λ (d : DieView). d.most) copies.1) faults;
  done = λ e. absurd (cc (e));
  left = λ _. (fresh, ap alone on);
  first_later = copies.0.counts.later;
  second_later = omega (arith, ap (λ (d : DieView). d.faults) copies.1);
  first = λ _. copies.0.counts.failed refl;
  second = λ e. absurd (cc (e));
}
second_by WriteFailed old new page before after is first second within on copies fresh faults =
    let left = left_by old.second page false after new.second copies.1 in
    record {
      same = seen_same old new (kept_second old new page OnFirst after left.left is first second within (ap is_on_first on) (copies.0.ok refl) copies.0.pages left.pages (same_mark old.fresh new.fresh page OnFirst fresh on) refl) copies.0.counts.size copies.0.counts.most copies.1.counts.most faults;
      done = λ e. absurd (cc (e));
      left = λ _. (fresh, ap alone on);
      first_later = copies.0.counts.later;
      second_later = copies.1.counts.later;
      first = λ e. absurd (cc (e));
      second = λ _. copies.1.counts.failed refl;
    }

pub first_by : (outcome : Copied) (old new : MirrorView) (page : ℕ) (before after : List ℕ) → IsMirror old → IsDie old.first → IsDie old.second → page < old.first.size → fresh_at old page ≡ OnSecond → Copies outcome old.second old.first page before after new.second new.first → new.fresh ≡ marks_after outcome old.fresh page → new.faults ≡ old.faults → IsRestored old page (to_first outcome) new
first_by Done old new page before after is first second within on copies fresh faults = record {
  same = seen_same old new (kept_first old new page OnBoth after after is first second within (ap is_on_second on) (copies.0.ok refl) copies.0.pages (copies.1.ok refl) fresh refl) copies.1.counts.size copies.1.counts.most copies.0.counts.most faults;
  done = λ _. fresh;
  left = λ failed. absurd (failed refl);
  first_later = copies.1.counts.later;
  second_later = copies.0.counts.later;
  first = λ e. absurd (cc (e));
  second = λ e. absurd (cc (e));
}
first_by ReadFailed old new page before after is first second within on copies fresh faults = record {
  same = seen_same old new (kept_unwritten old new (ap (λ (d : DieView). d.pages) copies.1) copies.0.pages fresh) (ap (λ (d : DieView). d.size) copies.1) (ap (λ (d : DieView). d.most) copies.1) copies.0.counts.most faults;
  done = λ e. absurd (cc (e));
  left = λ _. (fresh, ap alone on);
  first_later = omega (arith, ap (λ (d : DieView). d.faults) copies.1);
  second_later = copies.0.counts.later;
  first = λ e. absurd (cc (e));
  second = λ _. copies.0.counts.failed refl;
}
first_by WriteFailed old new page before after is first second within on copies fresh faults =
    let left = left_by old.first page false after new.first copies.1 in
    record {
      same = seen_same old new (kept_first old new page OnSecond after left.left is first second within (ap is_on_second on) (copies.0.ok refl) copies.0.pages left.pages (same_mark old.fresh new.fresh page OnSecond fresh on) refl) copies.1.counts.size copies.1.counts.most copies.0.counts.most faults;
      done = λ e. absurd (cc (e));
      left = λ _. (fresh, ap alone on);
      first_later = copies.1.counts.later;
      second_later = copies.0.counts.later;
      first = λ _. copies.1.counts.failed refl;
      second = λ e. absurd (cc (e));
    }
