-- A read of a mirror is one of a die, and leaves a mirror.
use Rattle.std.proofs.Common.{◌≡◌, ℕ, ◌<◌, ◌≤◌, Bool, true, false, List, [], length, get_or, Option, Some, None, refl, ap, sym, subst, ◌∙◌, arith}
use Rattle.std.specs.Prelude.{IfSome, not, ◌||◌, ◌&&◌}
use Rattle.std.proofs.lemmas.List.{get_or_default}
use Rattle.flash_die.specs.Dies.{DieView, IsDie, WentRead}
use Rattle.mirror_die.specs.Freshness.{is_on_first, is_on_second}
use Rattle.mirror_die.specs.Mirror.{MirrorView, IsMirror, page_of, pages_of, told_pages, seen_of}
use Rattle.mirror_die.specs.Calls.{Tries, MirrorRead}
use Rattle.mirror_die.specs.declared.freshness.Fresh.{Fresh}
use Rattle.mirror_die.specs.declared.freshness.Fresh.TheVariants.{OnBoth, OnFirst, OnSecond}
use Rattle.mirror_die.proofs.Lists.{get_or-pages_of}
use Rattle.mirror_die.proofs.Steps.{AreSame, sum_kept, counted_later, counted_rose}

-- what a read leaves of a copy, whether it is tried or not
pub record Kept (old new : DieView) : Type 0 where
  pub size : new.size ≡ old.size
  pub most : new.most ≡ old.most
  pub pages : new.pages ≡ old.pages
  pub later : old.faults ≤ new.faults

pub tries_kept : (tried : Bool) (old : DieView) (page : ℕ) (gave : Bool) (before after : List ℕ) (new : DieView) → Tries tried old page gave before after new → Kept old new
tries_kept true old page gave before after new went = record { size = went.counts.size; most = went.counts.most; pages = went.pages; later = went.counts.later }
tries_kept false old page gave before after new stays =
    let same : new ≡ old = stays.2 in
    record { size = ap (λ (d : DieView). d.size) same; most = ap (λ (d : DieView). d.most) same; pages = ap (λ (d : DieView). d.pages) same; later = omega (arith, ap (λ (d : DieView). d.faults) same) }

tries_failed : (tried : Bool) (old : DieView) (page : ℕ) (before after : List ℕ) (new : DieView) → Tries tried old page false before after new → after ≡ before
tries_failed true old page before after new went = went.err refl
tries_failed false old page before after new stays = stays.1

-- a copy that gave a page was tried, and gave its own
tries_gave : (tried : Bool) (old : DieView) (page : ℕ) (before after : List ℕ) (new : DieView) → Tries tried old page true before after new → (tried ≡ true) × IfSome old.pages (λ pages. after ≡ get_or pages page [])
tries_gave true old page before after new went = (refl, went.ok refl)
tries_gave false old page before after new stays = absurd (cc (stays.0))

-- the first copy's bytes are the page's, where it is fresh there
pub gave_first : (list : List Fresh) (first second : Option (List (List ℕ))) (page size : ℕ) (after : List ℕ) → page < size → length list ≡ size → IfSome first (λ pages. length pages ≡ size) → IfSome second (λ pages. length pages ≡ size) → is_on_first (get_or list page OnBoth) ≡ true → IfSome first (λ pages. after ≡ get_or pages page []) → IfSome (told_pages list first second) (λ pages. after ≡ get_or pages page [])
gave_first list (Some first) (Some second) page size after within all f s on read =
    let at : get_or (pages_of list first second) page [] ≡ page_of (get_or list page OnBoth) (get_or first page []) (get_or second page []) = get_or-pages_of list first second page (omega arith) (omega arith) (omega arith) in
    read ∙ own (get_or list page OnBoth) (get_or first page []) (get_or second page []) on ∙ sym at
  where
    own : (fresh : Fresh) (a b : List ℕ) → is_on_first fresh ≡ true → a ≡ page_of fresh a b
    own OnBoth a b on = refl
    own OnFirst a b on = refl
    own OnSecond a b on = absurd (cc (on))
gave_first list (Some first) None page size after within all f s on read = tt
gave_first list None second page size after within all f s on read = tt

pub gave_second : (list : List Fresh) (first second : Option (List (List ℕ))) (page size : ℕ) (after : List ℕ) → page < size → length list ≡ size → IfSome first (λ pages. length pages ≡ size) → IfSome second (λ pages. length pages ≡ size) → AreSame list first second → is_on_second (get_or list page OnBoth) ≡ true → IfSome second (λ pages. after ≡ get_or pages page []) → IfSome (told_pages list first second) (λ pages. after ≡ get_or pages page [])
gave_second list (Some first) (Some second) page size after within all f s same on read =
    let at : get_or (pages_of list first second) page [] ≡ page_of (get_or list page OnBoth) (get_or first page []) (get_or second page []) = get_or-pages_of list first second page (omega arith) (omega arith) (omega arith) in
    read ∙ own (get_or list page OnBoth) (get_or first page []) (get_or second page []) on (λ both. same first second refl refl page (get_or_default list page OnFirst OnBoth (omega arith) ∙ both)) ∙ sym at
  where
    own : (fresh : Fresh) (a b : List ℕ) → is_on_second fresh ≡ true → (fresh ≡ OnBoth → a ≡ b) → b ≡ page_of fresh a b
    own OnBoth a b on same = sym (same refl)
    own OnFirst a b on same = absurd (cc (on))
    own OnSecond a b on same = refl
gave_second list (Some first) None page size after within all f s same on read = tt
gave_second list None second page size after within all f s same on read = tt

second_on : (gave on : Bool) → (not gave && on) ≡ true → on ≡ true
second_on true on both = absurd (cc (both))
second_on false on both = both

-- the buffer after a read that gave the page
read_gave : (old : MirrorView) (page : ℕ) (first_gave second_gave : Bool) (before between after : List ℕ) (new_first new_second : DieView) → IsMirror old → IsDie old.first → IsDie old.second → page < old.first.size → Tries (is_on_first (get_or old.fresh page OnBoth)) old.first page first_gave before between new_first → Tries (not first_gave && is_on_second (get_or old.fresh page OnBoth)) old.second page second_gave between after new_second → (first_gave || second_gave) ≡ true → IfSome (seen_of old).pages (λ pages. after ≡ get_or pages page [])
read_gave old page true true before between after new_first new_second is first second within f s good = absurd (cc (tries_gave false old.second page between after new_second s).0)
read_gave old page true false before between after new_first new_second is first second within f s good =
    let gave = tries_gave (is_on_first (get_or old.fresh page OnBoth)) old.first page before between new_first f in
    let same : after ≡ between = tries_failed false old.second page between after new_second s in
    let read : IfSome old.first.pages (λ pages. after ≡ get_or pages page []) = subst (λ (b : List ℕ). IfSome old.first.pages (λ pages. b ≡ get_or pages page [])) (sym same) gave.1 in
    gave_first old.fresh old.first.pages old.second.pages page old.first.size after within is.marks first.whole (subst (λ (n : ℕ). IfSome old.second.pages (λ pages. length pages ≡ n)) is.sizes second.whole) gave.0 read
read_gave old page false true before between after new_first new_second is first second within f s good =
    let gave = tries_gave (not false && is_on_second (get_or old.fresh page OnBoth)) old.second page between after new_second s in
    gave_second old.fresh old.first.pages old.second.pages page old.first.size after within is.marks first.whole (subst (λ (n : ℕ). IfSome old.second.pages (λ pages. length pages ≡ n)) is.sizes second.whole) is.same (second_on false (is_on_second (get_or old.fresh page OnBoth)) gave.0) gave.1
read_gave old page false false before between after new_first new_second is first second within f s good = absurd (cc (good))

-- the buffer after a read that gave nothing
read_left : (fresh : Fresh) (first_gave second_gave : Bool) (first second : DieView) (page : ℕ) (before between after : List ℕ) (new_first new_second : DieView) → Tries (is_on_first fresh) first page first_gave before between new_first → Tries (not first_gave && is_on_second fresh) second page second_gave between after new_second → (first_gave || second_gave) ≡ false → after ≡ before
read_left fresh false false first second page before between after new_first new_second f s bad = tries_failed (not false && is_on_second fresh) second page between after new_second s ∙ tries_failed (is_on_first fresh) first page before between new_first f
read_left fresh false true first second page before between after new_first new_second f s bad = absurd (cc (bad))
read_left fresh true second_gave first second page before between after new_first new_second f s bad = absurd (cc (bad))

pub read_went : (old new : MirrorView) (page : ℕ) (good : Bool) (before after : List ℕ) → IsMirror old → IsDie old.first → IsDie old.second → page < old.first.size → MirrorRead old page good before after new → WentRead (seen_of old) page good before after (seen_of new)
read_went old new page good before after is first second within went =
    let reads = went.reads in
    let fresh = get_or old.fresh page OnBoth in
    let a = tries_kept (is_on_first fresh) old.first page reads.first_gave before reads.between new.first reads.tries_first in
    let b = tries_kept (not reads.first_gave && is_on_second fresh) old.second page reads.second_gave reads.between after new.second reads.tries_second in
    record {
      counts = record {
        size = a.size;
        most = sum_kept old new a.most b.most;
        later = counted_later good old.faults new.faults went.faults;
        failed = λ bad. counted_rose good old.faults new.faults went.faults bad;
      };
      plan = refl;
      planned = tt;
      pages = ap (λ (l : List Fresh). told_pages l new.first.pages new.second.pages) went.fresh ∙ ap (λ (p : Option (List (List ℕ))). told_pages old.fresh p new.second.pages) a.pages ∙ ap (λ (p : Option (List (List ℕ))). told_pages old.fresh old.first.pages p) b.pages;
      ok = λ fine. read_gave old page reads.first_gave reads.second_gave before reads.between after new.first new.second is first second within reads.tries_first reads.tries_second (sym reads.answer ∙ fine);
      err = λ bad. read_left fresh reads.first_gave reads.second_gave old.first old.second page before reads.between after new.first new.second reads.tries_first reads.tries_second (sym reads.answer ∙ bad);
    }
