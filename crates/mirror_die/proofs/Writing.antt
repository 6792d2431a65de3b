-- A write of a mirror is one of a die, and leaves a mirror.
use Rattle.std.proofs.Common.{◌≡◌, ℕ, ◌+◌, ◌<◌, ◌≤◌, Bool, true, false, List, refl, ap, sym, ◌∙◌, arith}
use Rattle.std.specs.Prelude.{◌||◌}
use Rattle.flash_die.specs.Dies.{DieView, IsDie, Counts, WentWrite, with_page}
use Rattle.mirror_die.specs.Freshness.{after_write}
use Rattle.mirror_die.specs.Mirror.{MirrorView, IsMirror, page_of, seen_of}
use Rattle.mirror_die.specs.Calls.{MirrorWrite, counted}
use Rattle.mirror_die.specs.declared.freshness.Fresh.TheVariants.{OnBoth}
use Rattle.mirror_die.proofs.Steps.{left_by, mirror_after, told_after, sum_kept, counted_later, counted_rose}

write_caused : (first_took second_took : Bool) (first second new_first new_second : DieView) (faults : ℕ) → Counts first first_took new_first → Counts second second_took new_second → faults ≤ first.faults + second.faults → counted (first_took || second_took) faults ≤ new_first.faults + new_second.faults
write_caused true second_took first second new_first new_second faults f s caused = omega (arith, f.later, s.later)
write_caused false true first second new_first new_second faults f s caused = omega (arith, f.later, s.later)
write_caused false false first second new_first new_second faults f s caused = omega (arith, f.failed refl, s.later)

-- the page is fresh on both copies only where both took the bytes
both_took : (first_took second_took : Bool) (a b bytes : List ℕ) → (first_took ≡ true → a ≡ bytes) → (second_took ≡ true → b ≡ bytes) → after_write first_took second_took ≡ OnBoth → a ≡ b
both_took true true a b bytes f s both = f refl ∙ sym (s refl)
both_took true false a b bytes f s both = absurd (cc (both))
both_took false true a b bytes f s both = absurd (cc (both))
both_took false false a b bytes f s both = absurd (cc (both))

-- and its bytes are those written, where one of them did
one_took : (first_took second_took : Bool) (a b bytes : List ℕ) → (first_took ≡ true → a ≡ bytes) → (second_took ≡ true → b ≡ bytes) → (first_took || second_took) ≡ true → page_of (after_write first_took second_took) a b ≡ bytes
one_took true true a b bytes f s good = f refl
one_took true false a b bytes f s good = f refl
one_took false true a b bytes f s good = s refl
one_took false false a b bytes f s good = absurd (cc (good))

pub write_keeps : (old new : MirrorView) (page : ℕ) (good : Bool) (bytes : List ℕ) → IsMirror old → IsDie old.first → IsDie old.second → page < old.first.size → MirrorWrite old page good bytes new → IsMirror new
write_keeps old new page good bytes is first second within went =
    let a = left_by old.first page went.first_took bytes new.first went.first in
    let b = left_by old.second page went.second_took bytes new.second went.second in
    let caused = write_caused went.first_took went.second_took old.first old.second new.first new.second old.faults went.first.counts went.second.counts is.caused in
    let faults : new.faults ≡ counted (went.first_took || went.second_took) old.faults = went.faults ∙ ap (λ (g : Bool). counted g old.faults) went.answer in
    mirror_after old new page (after_write went.first_took went.second_took) a.left b.left is first second within went.first.counts.size went.second.counts.size went.first.counts.most went.second.counts.most a.pages b.pages went.fresh (both_took went.first_took went.second_took a.left b.left bytes a.taken b.taken) (omega (arith, faults, caused))

pub write_went : (old new : MirrorView) (page : ℕ) (good : Bool) (bytes : List ℕ) → MirrorWrite old page good bytes new → WentWrite (seen_of old) page good bytes (seen_of new)
write_went old new page good bytes went =
    let a = left_by old.first page went.first_took bytes new.first went.first in
    let b = left_by old.second page went.second_took bytes new.second went.second in
    let now = after_write went.first_took went.second_took in
    let told : (seen_of new).pages ≡ with_page (seen_of old).pages page (page_of now a.left b.left) = told_after old new page now a.left b.left a.pages b.pages went.fresh in
    record {
      counts = record {
        size = went.first.counts.size;
        most = sum_kept old new went.first.counts.most went.second.counts.most;
        later = counted_later good old.faults new.faults went.faults;
        failed = λ bad. counted_rose good old.faults new.faults went.faults bad;
      };
      plan = refl;
      planned = tt;
      ok = λ fine. told ∙ ap (λ (l : List ℕ). with_page (seen_of old).pages page l) (one_took went.first_took went.second_took a.left b.left bytes a.taken b.taken (sym went.answer ∙ fine));
      err = λ bad. record { left = page_of now a.left b.left; same = told };
    }
