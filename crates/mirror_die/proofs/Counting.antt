-- How many pages are fresh on one copy alone, when one page changes.
use Rattle.std.proofs.Common.{◌≡◌, ℕ, ◌+◌, ◌-◌, ◌^◌, ◌<◌, ◌≤◌, List, [], ◌∷◌, length, get_or, set, sym, ap, arith}
use Rattle.std.proofs.lemmas.List.{get_or_read, length-set}
use Rattle.std.proofs.lemmas.List.Sums.{sum_by-set, sum_by-cons}
use Rattle.mirror_die.specs.Freshness.{alone, stale_of}
use Rattle.mirror_die.specs.declared.freshness.Fresh.{Fresh}
use Rattle.mirror_die.specs.declared.freshness.Fresh.TheVariants.{OnBoth, OnFirst, OnSecond}

pub alone-le-one : (fresh : Fresh) → alone fresh ≤ 1
alone-le-one OnBoth = omega arith
alone-le-one OnFirst = omega arith
alone-le-one OnSecond = omega arith

pub stale_of-le-length : (fresh : List Fresh) → stale_of fresh ≤ length fresh
stale_of-le-length [] = omega arith
stale_of-le-length (f ∷ fresh) =
    omega (arith, sum_by-cons alone f fresh, alone-le-one f, stale_of-le-length fresh)

pub stale_of-set : (fresh : List Fresh) (page : ℕ) (now : Fresh) → page < length fresh → stale_of (set fresh page now) + alone (get_or fresh page OnBoth) ≡ stale_of fresh + alone now
stale_of-set fresh page now within = sum_by-set alone fresh page now OnBoth within

pub alone-le-stale_of : (fresh : List Fresh) (page : ℕ) → page < length fresh → alone (get_or fresh page OnBoth) ≤ stale_of fresh
alone-le-stale_of fresh page within = omega (arith, stale_of-set fresh page OnBoth within)

-- one page taken out of the count as it was, and put in as it is now
pub stale_of-change : (fresh : List Fresh) (page : ℕ) (now was : Fresh) → page < length fresh → was ≡ get_or fresh page was → stale_of fresh - alone was + alone now ≡ stale_of (set fresh page now)
stale_of-change fresh page now was within read =
    let same : get_or fresh page OnBoth ≡ was = sym (get_or_read fresh page was within read OnBoth) in
    let e : alone (get_or fresh page OnBoth) ≡ alone was = ap alone same in
    omega (arith, stale_of-set fresh page now within, alone-le-stale_of fresh page within, e)

pub stale_of-fits : (fresh : List Fresh) (page : ℕ) (now was : Fresh) → page < length fresh → was ≡ get_or fresh page was → length fresh < 2 ^ 32 → stale_of fresh - alone was + alone now < 2 ^ 32
stale_of-fits fresh page now was within read few =
    omega (arith, stale_of-change fresh page now was within read, stale_of-le-length (set fresh page now), length-set fresh page now)
