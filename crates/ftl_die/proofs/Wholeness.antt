-- Pages of the die stay whole while raw flash, slots and places change.
use Rattle.std.proofs.Common.{◌≡◌, ℕ, ◌+◌, ◌<◌, ◌≤◌, List, length, get_or, set, replicate, Option, Some, None, refl, ap, sym, ◌∙◌, subst, arith}
use Rattle.std.proofs.lemmas.List.{length-replicate}
use Rattle.std.proofs.lemmas.List.Elements.{All-replicate, All-set}
use Rattle.page_base.specs.Bytes.{zero_page}
use Rattle.flash_die.specs.Dies.{AreWhole}
use Rattle.flash_raw.specs.Raw.{RawView, IsRaw}
use Rattle.ftl_die.specs.declared.place.Place.{Place}
use Rattle.ftl_die.specs.declared.place.Place.TheVariants.{Unwritten, At}
use Rattle.ftl_die.specs.Places.{one_in, live_in, held_in}
use Rattle.ftl_die.specs.Stored.{content, contents, IsStored, KeepsProgrammed}
use Rattle.ftl_die.proofs.Changes.{get_or-same}
use Rattle.ftl_die.proofs.Moving.{sum_by-none, same_contents, kept_content, laid_contents}
use Rattle.ftl_die.proofs.Went.{fresh_contents}

zeros-whole : length zero_page ≡ 4096
unfolding zero_page
zeros-whole = length-replicate {A = ℕ} 4096 0

-- pages that were never written
pub fresh_whole : (raw : RawView) (slots : List (List ℕ)) (pages : ℕ) (places : List Place) → places ≡ replicate pages Unwritten → AreWhole (contents raw slots places)
fresh_whole raw slots pages places is =
    subst AreWhole (sym (fresh_contents raw slots pages places is)) (All-replicate (λ (page : List ℕ). length page ≡ 4096) pages zero_page zeros-whole)

-- none of them lies anywhere
pub fresh_spared : (pages n : ℕ) (places : List Place) (owners : List (Option ℕ)) → places ≡ replicate pages Unwritten → owners ≡ replicate 64 None → held_in owners + live_in 0 places ≤ n
fresh_spared pages n places owners p o =
    let none : held_in (replicate {A = Option ℕ} 64 None) ≡ 0 = refl in
    let held : held_in owners ≡ 0 = ap held_in o ∙ none in
    let live : live_in 0 places ≡ 0 = ap (live_in 0) p ∙ sum_by-none (one_in 0) (replicate pages Unwritten) Unwritten (λ i under. ap (one_in 0) (get_or-same pages i Unwritten)) in
    omega (arith, held, live)

-- no page of the die moves, and the programmed pages stay
pub kept_whole : (old new : RawView) (slots : List (List ℕ)) (places later : List Place) (used : List ℕ) → IsStored old places used → KeepsProgrammed old.pages new.pages → later ≡ places → AreWhole (contents old slots places) → AreWhole (contents new slots later)
kept_whole old new slots places later used is kept same whole =
    subst (λ (p : List Place). AreWhole (contents new slots p)) (sym same)
    (subst AreWhole (sym (same_contents places (content old.pages slots) (content new.pages slots) (λ page _. kept_content old new slots places used page is kept))) whole)

-- a page of the die goes to raw flash, where it was programmed
pub laid_whole : (old new : RawView) (slots : List (List ℕ)) (places later : List Place) (used : List ℕ) (page at : ℕ) (bytes : List ℕ) → IsStored old places used → page < length places → KeepsProgrammed old.pages new.pages → get_or new.pages at None ≡ Some bytes → later ≡ set places page (At at) → IsRaw new → AreWhole (contents old slots places) → AreWhole (contents new slots later)
laid_whole old new slots places later used page at bytes is inside kept there same raw whole =
    subst (λ (p : List Place). AreWhole (contents new slots p)) (sym same)
    (subst AreWhole (sym (laid_contents old new slots places used page at bytes is inside kept there))
    (All-set (λ (p : List ℕ). length p ≡ 4096) (contents old slots places) page bytes (raw.each_whole at bytes there) whole))
