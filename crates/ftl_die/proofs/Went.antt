-- A call of a die over raw flash is one of a die.
use Rattle.std.proofs.Common.{◌≡◌, ℕ, ◌+◌, ◌*◌, ◌<◌, Bool, true, false, List, [], length, map, get_or, set, replicate, Option, Some, None, refl, ap, sym, ◌∙◌, inl, inr, subst, arith}
use Rattle.std.specs.Prelude.{is_some}
use Rattle.std.specs.List.{All}
use Rattle.std.proofs.lemmas.List.{length-map, length-set, length-replicate, get_or-map, set-get_or, get_or_past, ext_get_or, get_or-replicate}
use Rattle.std.proofs.lemmas.Bool.{cases_lt}
use Rattle.page_base.specs.Bytes.{zero_page}
use Rattle.flash_die.specs.Dies.{DieView, Counts, WentRead, WentWrite}
use Rattle.flash_raw.specs.Raw.{RawView, RawCounts, IsRaw}
use Rattle.ftl_die.specs.declared.place.Place.{Place}
use Rattle.ftl_die.specs.declared.place.Place.TheVariants.{Unwritten, At}
use Rattle.ftl_die.specs.Stored.{content, contents, ftl_view, IsStored, KeepsProgrammed, Moves}
use Rattle.ftl_die.proofs.Changes.{get_or-same}
use Rattle.ftl_die.proofs.Moving.{counts_both, laid_contents}

counts_told : (old new : RawView) (slots slots' : List (List ℕ)) (places places' : List Place) (good : Bool) → RawCounts old good new → length places' ≡ length places → Counts (ftl_view old slots places) good (ftl_view new slots' places')
counts_told old new slots slots' places places' good counts size = record { size = size; most = counts.most; later = counts.later; failed = counts.failed }

pub read_went : (old new : RawView) (slots : List (List ℕ)) (places : List Place) (page : ℕ) (good : Bool) (before after : List ℕ) → page < length places → RawCounts old good new → new.pages ≡ old.pages → (good ≡ true → after ≡ content old.pages slots (get_or places page Unwritten)) → (good ≡ false → after ≡ before) → WentRead (ftl_view old slots places) page good before after (ftl_view new slots places)
read_went old new slots places page good before after inside counts pages ok err = record {
  counts = counts_told old new slots slots places places good counts refl;
  plan = refl;
  planned = tt;
  pages = ap (λ (p : List (Option (List ℕ))). Some (map (content p slots) places)) pages;
  ok = λ fine. ok fine ∙ sym (get_or-map (content old.pages slots) places page Unwritten [] inside);
  err = err;
}

-- nothing of raw flash changes
pub counts_none : (raw : RawView) → RawCounts raw true raw
counts_none raw = record { blocks = refl; most = refl; later = omega arith; failed = λ e. absurd (cc) }

-- a write whose steps keep the pages fails
pub write_failed : (old new : RawView) (slots slots' : List (List ℕ)) (places places' : List Place) (page : ℕ) (bytes : List ℕ) → Moves old slots places false new slots' places' → WentWrite (ftl_view old slots places) page false bytes (ftl_view new slots' places')
write_failed old new slots slots' places places' page bytes moves = record {
  counts = counts_told old new slots slots' places places' false moves.counts moves.size;
  plan = refl;
  planned = tt;
  ok = λ e. absurd (cc);
  err = λ _. record {
    left = get_or (contents old slots places) page [];
    same = ap Some (moves.contents ∙ sym (set-get_or (contents old slots places) page []));
  };
}

-- a write that makes room and programs the page
pub write_done : (old now new : RawView) (slots slots' : List (List ℕ)) (places places' later : List Place) (used : List ℕ) (page at : ℕ) (bytes : List ℕ) → page < length places → Moves old slots places true now slots' places' → IsStored now places' used → RawCounts now true new → KeepsProgrammed now.pages new.pages → get_or new.pages at None ≡ Some bytes → later ≡ set places' page (At at) → WentWrite (ftl_view old slots places) page true bytes (ftl_view new slots' later)
write_done old now new slots slots' places places' later used page at bytes inside moves stored counts kept there is =
    let here : page < length places' = omega (arith, inside, moves.size) in
    subst (λ (p : List Place). WentWrite (ftl_view old slots places) page true bytes (ftl_view new slots' p)) (sym is) (record {
      counts = counts_told old new slots slots' places (set places' page (At at)) true (counts_both old now new true true moves.counts counts) (length-set places' page (At at) ∙ moves.size);
      plan = refl;
      planned = tt;
      ok = λ _. ap Some (laid_contents now new slots' places' used page at bytes stored here kept there ∙ ap (λ (p : List (List ℕ)). set p page bytes) moves.contents);
      err = λ e. absurd (cc);
    })

-- raw flash of which all is erased
pub fresh_stored : (raw : RawView) (pages : ℕ) (places : List Place) (used : List ℕ) → IsRaw raw → All (λ (page : Option (List ℕ)). page ≡ None) raw.pages → places ≡ replicate pages Unwritten → used ≡ replicate raw.blocks 0 → IsStored raw places used
fresh_stored raw pages places used is erased is_places is_used =
    let counts : length used ≡ raw.blocks = ap length is_used ∙ length-replicate raw.blocks 0 in
    record {
      blocks = counts;
      whole = is.whole ∙ ap (λ (n : ℕ). 64 * n) (sym counts);
      programmed = λ page at there.
          let none : get_or places page Unwritten ≡ Unwritten = ap (λ (p : List Place). get_or p page Unwritten) is_places ∙ get_or-same pages page Unwritten in
          absurd (cc);
      fronts = λ block i under low.
          let none : get_or raw.pages (64 * block + i) None ≡ None =
          elim (cases_lt (64 * block + i) (length raw.pages)) [
            | inl within ↦ erased (64 * block + i) None within
            | inr beyond ↦ get_or_past raw.pages (64 * block + i) None beyond
          ] in
          let zero : get_or used block 0 ≡ 0 = ap (λ (n : List ℕ). get_or n block 0) is_used ∙ get_or-same {X = ℕ} raw.blocks block 0 in
          ap is_some none ∙ grind (arith, zero);
    }

pub fresh_contents : (raw : RawView) (slots : List (List ℕ)) (pages : ℕ) (places : List Place) → places ≡ replicate pages Unwritten → contents raw slots places ≡ replicate pages zero_page
fresh_contents raw slots pages places is =
    let f = content raw.pages slots in
    let size : length (map f (replicate pages Unwritten)) ≡ pages = length-map (replicate pages Unwritten) f ∙ length-replicate pages Unwritten in
    ap (map f) is ∙ ext_get_or [] (map f (replicate pages Unwritten)) (replicate pages zero_page) (size ∙ sym (length-replicate pages zero_page))
    (λ page under.
    let within : page < pages = omega (arith, under, size) in
    get_or-map f (replicate pages Unwritten) page Unwritten [] (omega (arith, within, length-replicate pages Unwritten))
    ∙ ap f (get_or-replicate pages page Unwritten Unwritten within)
    ∙ sym (get_or-replicate pages page zero_page [] within))

-- what is told of a die of pages that were never written
pub fresh_view : (raw : RawView) (slots : List (List ℕ)) (pages : ℕ) (places : List Place) → places ≡ replicate pages Unwritten → ftl_view raw slots places ≡ record { pages = Some (replicate pages zero_page); size = pages; faults = raw.faults; most = raw.most; plan = None }
fresh_view raw slots pages places is =
    let told : List (List ℕ) → ℕ → DieView = λ p n. record { pages = Some p; size = n; faults = raw.faults; most = raw.most; plan = None } in
    ap (λ (p : List (List ℕ)). told p (length places)) (fresh_contents raw slots pages places is)
    ∙ ap (told (replicate pages zero_page)) (ap length is ∙ length-replicate pages Unwritten)
