-- Pages of the die keep what they have while raw flash, slots and places change.
use Rattle.std.proofs.Common.{◌≡◌, ◌≢◌, ℕ, ◌+◌, ◌-◌, ◌*◌, ◌/◌, ◌<◌, ◌≤◌, Bool, true, false, List, [], ◌∷◌, ◌++◌, length, map, get_or, set, take, drop, Option, Some, None, refl, ap, sym, ◌∙◌, subst, inl, inr, arith}
use Rattle.std.specs.Prelude.{◌==◌, ◌&&◌, if◌then◌else◌, nat_lt, is_some, unwrap_or}
use Rattle.std.specs.List.{sum_by, All}
use Rattle.std.proofs.lemmas.List.{length-set, length-map, get_or-set_same, get_or-set_other, get_or-map, get_or_past, get_or_default, set-get_or, ext_get_or, drop-set-lt, take_more_set, set-set}
use Rattle.std.proofs.lemmas.List.Sums.{sum_by-le, sum_by_push}
use Rattle.std.proofs.lemmas.Bool.{cases_eq, cases_lt}
use Rattle.flash_raw.specs.Raw.{RawView, RawCounts, IsProgrammed, IsNextErased, erased_block}
use Rattle.flash_raw.proofs.Erased.{get_or-erased_block, length-erased_block}
use Rattle.ftl_die.specs.declared.place.Place.{Place}
use Rattle.ftl_die.specs.declared.place.Place.TheVariants.{Unwritten, At, Held}
use Rattle.ftl_die.specs.Places.{live_in, one_held, held_in}
use Rattle.ftl_die.specs.Layouts.{IsLayout}
use Rattle.ftl_die.specs.Stored.{content, contents, IsStored, KeepsProgrammed, Moves}
use Rattle.ftl_die.proofs.Changes.{live-some}

-- the counts of two calls, one after the other
pub counts_both : (a b c : RawView) (good more : Bool) → RawCounts a good b → RawCounts b more c → RawCounts a (good && more) c
counts_both a b c good more first second = record {
  blocks = second.blocks ∙ first.blocks;
  most = second.most ∙ first.most;
  later = omega (arith, first.later, second.later);
  failed = elim good as (λ g. good ≡ g → (g && more) ≡ false → a.faults < c.faults) [
    | true ↦ λ _ bad. let rose = second.failed bad in omega (arith, rose, first.later)
    | false ↦ λ is bad. let rose = first.failed is in omega (arith, rose, second.later)
  ] refl;
}

-- what is the same at each place is the same
pub same_contents : (places : List Place) (f g : Place → List ℕ) → ((page : ℕ) → page < length places → g (get_or places page Unwritten) ≡ f (get_or places page Unwritten)) → map g places ≡ map f places
same_contents places f g same =
    ext_get_or [] (map g places) (map f places) (length-map places g ∙ sym (length-map places f))
    (λ page under.
    let inside : page < length places = omega (arith, length-map places g) in
    get_or-map g places page Unwritten [] inside ∙ same page inside ∙ sym (get_or-map f places page Unwritten [] inside))

-- one page has another place, and the others have what they had
pub set_contents : (places : List Place) (f g : Place → List ℕ) (page : ℕ) (place : Place) → page < length places → ((other : ℕ) → other < length places → other ≢ page → g (get_or places other Unwritten) ≡ f (get_or places other Unwritten)) → map g (set places page place) ≡ set (map f places) page (g place)
set_contents places f g page place inside same =
    let sizes : length (map g (set places page place)) ≡ length places = length-map (set places page place) g ∙ length-set places page place in
    let sizes2 : length (set (map f places) page (g place)) ≡ length places = length-set (map f places) page (g place) ∙ length-map places f in
    ext_get_or [] (map g (set places page place)) (set (map f places) page (g place)) (sizes ∙ sym sizes2)
    (λ other under.
    let in_places : other < length places = omega (arith, under, sizes) in
    let in_set : other < length (set places page place) = omega (arith, in_places, length-set places page place) in
    let in_map : page < length (map f places) = omega (arith, inside, length-map places f) in
    get_or-map g (set places page place) other Unwritten [] in_set
    ∙ elim (cases_eq other page) [
      | inl e ↦ rw e (ap g (get_or-set_same places page place Unwritten inside) ∙ sym (get_or-set_same (map f places) page (g place) [] in_map))
      | inr differ ↦
          ap g (get_or-set_other places page other place Unwritten differ)
          ∙ same other in_places differ
          ∙ sym (get_or-set_other (map f places) page other (g place) [] differ ∙ get_or-map f places other Unwritten [] in_places)
    ])

-- one page moves, with what it has
pub moved_contents : (places : List Place) (f g : Place → List ℕ) (page : ℕ) (place : Place) → page < length places → ((other : ℕ) → other < length places → other ≢ page → g (get_or places other Unwritten) ≡ f (get_or places other Unwritten)) → g place ≡ f (get_or places page Unwritten) → map g (set places page place) ≡ map f places
moved_contents places f g page place inside same moved =
    set_contents places f g page place inside same
    ∙ ap (λ (x : List ℕ). set (map f places) page x) (moved ∙ sym (get_or-map f places page Unwritten [] inside))
    ∙ set-get_or (map f places) page []

-- pages in raw flash keep what they have while the programmed pages stay
pub kept_content : (old new : RawView) (slots : List (List ℕ)) (places : List Place) (used : List ℕ) (page : ℕ) → IsStored old places used → KeepsProgrammed old.pages new.pages → content new.pages slots (get_or places page Unwritten) ≡ content old.pages slots (get_or places page Unwritten)
kept_content old new slots places used page is kept =
    elim (get_or places page Unwritten) as (λ p. get_or places page Unwritten ≡ p → content new.pages slots p ≡ content old.pages slots p) [
      | Unwritten ↦ λ _. refl
      | At at ↦ λ there. ap (λ (o : Option (List ℕ)). unwrap_or o []) (kept.same at (is.programmed page at there))
      | Held slot ↦ λ _. refl
    ] refl

-- the next page of an erase block is its lowest erased page
pub next_erased : (raw : RawView) (places : List Place) (used : List ℕ) (block count : ℕ) → IsStored raw places used → block < length used → count ≡ get_or used block 0 → count < 64 → IsNextErased raw.pages (64 * block + count)
next_erased raw places used block count is within same less = record {
  within = omega (arith, is.whole);
  erased =
      let none : is_some (get_or raw.pages (64 * block + count) None) ≡ false = is.fronts block count within less ∙ grind (arith, same) in
      elim (get_or raw.pages (64 * block + count) None) as (λ o. is_some o ≡ false → o ≡ None) [
        | None ↦ λ _. refl
        | Some bytes ↦ λ e. absurd (cc)
      ] none;
  below = λ lower under together.
      let i = lower - 64 * block in
      let place : 64 * block + i ≡ lower = grind (arith, together, under) in
      let low : i < count = grind (arith, together, under) in
      subst (λ (n : ℕ). is_some (get_or raw.pages n None) ≡ true) place (is.fronts block i within (omega arith) ∙ grind (arith, same, low));
}

-- and once it is programmed
pub programmed_next : (raw new : RawView) (places : List Place) (used : List ℕ) (block count : ℕ) (left : List ℕ) → IsStored raw places used → block < length used → count ≡ get_or used block 0 → count < 64 → new.blocks ≡ raw.blocks → new.pages ≡ set raw.pages (64 * block + count) (Some left) → IsStored new places (set used block (count + 1)) × KeepsProgrammed raw.pages new.pages
programmed_next raw new places used block count left is within same less blocks pages =
    let at = 64 * block + count in
    let erased : get_or raw.pages at None ≡ None = (next_erased raw places used block count is within same less).erased in
    let inside : at < length raw.pages = omega (arith, is.whole) in
    let there : get_or new.pages at None ≡ Some left = ap (λ (p : List (Option (List ℕ))). get_or p at None) pages ∙ get_or-set_same raw.pages at (Some left) None inside in
    let apart = λ (other : ℕ) (differ : other ≢ at). ap (λ (p : List (Option (List ℕ))). get_or p other None) pages ∙ get_or-set_other raw.pages at other (Some left) None differ in
    let kept : (page : ℕ) → IsProgrammed raw.pages page → get_or new.pages page None ≡ get_or raw.pages page None = λ page programmed.
    apart page (λ e. let p : is_some (get_or raw.pages at None) ≡ true = subst (λ (n : ℕ). is_some (get_or raw.pages n None) ≡ true) e programmed in cc) in
    let sizes : length (set used block (count + 1)) ≡ length used = length-set used block (count + 1) in (
      record {
        blocks = sizes ∙ is.blocks ∙ sym blocks;
        whole = ap length pages ∙ length-set raw.pages at (Some left) ∙ is.whole ∙ ap (λ (n : ℕ). 64 * n) (sym sizes);
        programmed = λ page a lies. let p = is.programmed page a lies in ap is_some (kept a p) ∙ p;
        fronts = λ other i under low.
            let below : other < length used = omega (arith, under, sizes) in
            let before = is.fronts other i below low in
            elim (cases_eq other block) [
              | inl e ↦
                  let n : get_or (set used block (count + 1)) other 0 ≡ count + 1 = rw e (get_or-set_same used block (count + 1) 0 within) in
                  let u : get_or used other 0 ≡ count = rw e (sym same) in
                  elim (cases_eq i count) [
                    | inl last ↦
                        let place : 64 * other + i ≡ at = rw (e, last) refl in
                        let some : is_some (get_or new.pages (64 * other + i) None) ≡ true = rw place (ap is_some there) in
                        some ∙ grind (arith, n, last)
                    | inr not_last ↦
                        let place : 64 * other + i ≢ at = λ p. not_last (omega (arith, p, e)) in
                        ap is_some (apart (64 * other + i) place) ∙ before ∙ grind (arith, n, u, not_last)
                  ]
              | inr differ ↦
                  let n : get_or (set used block (count + 1)) other 0 ≡ get_or used other 0 = get_or-set_other used block other (count + 1) 0 differ in
                  let place : 64 * other + i ≢ at = λ p. differ (omega (arith, p, low, less)) in
                  ap is_some (apart (64 * other + i) place) ∙ before ∙ ap (λ (m : ℕ). nat_lt i m) (sym n)
            ];
      },
      record { same = kept },
    )

-- no page lies in an erase block that has none
pub dead_apart : (places : List Place) (block page at : ℕ) → live_in block places ≡ 0 → get_or places page Unwritten ≡ At at → (at / 64 == block) ≡ false
dead_apart places block page at dead there =
    let inside : page < length places =
    elim (cases_lt page (length places)) [
      | inl within ↦ within
      | inr beyond ↦ let none = get_or_past places page Unwritten beyond in absurd (cc)
    ] in
    let some = live-some places page at inside there in
    elim (cases_eq (at / 64) block) [
      | inl e ↦ let s : 1 ≤ live_in block places = subst (λ (n : ℕ). 1 ≤ live_in n places) e some in absurd (omega (arith, s, dead))
      | inr differ ↦ grind (arith, differ)
    ]

-- an erase block in which no page lies is erased
pub erased_stored : (raw new : RawView) (places : List Place) (used : List ℕ) (block : ℕ) → IsStored raw places used → block < length used → live_in block places ≡ 0 → new.blocks ≡ raw.blocks → new.pages ≡ erased_block raw.pages block → IsStored new places (set used block 0)
erased_stored raw new places used block is within dead blocks pages =
    let upto : 64 * block + 64 ≤ length raw.pages = omega (arith, is.whole) in
    let sizes : length (set used block 0) ≡ length used = length-set used block 0 in
    let at = λ (page : ℕ). ap (λ (p : List (Option (List ℕ))). get_or p page None) pages ∙ get_or-erased_block raw.pages block page upto in
    record {
      blocks = sizes ∙ is.blocks ∙ sym blocks;
      whole = ap length pages ∙ length-erased_block raw.pages block upto ∙ is.whole ∙ ap (λ (n : ℕ). 64 * n) (sym sizes);
      programmed = λ page a lies.
          let p = is.programmed page a lies in
          let apart : (a / 64 == block) ≡ false = dead_apart places block page a dead lies in
          let e : get_or new.pages a None ≡ get_or raw.pages a None = at a ∙ ap (λ (b : Bool). if b then None else get_or raw.pages a None) apart in
          ap is_some e ∙ p;
      fronts = λ other i under low.
          let below : other < length used = omega (arith, under, sizes) in
          elim (cases_eq other block) [
            | inl e ↦
                let n : get_or (set used block 0) other 0 ≡ 0 = rw e (get_or-set_same used block 0 0 within) in
                let same : ((64 * other + i) / 64 == block) ≡ true = grind (arith, e, low) in
                let place = 64 * other + i in
                let e : get_or new.pages place None ≡ None = at place ∙ ap (λ (b : Bool). if b then None else get_or raw.pages place None) same in
                let none : nat_lt i (get_or (set used block 0) other 0) ≡ false = grind (arith, n) in
                ap is_some e ∙ sym none
            | inr differ ↦
                let n : get_or (set used block 0) other 0 ≡ get_or used other 0 = get_or-set_other used block other 0 0 differ in
                let apart : ((64 * other + i) / 64 == block) ≡ false = grind (arith, differ, low) in
                let place = 64 * other + i in
                let e : get_or new.pages place None ≡ get_or raw.pages place None = at place ∙ ap (λ (b : Bool). if b then None else get_or raw.pages place None) apart in
                ap is_some e ∙ is.fronts other i below low ∙ ap (λ (m : ℕ). nat_lt i m) (sym n)
          ];
    }

-- and the pages keep what they have
pub erased_contents : (raw new : RawView) (slots : List (List ℕ)) (places : List Place) (used : List ℕ) (block : ℕ) → IsStored raw places used → block < length used → live_in block places ≡ 0 → new.pages ≡ erased_block raw.pages block → contents new slots places ≡ contents raw slots places
erased_contents raw new slots places used block is within dead pages =
    let upto : 64 * block + 64 ≤ length raw.pages = omega (arith, is.whole) in
    same_contents places (content raw.pages slots) (content new.pages slots) (λ page _.
    elim (get_or places page Unwritten) as (λ p. get_or places page Unwritten ≡ p → content new.pages slots p ≡ content raw.pages slots p) [
      | Unwritten ↦ λ _. refl
      | At at ↦ λ there.
          let apart : (at / 64 == block) ≡ false = dead_apart places block page at dead there in
          let same : get_or new.pages at None ≡ get_or raw.pages at None = ap (λ (p : List (Option (List ℕ))). get_or p at None) pages ∙ get_or-erased_block raw.pages block at upto ∙ ap (λ (b : Bool). if b then None else get_or raw.pages at None) apart in
          ap (λ (o : Option (List ℕ)). unwrap_or o []) same
      | Held slot ↦ λ _. refl
    ] refl)

-- a page of the die is one of its pages
pub page_inside : (places : List Place) (page slot : ℕ) → get_or places page Unwritten ≡ Held slot → page < length places
page_inside places page slot there =
    elim (cases_lt page (length places)) [
      | inl within ↦ within
      | inr beyond ↦ let none = get_or_past places page Unwritten beyond in absurd (cc)
    ]

-- a page of the die goes to a free slot, with the bytes that were read
pub held_moves : (old new : RawView) (slots : List (List ℕ)) (places : List Place) (used live : List ℕ) (owners : List (Option ℕ)) (page at slot : ℕ) (bytes : List ℕ) → IsLayout places used live owners → page < length places → get_or places page Unwritten ≡ At at → get_or owners slot None ≡ None → slot < length slots → new.pages ≡ old.pages → get_or old.pages at None ≡ Some bytes → RawCounts old true new → Moves old slots places true new (set slots slot bytes) (set places page (Held slot))
held_moves old new slots places used live owners page at slot bytes is inside there free under pages read counts =
    let later = set slots slot bytes in
    record {
      counts = counts;
      size = length-set places page (Held slot);
      contents = moved_contents places (content old.pages slots) (content new.pages later) page (Held slot) inside
          (λ other _ _.
          elim (get_or places other Unwritten) as (λ p. get_or places other Unwritten ≡ p → content new.pages later p ≡ content old.pages slots p) [
            | Unwritten ↦ λ _. refl
            | At a ↦ λ _. ap (λ (p : List (Option (List ℕ))). unwrap_or (get_or p a None) []) pages
            | Held s ↦ λ lies.
                let owner : get_or owners s None ≡ Some other = is.held other s lies in
                let apart : s ≢ slot = λ e. let p : get_or owners slot None ≡ Some other = subst (λ (n : ℕ). get_or owners n None ≡ Some other) e owner in cc in
                get_or-set_other slots slot s bytes [] apart
          ] refl)
          (get_or-set_same slots slot bytes [] under ∙ sym (ap (content old.pages slots) there ∙ ap (λ (o : Option (List ℕ)). unwrap_or o []) read));
    }

-- a page of the die goes to raw flash, where it was programmed
pub laid_moves : (old new : RawView) (slots : List (List ℕ)) (places : List Place) (used : List ℕ) (page at : ℕ) (bytes : List ℕ) → IsStored old places used → page < length places → KeepsProgrammed old.pages new.pages → get_or new.pages at None ≡ Some bytes → bytes ≡ content old.pages slots (get_or places page Unwritten) → RawCounts old true new → Moves old slots places true new slots (set places page (At at))
laid_moves old new slots places used page at bytes is inside kept there same counts = record {
  counts = counts;
  size = length-set places page (At at);
  contents = moved_contents places (content old.pages slots) (content new.pages slots) page (At at) inside
      (λ other _ _. kept_content old new slots places used other is kept)
      (ap (λ (o : Option (List ℕ)). unwrap_or o []) there ∙ same);
}

pub laid_contents : (old new : RawView) (slots : List (List ℕ)) (places : List Place) (used : List ℕ) (page at : ℕ) (bytes : List ℕ) → IsStored old places used → page < length places → KeepsProgrammed old.pages new.pages → get_or new.pages at None ≡ Some bytes → contents new slots (set places page (At at)) ≡ set (contents old slots places) page bytes
laid_contents old new slots places used page at bytes is inside kept there =
    set_contents places (content old.pages slots) (content new.pages slots) page (At at) inside
    (λ other _ _. kept_content old new slots places used other is kept)
    ∙ ap (λ (o : Option (List ℕ)). set (contents old slots places) page (unwrap_or o [])) there

-- no page of the die moves, and the programmed pages stay
pub kept_moves : (old new : RawView) (slots : List (List ℕ)) (places later : List Place) (used : List ℕ) (good : Bool) → IsStored old places used → KeepsProgrammed old.pages new.pages → RawCounts old good new → later ≡ places → Moves old slots places good new slots later
kept_moves old new slots places later used good is kept counts same =
    subst (λ (p : List Place). Moves old slots places good new slots p) (sym same) (record {
      counts = counts;
      size = refl;
      contents = same_contents places (content old.pages slots) (content new.pages slots) (λ page _. kept_content old new slots places used page is kept);
    })

-- and flash and bookkeeping agree then
pub laid_stored : (new : RawView) (places later : List Place) (used after : List ℕ) (page at : ℕ) (bytes : List ℕ) → IsStored new places used → page < length places → get_or new.pages at None ≡ Some bytes → later ≡ set places page (At at) → after ≡ used → IsStored new later after
laid_stored new places later used after page at bytes is inside there is_later is_after =
    rw (is_later, is_after) (record {
      blocks = is.blocks;
      whole = is.whole;
      programmed = λ other a lies.
          elim (cases_eq other page) [
            | inl e ↦
                let p : get_or (set places page (At at)) page Unwritten ≡ At a = subst (λ (n : ℕ). get_or (set places page (At at)) n Unwritten ≡ At a) e lies in
                let q = get_or-set_same places page (At at) Unwritten inside in
                let same : a ≡ at = cc in
                rw same (ap is_some there)
            | inr differ ↦ is.programmed other a (sym (get_or-set_other places page other (At at) Unwritten differ) ∙ lies)
          ];
      fronts = is.fronts;
    })

pub erased_moves : (old new : RawView) (places later : List Place) (used : List ℕ) (block : ℕ) → IsStored old places used → block < length used → live_in block places ≡ 0 → RawCounts old true new → new.pages ≡ erased_block old.pages block → later ≡ places → (slots : List (List ℕ)) → Moves old slots places true new slots later
erased_moves old new places later used block is within dead counts pages same slots =
    subst (λ (p : List Place). Moves old slots places true new slots p) (sym same) (record {
      counts = counts;
      size = refl;
      contents = erased_contents old new slots places used block is within dead pages;
    })

pub erased_later : (old new : RawView) (places later : List Place) (used after : List ℕ) (block : ℕ) → IsStored old places used → block < length used → live_in block places ≡ 0 → RawCounts old true new → new.pages ≡ erased_block old.pages block → later ≡ places → after ≡ set used block 0 → IsStored new later after
erased_later old new places later used after block is within dead counts pages is_later is_after =
    rw (is_later, is_after) (erased_stored old new places used block is within dead counts.blocks pages)

-- steps one after the other
pub moves_both : (a b c : RawView) (slots slots' slots'' : List (List ℕ)) (places places' places'' : List Place) (good more : Bool) → Moves a slots places good b slots' places' → Moves b slots' places' more c slots'' places'' → Moves a slots places (good && more) c slots'' places''
moves_both a b c slots slots' slots'' places places' places'' good more first second = record {
  counts = counts_both a b c good more first.counts second.counts;
  size = second.size ∙ first.size;
  contents = second.contents ∙ first.contents;
}

-- no step
pub moves_none : (a : RawView) (slots : List (List ℕ)) (places : List Place) → Moves a slots places true a slots places
moves_none a slots places = record {
  counts = record { blocks = refl; most = refl; later = omega arith; failed = λ e. absurd (cc) };
  size = refl;
  contents = refl;
}

-- a sum of nothing
pub sum_by-none : {X : Type 0} (f : X → ℕ) (xs : List X) (d : X) → ((i : ℕ) → i < length xs → f (get_or xs i d) ≡ 0) → sum_by f xs ≡ 0
sum_by-none f xs d none =
    let all : All (λ x. f x ≤ 0) xs = λ k e under. let n = none k under in let same = get_or_default xs k d e under in omega (arith, n, ap f same) in
    let sums = sum_by-le f 0 xs all in
    omega (arith, sums)

-- how many slots have a page
pub held_in-le : (owners : List (Option ℕ)) → held_in owners ≤ length owners
held_in-le owners =
    let one : (owner : Option ℕ) → one_held owner ≤ 1 = λ owner. elim owner as (λ o. one_held o ≤ 1) [ None ↦ omega arith | Some page ↦ omega arith ] in
    let sums = sum_by-le one_held 1 owners (λ k d _. one (get_or owners k d)) in
    omega (arith, sums)

-- the count of one erase block changed twice
pub settled_used : (initial now later : List ℕ) (block count : ℕ) → block < length initial → now ≡ set initial block (get_or now block 0) → later ≡ set now block count → (get_or later block 0 ≡ count) × (later ≡ set initial block (get_or later block 0))
settled_used initial now later block count within is_now is_later =
    let inside : block < length now = omega (arith, ap length is_now, length-set initial block (get_or now block 0)) in
    let n : get_or later block 0 ≡ count = ap (λ (xs : List ℕ). get_or xs block 0) is_later ∙ get_or-set_same now block count 0 inside in
    (n, is_later ∙ ap (λ (xs : List ℕ). set xs block count) is_now ∙ set-set initial block (get_or now block 0) count ∙ ap (λ (m : ℕ). set initial block m) (sym n))

-- the slots past one that was settled
pub drop_settled : (owners later : List (Option ℕ)) (slot : ℕ) (good : Bool) → later ≡ (if good then set owners slot None else owners) → drop (slot + 1) later ≡ drop (slot + 1) owners
drop_settled owners later slot true is = ap (drop (slot + 1)) is ∙ drop-set-lt (slot + 1) owners slot None (omega arith)
drop_settled owners later slot false is = ap (drop (slot + 1)) is

-- the slots up to one that was settled
pub take_settled : (owners later : List (Option ℕ)) (slot : ℕ) → slot < length owners → later ≡ set owners slot None → held_in (take slot owners) ≡ 0 → held_in (take (slot + 1) later) ≡ 0
take_settled owners later slot within is before =
    let e : take (slot + 1) later ≡ take slot owners ++ None ∷ [] = ap (take (slot + 1)) is ∙ take_more_set owners slot None within in
    let sums = sum_by_push one_held (take slot owners) None in
    omega (arith, ap held_in e, sums, before)

pub both_true : (a b : Bool) → (a && b) ≡ true → (a ≡ true) × (b ≡ true)
both_true true b e = (refl, e)
both_true false b e = absurd (cc)
