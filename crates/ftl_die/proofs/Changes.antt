-- The changes of the bookkeeping keep what holds of it.
use Rattle.std.proofs.Common.{◌≡◌, ◌≢◌, ℕ, suc, ◌+◌, ◌-◌, ◌*◌, ◌/◌, ◌^◌, ◌<◌, ◌≤◌, true, false, List, [], ◌∷◌, length, get_or, set, take, replicate, sum, Option, Some, None, refl, ap, sym, ◌∙◌, subst, inl, inr, arith}
use Rattle.std.specs.Prelude.{Bool, ◌==◌, if◌then◌else◌, nat_lt}
use Rattle.std.specs.List.{All, IsFirstBest}
use Rattle.std.proofs.lemmas.List.{length-set, length-replicate, get_or-set_same, get_or-set_other, get_or-replicate, get_or_past, get_or_default, set_past}
use Rattle.std.proofs.lemmas.List.Sums.{sum_by-set, get_or-le-sum_by, sum_by-le, sum_by-cons, sum_by_more}
use Rattle.std.proofs.lemmas.List.Folds.{sum_by-replicate}
use Rattle.std.proofs.Math.Nat.{mul-le-mul_left}
use Rattle.std.proofs.lemmas.Bool.{cases_eq, cases_lt}
use Rattle.ftl_die.specs.declared.place.Place.{Place}
use Rattle.ftl_die.specs.declared.place.Place.TheVariants.{Unwritten, At, Held}
use Rattle.ftl_die.specs.Places.{one_in, one_at, live_in, one_held, held_in, vacated}
use Rattle.ftl_die.specs.Layouts.{IsLayout}

-- what stands in a list of equal values, also past its end
pub get_or-same : {X : Type 0} (n i : ℕ) (x : X) → get_or (replicate n x) i x ≡ x
get_or-same n i x =
    elim (cases_lt i n) [
      | inl within ↦ get_or-replicate n i x x within
      | inr beyond ↦ get_or_past (replicate n x) i x (rw (length-replicate n x) beyond)
    ]

-- the bookkeeping of pages that were never written
pub fresh : (pages blocks : ℕ) → pages + 128 ≤ 64 * blocks → blocks < 2 ^ 26 → IsLayout (replicate pages Unwritten) (replicate blocks 0) (replicate blocks 0) (replicate 64 None)
fresh pages blocks roomy few =
    let sizes : length (replicate pages Unwritten) ≡ pages = length-replicate pages Unwritten in
    let counts : length (replicate {A = ℕ} blocks 0) ≡ blocks = length-replicate blocks 0 in
    let nowhere = λ (page : ℕ). get_or-same pages page Unwritten in
    let free = λ (slot : ℕ). get_or-same {X = Option ℕ} 64 slot None in
    record {
      roomy = omega (arith, sizes, counts);
      few = omega (arith, counts);
      blocks = refl;
      slots = length-replicate {A = Option ℕ} 64 None;
      most_used = λ block. let none = get_or-same {X = ℕ} blocks block 0 in omega (arith, none);
      counted = λ block _.
          let none = get_or-same {X = ℕ} blocks block 0 in
          let sums = sum_by-replicate (one_in block) pages Unwritten in
          omega (arith, none, sums);
      total =
          let live = sum_by-replicate (λ (x : ℕ). x) blocks 0 in
          let sums = sum_by-replicate one_at pages Unwritten in
          omega (arith, live, sums);
      within = λ page raw there. let none = nowhere page in absurd (cc);
      held = λ page slot there. let none = nowhere page in absurd (cc);
      owned = λ slot page there. let none = free slot in absurd (cc);
    }

-- one page has another place
changed : (places : List Place) (used live live' : List ℕ) (owners owners' : List (Option ℕ)) (page : ℕ) (place : Place) → IsLayout places used live owners → page < length places → length live' ≡ length live → length owners' ≡ length owners → ((block : ℕ) → block < length live → get_or live' block 0 + one_in block (get_or places page Unwritten) ≡ get_or live block 0 + one_in block place) → sum live' + one_at (get_or places page Unwritten) ≡ sum live + one_at place → ((raw : ℕ) → place ≡ At raw → raw / 64 < length live) → ((slot : ℕ) → place ≡ Held slot → get_or owners' slot None ≡ Some page) → ((other slot : ℕ) → other ≢ page → get_or places other Unwritten ≡ Held slot → get_or owners' slot None ≡ Some other) → ((slot owner : ℕ) → get_or owners' slot None ≡ Some owner → get_or (set places page place) owner Unwritten ≡ Held slot) → IsLayout (set places page place) used live' owners'
changed places used live live' owners owners' page place is inside same_blocks same_slots moves totals within held others owned =
    let sizes : length (set places page place) ≡ length places = length-set places page place in
    let here : get_or (set places page place) page Unwritten ≡ place = get_or-set_same places page place Unwritten inside in
    record {
      roomy = omega (arith, sizes, same_blocks, is.roomy);
      few = omega (arith, same_blocks, is.few);
      blocks = is.blocks ∙ sym same_blocks;
      slots = same_slots ∙ is.slots;
      most_used = is.most_used;
      counted = λ block under.
          let below : block < length live = omega (arith, under, same_blocks) in
          let sums = sum_by-set (one_in block) places page place Unwritten inside in
          let move = moves block below in
          let count = is.counted block below in
          omega (arith, sums, move, count);
      total =
          let sums = sum_by-set one_at places page place Unwritten inside in
          omega (arith, sums, totals, is.total);
      within = λ other raw there.
          elim (cases_eq other page) [
            | inl same ↦ let e : place ≡ At raw = cc in let w = within raw e in omega (arith, w, same_blocks)
            | inr differ ↦ let w = is.within other raw (sym (get_or-set_other places page other place Unwritten differ) ∙ there) in omega (arith, w, same_blocks)
          ];
      held = λ other slot there.
          elim (cases_eq other page) [
            | inl same ↦ let e : place ≡ Held slot = cc in held slot e ∙ ap Some (sym same)
            | inr differ ↦ others other slot differ (sym (get_or-set_other places page other place Unwritten differ) ∙ there)
          ];
      owned = owned;
    }

-- a page of the die in an erase block is counted there
pub live-some : (places : List Place) (page raw : ℕ) → page < length places → get_or places page Unwritten ≡ At raw → 1 ≤ live_in (raw / 64) places
live-some places page raw inside there =
    let one : one_in (raw / 64) (get_or places page Unwritten) ≡ 1 = rw there (grind arith) in
    let sums = get_or-le-sum_by (one_in (raw / 64)) places page Unwritten inside in
    omega (arith, one, sums)

one_in-le : (block : ℕ) (place : Place) → one_in block place ≤ 1
one_in-le block Unwritten = omega arith
one_in-le block (At raw) = elim (raw / 64 == block) as (λ b. (if b then 1 else 0) ≤ 1) [ true ↦ omega arith | false ↦ omega arith ]
one_in-le block (Held slot) = omega arith

-- no more pages lie in an erase block than there are
pub live_in-le : (block : ℕ) (places : List Place) → live_in block places ≤ length places
live_in-le block places = let sums = sum_by-le (one_in block) 1 places (λ k d _. one_in-le block (get_or places k d)) in omega (arith, sums)

one_at-le : (place : Place) → one_at place ≤ 1
one_at-le Unwritten = omega arith
one_at-le (At raw) = omega arith
one_at-le (Held slot) = omega arith

-- a page that was in raw flash has no place
pub left_raw : (places : List Place) (used live : List ℕ) (owners : List (Option ℕ)) (page raw : ℕ) → IsLayout places used live owners → page < length places → get_or places page Unwritten ≡ At raw → IsLayout (set places page Unwritten) used (set live (raw / 64) (get_or live (raw / 64) 0 - 1)) owners
left_raw places used live owners page raw is inside there =
    let block = raw / 64 in
    let below : block < length live = is.within page raw there in
    let some : 1 ≤ get_or live block 0 = let a = live-some places page raw inside there in let b = is.counted block below in omega (arith, a, b) in
    let less = get_or live block 0 - 1 in
    changed places used live (set live block less) owners owners page Unwritten is inside (length-set live block less) refl
    (λ other under.
    elim (cases_eq other block) [
      | inl same ↦
          let e : get_or (set live block less) other 0 ≡ less = rw same (get_or-set_same live block less 0 below) in
          let l : get_or live other 0 ≡ get_or live block 0 = ap (λ (n : ℕ). get_or live n 0) same in
          let o : one_in other (get_or places page Unwritten) ≡ 1 = rw there (grind arith) in
          omega (arith, e, l, o, some)
      | inr differ ↦
          let e : get_or (set live block less) other 0 ≡ get_or live other 0 = get_or-set_other live block other less 0 differ in
          let o : one_in other (get_or places page Unwritten) ≡ 0 = rw there (grind arith) in
          omega (arith, e, o)
    ])
    (let sums = sum_by-set (λ (x : ℕ). x) live block less 0 below in
    let o : one_at (get_or places page Unwritten) ≡ 1 = rw there refl in
    omega (arith, sums, o, some))
    (λ other e. absurd (cc))
    (λ slot e. absurd (cc))
    (λ other slot _ e. is.held other slot e)
    (λ slot owner e.
    let o = is.owned slot owner e in
    let differ : owner ≢ page = λ same. let p : get_or places page Unwritten ≡ Held slot = subst (λ (n : ℕ). get_or places n Unwritten ≡ Held slot) same o in cc in
    get_or-set_other places page owner Unwritten Unwritten differ ∙ o)

-- a page that was in the buffer has no place
pub left_slot : (places : List Place) (used live : List ℕ) (owners : List (Option ℕ)) (page slot : ℕ) → IsLayout places used live owners → page < length places → get_or places page Unwritten ≡ Held slot → IsLayout (set places page Unwritten) used live (set owners slot None)
left_slot places used live owners page slot is inside there =
    let mine : get_or owners slot None ≡ Some page = is.held page slot there in
    let below : slot < length owners =
    elim (cases_lt slot (length owners)) [
      | inl within ↦ within
      | inr beyond ↦ let none = get_or_past owners slot None beyond in absurd (cc)
    ] in
    changed places used live live owners (set owners slot None) page Unwritten is inside refl (length-set owners slot None)
    (λ other _. let o : one_in other (get_or places page Unwritten) ≡ 0 = rw there refl in omega (arith, o))
    (let o : one_at (get_or places page Unwritten) ≡ 0 = rw there refl in omega (arith, o))
    (λ other e. absurd (cc))
    (λ other e. absurd (cc))
    (λ other s differ e.
    let o : get_or owners s None ≡ Some other = is.held other s e in
    let apart : s ≢ slot = λ same. let p : get_or owners slot None ≡ Some other = subst (λ (n : ℕ). get_or owners n None ≡ Some other) same o in differ (cc) in
    get_or-set_other owners slot s None None apart ∙ o)
    (λ s owner e.
    let apart : s ≢ slot = λ same. let p : get_or (set owners slot None) s None ≡ None = rw same (get_or-set_same owners slot None None below) in cc in
    let o : get_or places owner Unwritten ≡ Held s = is.owned s owner (sym (get_or-set_other owners slot s None None apart) ∙ e) in
    let differ : owner ≢ page = λ same. let p : get_or places page Unwritten ≡ Held s = subst (λ (n : ℕ). get_or places n Unwritten ≡ Held s) same o in apart (cc) in
    get_or-set_other places page owner Unwritten Unwritten differ ∙ o)

-- a page without a place goes to raw flash
pub laid_at : (places : List Place) (used live : List ℕ) (owners : List (Option ℕ)) (page raw : ℕ) → IsLayout places used live owners → page < length places → get_or places page Unwritten ≡ Unwritten → raw / 64 < length live → IsLayout (set places page (At raw)) used (set live (raw / 64) (get_or live (raw / 64) 0 + 1)) owners
laid_at places used live owners page raw is inside there below =
    let block = raw / 64 in
    let more = get_or live block 0 + 1 in
    changed places used live (set live block more) owners owners page (At raw) is inside (length-set live block more) refl
    (λ other under.
    let x : one_in other (get_or places page Unwritten) ≡ 0 = rw there refl in
    elim (cases_eq other block) [
      | inl same ↦
          let e : get_or (set live block more) other 0 ≡ more = rw same (get_or-set_same live block more 0 below) in
          let l : get_or live other 0 ≡ get_or live block 0 = ap (λ (n : ℕ). get_or live n 0) same in
          let o : one_in other (At raw) ≡ 1 = grind arith in
          omega (arith, e, l, o, x)
      | inr differ ↦
          let e : get_or (set live block more) other 0 ≡ get_or live other 0 = get_or-set_other live block other more 0 differ in
          let o : one_in other (At raw) ≡ 0 = grind arith in
          omega (arith, e, o, x)
    ])
    (let sums = sum_by-set (λ (x : ℕ). x) live block more 0 below in
    let o : one_at (get_or places page Unwritten) ≡ 0 = rw there refl in
    omega (arith, sums, o))
    (λ other e. let same : raw ≡ other = cc in subst (λ (n : ℕ). n / 64 < length live) same below)
    (λ slot e. absurd (cc))
    (λ other slot _ e. is.held other slot e)
    (λ slot owner e.
    let o = is.owned slot owner e in
    let differ : owner ≢ page = λ same. let p : get_or places page Unwritten ≡ Held slot = subst (λ (n : ℕ). get_or places n Unwritten ≡ Held slot) same o in cc in
    get_or-set_other places page owner (At raw) Unwritten differ ∙ o)

-- a page without a place goes to a free slot
pub held_at : (places : List Place) (used live : List ℕ) (owners : List (Option ℕ)) (page slot : ℕ) → IsLayout places used live owners → page < length places → get_or places page Unwritten ≡ Unwritten → slot < 64 → get_or owners slot None ≡ None → IsLayout (set places page (Held slot)) used live (set owners slot (Some page))
held_at places used live owners page slot is inside there under free =
    let below : slot < length owners = omega (arith, is.slots) in
    changed places used live live owners (set owners slot (Some page)) page (Held slot) is inside refl (length-set owners slot (Some page))
    (λ other _. let o : one_in other (get_or places page Unwritten) ≡ 0 = rw there refl in omega (arith, o))
    (let o : one_at (get_or places page Unwritten) ≡ 0 = rw there refl in omega (arith, o))
    (λ other e. absurd (cc))
    (λ s e. let same : s ≡ slot = cc in rw same (get_or-set_same owners slot (Some page) None below))
    (λ other s differ e.
    let o : get_or owners s None ≡ Some other = is.held other s e in
    let apart : s ≢ slot = λ same. let p : get_or owners slot None ≡ Some other = subst (λ (n : ℕ). get_or owners n None ≡ Some other) same o in cc in
    get_or-set_other owners slot s (Some page) None apart ∙ o)
    (λ s owner e.
    elim (cases_eq s slot) [
      | inl same ↦
          let p : get_or (set owners slot (Some page)) s None ≡ Some page = rw same (get_or-set_same owners slot (Some page) None below) in
          let mine : owner ≡ page = cc in
          rw mine (get_or-set_same places page (Held slot) Unwritten inside ∙ ap Held (sym same))
      | inr apart ↦
          let o : get_or places owner Unwritten ≡ Held s = is.owned s owner (sym (get_or-set_other owners slot s (Some page) None apart) ∙ e) in
          let differ : owner ≢ page = λ same. let p : get_or places page Unwritten ≡ Held s = subst (λ (n : ℕ). get_or places n Unwritten ≡ Held s) same o in cc in
          get_or-set_other places page owner (Held slot) Unwritten differ ∙ o
    ])

-- an erase block has another number of programmed pages
pub used_changed : (places : List Place) (used live : List ℕ) (owners : List (Option ℕ)) (block count : ℕ) → IsLayout places used live owners → count ≤ 64 → IsLayout places (set used block count) live owners
used_changed places used live owners block count is most = record {
  roomy = is.roomy;
  few = is.few;
  blocks = length-set used block count ∙ is.blocks;
  slots = is.slots;
  most_used = λ other.
      elim (cases_lt block (length used)) [
        | inl within ↦ elim (cases_eq other block) [
          | inl same ↦ let e : get_or (set used block count) other 0 ≡ count = rw same (get_or-set_same used block count 0 within) in omega (arith, e, most)
          | inr differ ↦ let e = get_or-set_other used block other count 0 differ in let u = is.most_used other in omega (arith, e, u)
        ]
        | inr beyond ↦ let e = set_past used block count beyond in let u = is.most_used other in rw e u
      ];
  counted = is.counted;
  total = is.total;
  within = is.within;
  held = is.held;
  owned = is.owned;
}

-- a number that none of the numbers is below
sum-le : (n : ℕ) (numbers : List ℕ) → All (λ x. n ≤ x) numbers → length numbers * n ≤ sum numbers
sum-le n [] all = omega arith
sum-le n (x ∷ xs) all =
    let first : n ≤ x = all 0 0 (omega arith) in
    let rest : length xs * n ≤ sum xs = sum-le n xs (λ k d under. all (suc k) d (omega arith)) in
    let sums : sum (x ∷ xs) ≡ x + sum xs = sum_by-cons (λ (y : ℕ). y) x xs in
    grind (arith, first, rest, sums)

-- the erase block with the fewest live pages has fewer than 64
pub fewest-dead : (places : List Place) (used live : List ℕ) (owners : List (Option ℕ)) (block : ℕ) → IsLayout places used live owners → IsFirstBest nat_lt live (length live) block → live_in block places < 64
fewest-dead places used live owners block is best =
    let n = get_or live block 0 in
    let all : All (λ x. n ≤ x) live = λ k d under. let b = best.1 k d under in let e = get_or_default live block d 0 best.0 in grind (arith, b, e) in
    let least : length live * n ≤ sum live = sum-le n live all in
    let ones = sum_by-le one_at 1 places (λ k d _. one_at-le (get_or places k d)) in
    let count = is.counted block best.0 in
    elim (cases_lt n 64) [
      | inl few ↦ omega (arith, few, count)
      | inr many ↦
          let more : length live * 64 ≤ length live * n = mul-le-mul_left (length live) many in
          absurd (omega (arith, more, least, ones, is.total, is.roomy))
    ]

pub fewest-least : (places : List Place) (used live : List ℕ) (owners : List (Option ℕ)) (block other : ℕ) → IsLayout places used live owners → IsFirstBest nat_lt live (length live) block → other < length used → live_in block places ≤ live_in other places
fewest-least places used live owners block other is best under =
    let below : other < length live = omega (arith, is.blocks) in
    let b = best.1 other 0 below in
    let c = is.counted block best.0 in
    let o = is.counted other below in
    grind (arith, b, c, o)

pub fresh_made : (places : List Place) (used live : List ℕ) (owners : List (Option ℕ)) (pages blocks : ℕ) → pages + 128 ≤ 64 * blocks → blocks < 2 ^ 26 → places ≡ replicate pages Unwritten → used ≡ replicate blocks 0 → live ≡ replicate blocks 0 → owners ≡ replicate 64 None → IsLayout places used live owners
fresh_made places used live owners pages blocks roomy few p u l o = rw (p, u, l, o) (fresh pages blocks roomy few)

-- the slot of a page is one of the 64
pub slot-below : (places : List Place) (used live : List ℕ) (owners : List (Option ℕ)) (page slot : ℕ) → IsLayout places used live owners → get_or places page Unwritten ≡ Held slot → slot < 64
slot-below places used live owners page slot is there =
    let mine = is.held page slot there in
    elim (cases_lt slot 64) [
      | inl within ↦ within
      | inr beyond ↦ let none = get_or_past owners slot None (omega (arith, is.slots, beyond)) in absurd (cc)
    ]

-- one more slot that has a page
pub held_more : (owners : List (Option ℕ)) (slot : ℕ) → slot < length owners → held_in (take slot owners) ≡ slot → one_held (get_or owners slot None) ≡ 1 → held_in (take (slot + 1) owners) ≡ slot + 1
held_more owners slot within before one = let sums = sum_by_more one_held owners slot None within in omega (arith, sums, before, one)

-- a page that leaves its place frees no slot that others have
held_in-vacated : (place : Place) (owners : List (Option ℕ)) → held_in (vacated place owners) ≤ held_in owners
held_in-vacated Unwritten owners = omega arith
held_in-vacated (At raw) owners = omega arith
held_in-vacated (Held slot) owners =
    elim (cases_lt slot (length owners)) [
      | inl within ↦ let sums = sum_by-set one_held owners slot None None within in omega (arith, sums)
      | inr beyond ↦ let e = set_past owners slot None beyond in omega (arith, ap held_in e)
    ]

-- the buffer has no more pages than the spare erase block has dead ones, also once a page was programmed at the head
pub spared_kept : (places : List Place) (used : List ℕ) (owners : List (Option ℕ)) (head spare page at : ℕ) → page < length places → at / 64 ≡ head → head < length used → held_in owners + live_in spare places ≤ get_or used spare 0 → held_in (vacated (get_or places page Unwritten) owners) + live_in spare (set places page (At at)) ≤ get_or (set used head (get_or used head 0 + 1)) spare 0
spared_kept places used owners head spare page at inside there within before =
    let free = held_in-vacated (get_or places page Unwritten) owners in
    let sums = sum_by-set (one_in spare) places page (At at) Unwritten inside in
    elim (cases_eq spare head) [
      | inl same ↦
          let n : get_or (set used head (get_or used head 0 + 1)) spare 0 ≡ get_or used spare 0 + 1 = rw same (get_or-set_same used head (get_or used head 0 + 1) 0 within) in
          let one = one_in-le spare (At at) in
          omega (arith, free, sums, n, one, before)
      | inr differ ↦
          let n = get_or-set_other used head spare (get_or used head 0 + 1) 0 differ in
          let zero : one_in spare (At at) ≡ 0 = let apart : (at / 64 == spare) ≡ false = grind (arith, there, differ) in ap (λ (b : Bool). if b then 1 else 0) apart in
          omega (arith, free, sums, n, zero, before)
    ]

-- and once a page was programmed there that is none of the die's
pub spared_more : (places : List Place) (used : List ℕ) (owners : List (Option ℕ)) (head spare : ℕ) → head < length used → held_in owners + live_in spare places ≤ get_or used spare 0 → held_in owners + live_in spare places ≤ get_or (set used head (get_or used head 0 + 1)) spare 0
spared_more places used owners head spare within before =
    elim (cases_eq spare head) [
      | inl same ↦
          let n : get_or (set used head (get_or used head 0 + 1)) spare 0 ≡ get_or used spare 0 + 1 = rw same (get_or-set_same used head (get_or used head 0 + 1) 0 within) in
          omega (arith, n, before)
      | inr differ ↦ let n = get_or-set_other used head spare (get_or used head 0 + 1) 0 differ in omega (arith, n, before)
    ]
