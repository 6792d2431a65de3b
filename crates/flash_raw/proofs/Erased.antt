-- Pages that are erased together.
use borrow.Rule.Slice.PartMut.{put_mid}
use Rattle.std.proofs.Common.{◌≡◌, ℕ, ◌+◌, ◌-◌, ◌*◌, ◌/◌, ◌<◌, ◌≤◌, true, false, List, [], ◌∷◌, ◌++◌, length, take, drop, map, set, get_or, replicate, Option, Some, None, refl, ap, ◌∙◌, sym, inl, inr, arith}
use Rattle.std.specs.Prelude.{◌==◌, if◌then◌else◌}
use Rattle.std.proofs.lemmas.List.{append_assoc, map-append, take-map, drop-map, length-take-le, length-map, length-replicate, length-append, get_or_append_left, get_or-append_right, get_or-take, get_or-drop, get_or-replicate, drop-drop, take_more_set, replicate_more, length-drop, get_or-set_same}
use Rattle.std.proofs.lemmas.Bool.{cases_lt}
use Rattle.flash_raw.specs.Raw.{IsProgrammed, IsNextErased, erased_block}
use Rattle.flash_raw.specs.Memory.{shown}
use Rattle.flash_raw.specs.declared.raw_page.RawPage.{RawPage}

-- one more page of a list is erased
pub erased_more : (pages : List RawPage) (i : ℕ) (page : RawPage) → i < length pages → map shown (take i pages) ≡ replicate i None → shown page ≡ None → map shown (take (i + 1) (set pages i page)) ≡ replicate (i + 1) None
erased_more pages i page within before erased =
    ap (map shown) (take_more_set pages i page within)
    ∙ map-append shown (take i pages) (page ∷ [])
    ∙ ap (λ xs. xs ++ shown page ∷ []) before
    ∙ ap (λ x. replicate i None ++ x ∷ []) erased
    ∙ replicate_more i None

-- and one more of a list that grows
pub erased_push : (pages : List RawPage) (i : ℕ) (page : RawPage) → map shown pages ≡ replicate i None → shown page ≡ None → map shown (pages ++ page ∷ []) ≡ replicate (i + 1) None
erased_push pages i page before erased =
    map-append shown pages (page ∷ [])
    ∙ ap (λ xs. xs ++ shown page ∷ []) before
    ∙ ap (λ x. replicate i None ++ x ∷ []) erased
    ∙ replicate_more i None

-- the pages of a block are erased, and told
pub erased_block-told : (pages items part : List RawPage) (block count : ℕ) → items ≡ pages → count ≡ 64 → map shown part ≡ replicate 64 None → map shown (put_mid (64 * block) count items part) ≡ erased_block (map shown pages) block
erased_block-told pages items part block count same all erased =
    let front = 64 * block in
    let kept : List (Option (List ℕ)) = take front (map shown pages) in
    ap (λ (xs : List RawPage). map shown (put_mid front count xs part)) same
    ∙ ap (λ (n : ℕ). map shown (put_mid front n pages part)) all
    ∙ map-append shown (take front pages) (part ++ drop 64 (drop front pages))
    ∙ ap (λ (xs : List (Option (List ℕ))). xs ++ map shown (part ++ drop 64 (drop front pages))) (sym (take-map shown front pages))
    ∙ ap (λ (xs : List (Option (List ℕ))). kept ++ xs) (map-append shown part (drop 64 (drop front pages)))
    ∙ ap (λ (xs : List (Option (List ℕ))). kept ++ (xs ++ map shown (drop 64 (drop front pages)))) erased
    ∙ ap (λ (xs : List (Option (List ℕ))). kept ++ (replicate 64 None ++ xs)) (ap (map shown) (drop-drop 64 front pages) ∙ sym (drop-map shown (front + 64) pages))
    ∙ sym (append_assoc kept (replicate 64 None) (drop (front + 64) (map shown pages)))

-- how many pages a block has among the pages, and how many there are after a change of these
pub block-length : (items : List RawPage) (front count : ℕ) → count ≡ 64 → front + 64 ≤ length items → length (take count (drop front items)) ≡ 64
block-length items front count all upto =
    length-take-le count (drop front items) (simp length-drop (omega arith)) ∙ all

pub put_mid-length : (items part : List RawPage) (front count : ℕ) → count ≡ 64 → front + 64 ≤ length items → map shown part ≡ replicate 64 None → length (put_mid front count items part) ≡ length items
put_mid-length items part front count all upto erased =
    let size : length part ≡ 64 = sym (length-map part shown) ∙ ap length erased in
    let before : length (take front items) ≡ front = length-take-le front items (omega arith) in
    let left : length (drop count (drop front items)) ≡ length items - front - count = length-drop count (drop front items) ∙ ap (λ (n : ℕ). n - count) (length-drop front items) in
    length-append (take front items) (part ++ drop count (drop front items))
    ∙ ap (λ (n : ℕ). length (take front items) + n) (length-append part (drop count (drop front items)))
    ∙ omega (arith, size, before, left)

-- the pages of a block, so many as are erased there
erased_pages-length : (pages : List (Option (List ℕ))) (front : ℕ) → front + 64 ≤ length pages → length (take front pages ++ replicate 64 None) ≡ front + 64
erased_pages-length pages front upto =
    let lengths : length (take front pages) ≡ front = length-take-le front pages (omega arith) in
    let middle : length (replicate {A = Option (List ℕ)} 64 None) ≡ 64 = refl in
    length-append (take front pages) (replicate 64 None) ∙ omega (arith, lengths, middle)

-- a page of a block that is erased, of so many
pub get_or-erased_block : (pages : List (Option (List ℕ))) (block page : ℕ) → 64 * block + 64 ≤ length pages → get_or (erased_block pages block) page None ≡ (if page / 64 == block then None else get_or pages page None)
get_or-erased_block pages block page upto =
    let front = 64 * block in
    let before : List (Option (List ℕ)) = take front pages in
    let middle : List (Option (List ℕ)) = replicate 64 None in
    let rest : List (Option (List ℕ)) = drop (front + 64) pages in
    let size : length before ≡ front = length-take-le front pages (omega arith) in
    let sizes : length (before ++ middle) ≡ front + 64 = erased_pages-length pages front upto in
    elim (cases_lt page front) [
      | inl below ↦
          let other : (page / 64 == block) ≡ false = grind arith in
          let there : page < length (before ++ middle) = omega (arith, sizes) in
          let here : page < length before = omega (arith, size) in
          rw other (get_or_append_left (before ++ middle) rest None page there ∙ get_or_append_left before middle None page here ∙ get_or-take front pages page None below)
      | inr beyond ↦ elim (cases_lt page (front + 64)) [
        | inl inside ↦
            let same : (page / 64 == block) ≡ true = grind arith in
            let there : page < length (before ++ middle) = omega (arith, sizes) in
            rw same (get_or_append_left (before ++ middle) rest None page there ∙ get_or-append_right before middle front page None size beyond ∙ get_or-replicate 64 (page - front) None None (omega arith))
        | inr after ↦
            let other : (page / 64 == block) ≡ false = grind arith in
            let back : front + 64 + (page - (front + 64)) ≡ page = omega arith in
            rw other (get_or-append_right (before ++ middle) rest (front + 64) page None sizes after ∙ get_or-drop (front + 64) pages (page - (front + 64)) None ∙ ap (λ (n : ℕ). get_or pages n None) back)
      ]
    ]

pub length-erased_block : (pages : List (Option (List ℕ))) (block : ℕ) → 64 * block + 64 ≤ length pages → length (erased_block pages block) ≡ length pages
length-erased_block pages block upto =
    let front = 64 * block in
    let sizes : length (take front pages ++ replicate 64 None) ≡ front + 64 = erased_pages-length pages front upto in
    let rest = length-drop (front + 64) pages in
    length-append (take front pages ++ replicate 64 None) (drop (front + 64) pages) ∙ omega (arith, sizes, rest)

-- the first page is the next one to program where it is erased
pub is_erased : (pages : List (Option (List ℕ))) → 0 < length pages → get_or pages 0 None ≡ None → IsNextErased pages 0
is_erased pages within erased = record { within = within; erased = erased; below = λ lower under _. absurd (omega (arith, under)) }

-- and so it is in raw flash of which all is erased
pub is_erased-all : (blocks : ℕ) → 0 < blocks → IsNextErased (replicate (64 * blocks) None) 0
is_erased-all blocks some =
    let size : length (replicate {A = Option (List ℕ)} (64 * blocks) None) ≡ 64 * blocks = length-replicate (64 * blocks) None in
    let first : get_or (replicate {A = Option (List ℕ)} (64 * blocks) None) 0 None ≡ None = get_or-replicate (64 * blocks) 0 None None (omega (arith, some)) in
    is_erased (replicate (64 * blocks) None) (omega (arith, size, some)) first

-- and so it is in a block that was erased
pub is_erased-block : (pages : List (Option (List ℕ))) → 64 ≤ length pages → IsNextErased (erased_block pages 0) 0
is_erased-block pages upto =
    let size = length-erased_block pages 0 (omega arith) in
    is_erased (erased_block pages 0) (omega (arith, size)) (get_or-erased_block pages 0 0 (omega arith))

-- a page that was programmed
pub is_programmed : (pages : List (Option (List ℕ))) (page : ℕ) (bytes : List ℕ) → page < length pages → IsProgrammed (set pages page (Some bytes)) page
is_programmed pages page bytes within = rw (get_or-set_same pages page (Some bytes) None within) refl
