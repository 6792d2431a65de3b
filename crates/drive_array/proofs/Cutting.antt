-- Pages of an image by die, one page more, and joined again.
use Rattle.std.proofs.Common.{◌≡◌, ◌≢◌, ℕ, zero, suc, ◌+◌, ◌-◌, ◌*◌, ◌/◌, ◌%◌, ◌<◌, ◌≤◌, List, [], ◌∷◌, ◌++◌, length, get_or, set, refl, ap, sym, subst, ◌∙◌, ⊎_elim, arith}
use Rattle.std.specs.Prelude.{◌⊎◌, map, replicate}
use Rattle.std.specs.List.{range_with_len}
use Rattle.std.proofs.lemmas.Bool.Decides.{nat_tests}
use Rattle.std.proofs.lemmas.List.{get_or-set_same, get_or-set_other, get_or-replicate, length-set}
use Rattle.std.proofs.lemmas.List.{length_push}
use Rattle.std.proofs.Math.ListN.{length-replicate}
use Rattle.std.proofs.lemmas.List.FromFn.{length-map-range_with_len, get_or-map-range_with_len, map-range_with_len_more, fill_by_all}
use Rattle.std.proofs.lemmas.Nat.{div-mul-add, div-add-mod', mod_below}
use Rattle.page_base.specs.Drive.{die_share}
use Rattle.page_base.proofs.Shares.{die_share_closed, place_inside}
use Rattle.drive_array.specs.Cut.{cut, cuts, joined}

-- whether two numbers are one
pub one_number : (i j : ℕ) → (i ≡ j) ⊎ (i ≢ j)
one_number i j = grind arith

-- the next page's place on its die is how many lie there so far
pub share_here : (n dies : ℕ) → 0 < dies → die_share n dies (n % dies) ≡ n / dies
share_here n dies some =
    let below = mod_below n dies some in
    let e : n + dies - 1 - n % dies ≡ n / dies * dies + (dies - 1) = omega (arith, div-add-mod' n dies) in
    die_share_closed n dies (n % dies) below ∙ ap (λ (m : ℕ). m / dies) e ∙ div-mul-add (n / dies) dies (dies - 1) (omega arith)

-- one page more
pub share_more_here : (n dies : ℕ) → die_share (suc n) dies (n % dies) ≡ die_share n dies (n % dies) + 1
unfolding die_share
share_more_here n dies = grind (arith, nat_tests)

pub share_more_there : (n dies die : ℕ) → n % dies ≢ die → die_share (suc n) dies die ≡ die_share n dies die
unfolding die_share
share_more_there n dies die apart = grind (arith, nat_tests)

pub share_none : (dies die : ℕ) → die_share 0 dies die ≡ 0
unfolding die_share
share_none dies die = refl

-- a page of a die is one of the image
pub page_inside : (n dies die place : ℕ) → 0 < dies → place < die_share n dies die → place * dies + die < n
page_inside zero dies die place some within = absurd (omega (arith, share_none dies die))
page_inside (suc n) dies die place some within = ⊎_elim
    (λ (here : n % dies ≡ die).
    let more : die_share (suc n) dies die ≡ die_share n dies die + 1 = subst (λ (d : ℕ). die_share (suc n) dies d ≡ die_share n dies d + 1) here (share_more_here n dies) in
    let share : die_share n dies die ≡ n / dies = subst (λ (d : ℕ). die_share n dies d ≡ n / dies) here (share_here n dies some) in
    ⊎_elim
    (λ (last : place ≡ die_share n dies die).
    let e : place * dies ≡ n / dies * dies = ap (λ (m : ℕ). m * dies) (last ∙ share) in
    omega (arith, e, div-add-mod' n dies, here))
    (λ (before : place ≢ die_share n dies die).
    let below : place < die_share n dies die = grind arith in
    omega (arith, page_inside n dies die place some below))
    (one_number place (die_share n dies die)))
    (λ (apart : n % dies ≢ die). omega (arith, page_inside n dies die place some (omega (arith, share_more_there n dies die apart))))
    (one_number (n % dies) die)

-- a page before the last one
push_before : (pages : List (List ℕ)) (page : List ℕ) (k : ℕ) → k < length pages → get_or (pages ++ page ∷ []) k [] ≡ get_or pages k []
push_before (p ∷ pages) page zero within = refl
push_before (p ∷ pages) page (suc k) within = push_before pages page k (omega arith)
push_before [] page k within = absurd (omega arith)

push_last : (pages : List (List ℕ)) (page : List ℕ) → get_or (pages ++ page ∷ []) (length pages) [] ≡ page
push_last [] page = refl
push_last (p ∷ pages) page = push_last pages page

-- the pages of a die after one page more, up to its share before
cut_front : (pages : List (List ℕ)) (page : List ℕ) (dies die : ℕ) → 0 < dies → map (λ place. get_or (pages ++ page ∷ []) (place * dies + die) []) (range_with_len 0 (die_share (length pages) dies die)) ≡ cut pages dies die
cut_front pages page dies die some =
    let n = die_share (length pages) dies die in
    fill_by_all (λ place. get_or pages (place * dies + die) []) (map (λ place. get_or (pages ++ page ∷ []) (place * dies + die) []) (range_with_len 0 n)) n []
    (length-map-range_with_len (λ place. get_or (pages ++ page ∷ []) (place * dies + die) []) 0 n)
    (λ k below. get_or-map-range_with_len (λ place. get_or (pages ++ page ∷ []) (place * dies + die) []) 0 n k k [] below (omega arith) ∙ push_before pages page (k * dies + die) (page_inside (length pages) dies die k some below))

pub cut_here : (pages : List (List ℕ)) (page : List ℕ) (dies : ℕ) → 0 < dies → cut (pages ++ page ∷ []) dies (length pages % dies) ≡ cut pages dies (length pages % dies) ++ page ∷ []
cut_here pages page dies some =
    let die = length pages % dies in
    let n = die_share (length pages) dies die in
    let f : ℕ → List ℕ = λ place. get_or (pages ++ page ∷ []) (place * dies + die) [] in
    let one : length (pages ++ page ∷ []) ≡ suc (length pages) = omega (arith, length_push pages page) in
    let size : die_share (length (pages ++ page ∷ [])) dies die ≡ n + 1 = ap (λ (m : ℕ). die_share m dies die) one ∙ share_more_here (length pages) dies in
    let e : n * dies ≡ length pages / dies * dies = ap (λ (m : ℕ). m * dies) (share_here (length pages) dies some) in
    let at : n * dies + die ≡ length pages = omega (arith, e, div-add-mod' (length pages) dies) in
    let last : f n ≡ page = ap (λ (k : ℕ). get_or (pages ++ page ∷ []) k []) at ∙ push_last pages page in
    ap (λ (m : ℕ). map f (range_with_len 0 m)) size ∙ map-range_with_len_more f 0 n n (omega arith) ∙ ap (λ (l : List (List ℕ)). l ++ f n ∷ []) (cut_front pages page dies die some) ∙ ap (λ (p : List ℕ). cut pages dies die ++ p ∷ []) last

pub cut_there : (pages : List (List ℕ)) (page : List ℕ) (dies die : ℕ) → 0 < dies → length pages % dies ≢ die → cut (pages ++ page ∷ []) dies die ≡ cut pages dies die
cut_there pages page dies die some apart =
    let one : length (pages ++ page ∷ []) ≡ suc (length pages) = omega (arith, length_push pages page) in
    let size : die_share (length (pages ++ page ∷ [])) dies die ≡ die_share (length pages) dies die = ap (λ (m : ℕ). die_share m dies die) one ∙ share_more_there (length pages) dies die apart in
    ap (λ (m : ℕ). map (λ place. get_or (pages ++ page ∷ []) (place * dies + die) []) (range_with_len 0 m)) size ∙ cut_front pages page dies die some

pub cuts_at : (pages : List (List ℕ)) (dies die : ℕ) (d : List (List ℕ)) → die < dies → get_or (cuts pages dies) die d ≡ cut pages dies die
cuts_at pages dies die d within = get_or-map-range_with_len (λ k. cut pages dies k) 0 dies die die d within (omega arith)

pub length-cuts : (pages : List (List ℕ)) (dies : ℕ) → length (cuts pages dies) ≡ dies
length-cuts pages dies = length-map-range_with_len (λ k. cut pages dies k) 0 dies

-- one page more goes to the end of its die
pub cuts_more : (pages : List (List ℕ)) (page : List ℕ) (dies : ℕ) → 0 < dies → set (cuts pages dies) (length pages % dies) (cut pages dies (length pages % dies) ++ page ∷ []) ≡ cuts (pages ++ page ∷ []) dies
cuts_more pages page dies some =
    let die = length pages % dies in
    let more = cut pages dies die ++ page ∷ [] in
    let below = mod_below (length pages) dies some in
    fill_by_all (λ k. cut (pages ++ page ∷ []) dies k) (set (cuts pages dies) die more) dies []
    (length-set (cuts pages dies) die more ∙ length-cuts pages dies)
    (λ k within. ⊎_elim
    (λ (here : die ≡ k). ap (λ (m : ℕ). get_or (set (cuts pages dies) die more) m []) (sym here) ∙ get_or-set_same (cuts pages dies) die more [] (omega (arith, length-cuts pages dies)) ∙ sym (cut_here pages page dies some) ∙ ap (λ (m : ℕ). cut (pages ++ page ∷ []) dies m) here)
    (λ (apart : die ≢ k). get_or-set_other (cuts pages dies) die k more [] (λ e. apart (sym e)) ∙ cuts_at pages dies k [] within ∙ sym (cut_there pages page dies k some apart))
    (one_number die k))

-- no page lies on any die
pub cuts_none : (dies : ℕ) → cuts [] dies ≡ replicate dies []
cuts_none dies = sym (fill_by_all (λ k. cut [] dies k) (replicate dies []) dies [] (length-replicate dies []) (λ k within. get_or-replicate dies k [] [] within ∙ sym (ap (λ (m : ℕ). map (λ place. get_or [] (place * dies + k) []) (range_with_len 0 m)) (share_none dies k))))

-- no die has more pages than the image
pub share_within : (n dies die : ℕ) → die_share n dies die ≤ n
share_within zero dies die = omega (arith, share_none dies die)
share_within (suc n) dies die = ⊎_elim
    (λ (here : n % dies ≡ die). omega (arith, share_within n dies die, subst (λ (d : ℕ). die_share (suc n) dies d ≡ die_share n dies d + 1) here (share_more_here n dies)))
    (λ (apart : n % dies ≢ die). omega (arith, share_within n dies die, share_more_there n dies die apart))
    (one_number (n % dies) die)

pub length-cut : (pages : List (List ℕ)) (dies die : ℕ) → length (cut pages dies die) ≡ die_share (length pages) dies die
length-cut pages dies die = length-map-range_with_len (λ place. get_or pages (place * dies + die) []) 0 (die_share (length pages) dies die)

-- a page of the image is at its place on its die
pub cut_at : (pages : List (List ℕ)) (dies page : ℕ) → 0 < dies → page < length pages → get_or (cut pages dies (page % dies)) (page / dies) [] ≡ get_or pages page []
cut_at pages dies page some within =
    let e : page / dies * dies + page % dies ≡ page = omega (arith, div-add-mod' page dies) in
    get_or-map-range_with_len (λ place. get_or pages (place * dies + page % dies) []) 0 (die_share (length pages) dies (page % dies)) (page / dies) (page / dies) [] (place_inside page (length pages) dies some within) (omega arith) ∙ ap (λ (k : ℕ). get_or pages k []) e

-- what was cut is joined to the whole
pub joined_cuts : (pages : List (List ℕ)) (dies : ℕ) → 0 < dies → joined (cuts pages dies) dies (length pages) ≡ pages
joined_cuts pages dies some = sym (fill_by_all (λ page. get_or (get_or (cuts pages dies) (page % dies) []) (page / dies) []) pages (length pages) [] refl
    (λ page within. sym (ap (λ (l : List (List ℕ)). get_or l (page / dies) []) (cuts_at pages dies (page % dies) [] (mod_below page dies some)) ∙ cut_at pages dies page some within)))
