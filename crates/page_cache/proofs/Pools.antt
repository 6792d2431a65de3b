-- A pool and what it is seen as, as the code changes it.
use Rattle.std.proofs.Common.{◌≡◌, ℕ, ◌+◌, ◌-◌, ◌<◌, ◌≤◌, ◌^◌, true, false, List, [], ◌∷◌, ◌++◌, length, get_or, set, map, Option, Some, None, refl, sym, ap, ◌∙◌, subst, ⊎_elim, arith, get_or-set_same, get_or-set_other}
use Rattle.std.proofs.lemmas.List.{length-set, length-map, get_or-map, ext_get_or, map_push, get_or_read, set-get_or}
use Rattle.std.proofs.lemmas.Option.{slice_get-get_or, slice_get_past}
use Rattle.std.specs.Prelude.{◌≢◌, slice_get, is_some, option_map, ltb}
use Rattle.index_lists.specs.Words.{one_if, count, without, last, first, after}
use Rattle.index_lists.specs.Lists.{Lists, list_at, with_list}
use Rattle.index_lists.proofs.Counts.{not_same, without-absent}
use Rattle.std.proofs.lemmas.Bool.Decides.{nat_tests}
use Rattle.index_lists.proofs.Several.{list_at-same, list_at-other, length-with_list}
use Rattle.page_cache.specs.Cached.{Cached, copy_at, with_page, without_page, used_now}
use Rattle.page_cache.specs.Pool.{entry, IsFrames, seen, cached, IsPool}
use Rattle.page_cache.proofs.Entries.{set_cases, slice_get-set_same, slice_get-set_other, slice_get_none, slice_get_some, map_same, map-without, first-map, after-map, is_some_get, count-map, count-map_none, below_or_not}
use Rattle.index_lists.proofs.Neighbours.{count-first, count-after}
use Rattle.index_lists.proofs.Counts.{count_le_length}
use Rattle.page_cache.proofs.Frames.{use_bound, free_bound, free_unused, use_once, put_frames, free_frames, touch_frames}

unfoldable pub as_cached : ℕ → List (Option (List ℕ)) → List ℕ → Cached
as_cached frames copies order = record { frames = frames; copies = copies; order = order }

pub same_cached : (m n : ℕ) (xs ys : List (Option (List ℕ))) (os ps : List ℕ) → m ≡ n → xs ≡ ys → os ≡ ps → as_cached m xs os ≡ as_cached n ys ps
same_cached m n xs ys os ps a b e = cc

copies_at : (pages : List (List ℕ)) (places : List ℕ) (i : ℕ) → i < length places → get_or (map (slice_get pages) places) i None ≡ slice_get pages (entry places i)
copies_at pages places i l = get_or-map (slice_get pages) places i 0 None l

put_copies : (pages : List (List ℕ)) (owners places busy free : List ℕ) (used block f : ℕ) (page : List ℕ) → IsFrames pages owners places busy free used →
    block < length places → 0 < count f free → map (slice_get (set pages f page)) (set places block f) ≡ set (map (slice_get pages) places) block (Some page)
put_copies pages owners places busy free used block f page p lb k =
    let lf = free_bound pages owners places busy free used f p k in
    let zf = free_unused pages owners places busy free used f p k in
    let np = length-set places block f in
    let nm = length-map places (slice_get pages) in
    let nq = length-map (set places block f) (slice_get (set pages f page)) in
    let ns = length-set (map (slice_get pages) places) block (Some page) in
    ext_get_or None _ _ (omega arith)
    (λ i l. copies_at (set pages f page) (set places block f) i (omega arith)
    ∙ set_cases (λ (w : ℕ). slice_get (set pages f page) w ≡ get_or (set (map (slice_get pages) places) block (Some page)) i None) places block i f 0 lb
    (λ e. slice_get-set_same pages f page lf ∙ sym (ap (λ (j : ℕ). get_or (set (map (slice_get pages) places) block (Some page)) j None) e ∙ get_or-set_same (map (slice_get pages) places) block (Some page) None (omega arith)))
    (λ d. slice_get-set_other pages f (entry places i) page (λ e. let m : entry places i < length pages = omega arith in let o = p.used_place i (omega arith) m in not_same f (entry places i) busy zf o (sym e))
    ∙ sym (copies_at pages places i (omega arith)) ∙ sym (get_or-set_other (map (slice_get pages) places) block i (Some page) None d)))

-- a block without a frame owns none that is in use
no_owner : (pages : List (List ℕ)) (owners places busy free : List ℕ) (used block : ℕ) → IsFrames pages owners places busy free used → length pages ≤ entry places block → count block (map (entry owners) busy) ≡ 0
no_owner pages owners places busy free used block p out =
    count-map_none (entry owners) block busy (λ x k e. let a = p.placed x k in let b = ap (entry places) e in absurd (omega (arith, use_bound pages owners places busy free used x p k)))

put_seen : (pages : List (List ℕ)) (owners places busy free : List ℕ) (used block f : ℕ) (page : List ℕ) → IsFrames pages owners places busy free used →
    block < length places → length pages ≤ entry places block → 0 < count f free → seen (set pages f page) (set owners f block) (set places block f) (busy ++ f ∷ []) ≡ with_page (seen pages owners places busy) block page
unfolding as_cached
put_seen pages owners places busy free used block f page p lb out k =
    let lf = free_bound pages owners places busy free used f p k in
    let zf = free_unused pages owners places busy free used f p k in
    let lo = p.owners_len in
    let order : map (entry (set owners f block)) (busy ++ f ∷ []) ≡ last block (map (entry owners) busy) =
    map_push (entry (set owners f block)) busy f
    ∙ ap (λ (t : List ℕ). t ++ entry (set owners f block) f ∷ []) (map_same (entry (set owners f block)) (entry owners) busy (λ x u. get_or-set_other owners f x block 0 (λ e. not_same f x busy zf u (sym e))))
    ∙ ap (λ (w : ℕ). map (entry owners) busy ++ w ∷ []) (get_or-set_same owners f block 0 (omega arith))
    ∙ ap (λ (t : List ℕ). t ++ block ∷ []) (sym (without-absent block (map (entry owners) busy) (no_owner pages owners places busy free used block p out))) in
    same_cached _ _ _ _ _ _ (length-set pages f page) (put_copies pages owners places busy free used block f page p lb k) order

free_copies : (pages : List (List ℕ)) (owners places busy free : List ℕ) (used block f none : ℕ) (page : List ℕ) → IsFrames pages owners places busy free used →
    block < length places → entry places block ≡ f → f < length pages → length pages ≤ none → map (slice_get (set pages f page)) (set places block none) ≡ set (map (slice_get pages) places) block None
free_copies pages owners places busy free used block f none page p lb ef lf ln =
    let np = length-set places block none in
    let ng = length-set pages f page in
    let nm = length-map places (slice_get pages) in
    let nq = length-map (set places block none) (slice_get (set pages f page)) in
    let ns = length-set (map (slice_get pages) places) block None in
    let own_f : entry owners f ≡ block = subst (λ (w : ℕ). entry owners w ≡ block) ef (p.own_place block lb (omega arith)) in
    ext_get_or None _ _ (omega arith)
    (λ i l. copies_at (set pages f page) (set places block none) i (omega arith)
    ∙ set_cases (λ (w : ℕ). slice_get (set pages f page) w ≡ get_or (set (map (slice_get pages) places) block None) i None) places block i none 0 lb
    (λ e. slice_get_past (set pages f page) none (omega arith) ∙ sym (ap (λ (j : ℕ). get_or (set (map (slice_get pages) places) block None) j None) e ∙ get_or-set_same (map (slice_get pages) places) block None None (omega arith)))
    (λ d. slice_get-set_other pages f (entry places i) page (λ e. let m : entry places i < length pages = omega arith in d (sym (p.own_place i (omega arith) m) ∙ ap (entry owners) e ∙ own_f))
    ∙ sym (copies_at pages places i (omega arith)) ∙ sym (get_or-set_other (map (slice_get pages) places) block i None None d)))

-- two frames in use have different owners
one_owner : (pages : List (List ℕ)) (owners places busy free : List ℕ) (used f : ℕ) → IsFrames pages owners places busy free used → 0 < count f busy → (x : ℕ) → 0 < count x busy → entry owners x ≡ entry owners f → x ≡ f
one_owner pages owners places busy free used f p k x l e = sym (p.placed x l) ∙ ap (entry places) e ∙ p.placed f k

free_seen : (pages : List (List ℕ)) (owners places busy free : List ℕ) (used block f none : ℕ) (page : List ℕ) → IsFrames pages owners places busy free used →
    block < length places → entry places block ≡ f → f < length pages → length pages ≤ none → seen (set pages f page) owners (set places block none) (without f busy) ≡ without_page (seen pages owners places busy) block
unfolding as_cached
free_seen pages owners places busy free used block f none page p lb ef lf ln =
    let k : 0 < count f busy = subst (λ (w : ℕ). 0 < count w busy) ef (p.used_place block lb (omega arith)) in
    let own_f : entry owners f ≡ block = subst (λ (w : ℕ). entry owners w ≡ block) ef (p.own_place block lb (omega arith)) in
    same_cached _ _ _ _ _ _ (length-set pages f page) (free_copies pages owners places busy free used block f none page p lb ef lf ln)
    (map-without (entry owners) f busy (one_owner pages owners places busy free used f p k) ∙ ap (λ (w : ℕ). without w (map (entry owners) busy)) own_f)

touch_seen : (pages : List (List ℕ)) (owners places busy free : List ℕ) (used block f : ℕ) → IsFrames pages owners places busy free used →
    block < length places → entry places block ≡ f → f < length pages → seen pages owners places (last f busy) ≡ used_now (seen pages owners places busy) block
unfolding as_cached
touch_seen pages owners places busy free used block f p lb ef lf =
    let k : 0 < count f busy = subst (λ (w : ℕ). 0 < count w busy) ef (p.used_place block lb (omega arith)) in
    let own_f : entry owners f ≡ block = subst (λ (w : ℕ). entry owners w ≡ block) ef (p.own_place block lb (omega arith)) in
    same_cached _ _ _ _ _ _ refl refl
    (map_push (entry owners) (without f busy) f ∙ ap (λ (t : List ℕ). t ++ entry owners f ∷ []) (map-without (entry owners) f busy (one_owner pages owners places busy free used f p k))
    ∙ ap (λ (w : ℕ). without w (map (entry owners) busy) ++ w ∷ []) own_f)

-- the pool of these parts is seen as this
pub record Becomes (pages : List (List ℕ)) (owners places : List ℕ) (links : Lists) (used : ℕ) (v : Cached) : Type 0 where
  pub pool : IsPool pages owners places links used
  pub value : cached pages owners places links ≡ v

-- a frame goes from one list to the end of the other
pub record Moves (links links2 : Lists) (busy free : List ℕ) : Type 0 where
  pub nodes : links2.nodes ≡ links.nodes
  pub two : length links2.lists ≡ length links.lists
  pub busy_is : list_at links2 0 ≡ busy
  pub free_is : list_at links2 1 ≡ free

moves_by : (links links1 links2 : Lists) (i j f : ℕ) → i < length links.lists → j < length links.lists → i ≢ j → links1 ≡ with_list links i (without f (list_at links i)) → links2 ≡ with_list links1 j (list_at links1 j ++ f ∷ []) →
    (links2.nodes ≡ links.nodes) × (length links2.lists ≡ length links.lists) × (list_at links2 i ≡ without f (list_at links i)) × (list_at links2 j ≡ list_at links j ++ f ∷ [])
moves_by links links1 links2 i j f li lj d e g =
    subst (λ (t : Lists). (t.nodes ≡ links.nodes) × (length t.lists ≡ length links.lists) × (list_at t i ≡ without f (list_at links i)) × (list_at t j ≡ list_at links j ++ f ∷ [])) (sym g)
    (subst (λ (t : Lists). let r = with_list t j (list_at t j ++ f ∷ []) in (r.nodes ≡ links.nodes) × (length r.lists ≡ length links.lists) × (list_at r i ≡ without f (list_at links i)) × (list_at r j ≡ list_at links j ++ f ∷ [])) (sym e)
    (let one = with_list links i (without f (list_at links i)) in
    let n = length-with_list links i (without f (list_at links i)) in
    let other : list_at one j ≡ list_at links j = list_at-other links i j (without f (list_at links i)) (λ q. d (sym q)) in (
      refl,
      length-with_list one j (list_at one j ++ f ∷ []) ∙ n,
      list_at-other one j i (list_at one j ++ f ∷ []) d ∙ list_at-same links i (without f (list_at links i)) li,
      list_at-same one j (list_at one j ++ f ∷ []) (omega arith) ∙ ap (λ (t : List ℕ). t ++ f ∷ []) other,
    )))

-- what the code of put goes by
pub record Puts (pages : List (List ℕ)) (owners places : List ℕ) (links : Lists) (used block f : ℕ) : Type 0 where
  pub there : 0 < count f (list_at links 1)
  pub unused : count f (list_at links 0) ≡ 0
  pub frame : f < length pages
  pub node : f < links.nodes
  pub owner : f < length owners
  pub place : block < length places
  pub room : used < 2 ^ 19

pub puts : (pages : List (List ℕ)) (owners places : List ℕ) (links : Lists) (used block f : ℕ) (v : Cached) → IsPool pages owners places links used → cached pages owners places links ≡ v → block < length v.copies →
    first (list_at links 1) ≡ Some f → Puts pages owners places links used block f
puts pages owners places links used block f v p e lb h =
    let k = count-first (list_at links 1) f h in
    let q = p.frames in
    let lf = free_bound _ _ _ _ _ _ f q k in
    let lb2 = subst (λ (v : Cached). block < length v.copies) (sym e) lb in
    let lo = q.owners_len in
    let no = p.nodes in
    let ui = q.used_is in
    let fu = q.full in
    let sm = q.small in
    record {
      there = k;
      unused = free_unused _ _ _ _ _ _ f q k;
      frame = lf;
      node = omega arith;
      owner = omega arith;
      place = omega (arith, length-map places (slice_get pages));
      room = omega (arith, count_le_length f (list_at links 1));
    }

pub put_done : (pages : List (List ℕ)) (owners places : List ℕ) (links links1 links2 : Lists) (used block f : ℕ) (page : List ℕ) (v : Cached) → IsPool pages owners places links used → cached pages owners places links ≡ v →
    block < length v.copies → copy_at v block ≡ None → first (list_at links 1) ≡ Some f → links1 ≡ with_list links 1 (without f (list_at links 1)) → links2 ≡ with_list links1 0 (list_at links1 0 ++ f ∷ []) →
    Becomes (set pages f page) (set owners f block) (set places block f) links2 (used + 1) (with_page v block page)
put_done pages owners places links links1 links2 used block f page v p e lb none h g1 g2 =
    subst (λ (v : Cached). block < length v.copies → copy_at v block ≡ None → Becomes (set pages f page) (set owners f block) (set places block f) links2 (used + 1) (with_page v block page)) e
    (λ lb none. done lb none) lb none
  where
    done : block < length (map (slice_get pages) places) → get_or (map (slice_get pages) places) block None ≡ None →
        Becomes (set pages f page) (set owners f block) (set places block f) links2 (used + 1) (with_page (cached pages owners places links) block page)
    done lb none =
        let two = p.two in
        let k = count-first (list_at links 1) f h in
        let lp : block < length places = omega (arith, length-map places (slice_get pages)) in
        let out = slice_get_none pages (entry places block) (sym (copies_at pages places block lp) ∙ none) in
        let m = moves_by links links1 links2 1 0 f (omega arith) (omega arith) (λ e. absurd (omega arith)) g1 g2 in
        record {
          pool = record {
            nodes = m.0 ∙ p.nodes ∙ sym (length-set pages f page);
            two = m.1 ∙ p.two;
            frames = subst (λ (t : List ℕ). IsFrames (set pages f page) (set owners f block) (set places block f) t (list_at links2 1) (used + 1)) (sym m.3)
                (subst (λ (t : List ℕ). IsFrames (set pages f page) (set owners f block) (set places block f) (list_at links 0 ++ f ∷ []) t (used + 1)) (sym m.2) (put_frames _ _ _ _ _ _ block f page p.frames lp out k));
          };
          value = ap (seen (set pages f page) (set owners f block) (set places block f)) m.3 ∙ put_seen _ _ _ _ _ _ block f page p.frames lp out k;
        }

-- no free frame, no room
pub no_room : (pages : List (List ℕ)) (owners places : List ℕ) (links : Lists) (used : ℕ) (v : Cached) → IsPool pages owners places links used → cached pages owners places links ≡ v → length v.order < v.frames → first (list_at links 1) ≡ None → ⊥
no_room pages owners places links used v p e l h =
    let m : length (map (entry owners) (list_at links 0)) < length pages = subst (λ (v : Cached). length v.order < v.frames) (sym e) l in
    let q = p.frames.full in
    absurd (omega (arith, length-map (list_at links 0) (entry owners), none_empty (list_at links 1) h))
  where
    none_empty : (xs : List ℕ) → first xs ≡ None → length xs ≡ 0
    none_empty [] e = refl
    none_empty (x ∷ xs) e = absurd cc

-- what the other methods go by: f is the frame of the block
pub record Holds (pages : List (List ℕ)) (owners places : List ℕ) (links : Lists) (used block f : ℕ) : Type 0 where
  pub there : 0 < count f (list_at links 0)
  pub absent : count f (list_at links 1) ≡ 0
  pub frame : f < length pages
  pub node : f < links.nodes
  pub place : block < length places
  pub some_used : 0 < used
  pub small : length pages ≤ 2 ^ 19
  pub place_is : entry places block ≡ f

pub holds : (pages : List (List ℕ)) (owners places : List ℕ) (links : Lists) (used block f : ℕ) (v : Cached) → IsPool pages owners places links used → cached pages owners places links ≡ v → block < length v.copies →
    is_some (copy_at v block) ≡ true → f ≡ get_or places block f → Holds pages owners places links used block f
holds pages owners places links used block f v p e lb h g =
    subst (λ (v : Cached). block < length v.copies → is_some (copy_at v block) ≡ true → Holds pages owners places links used block f) e (λ lb h. done lb h) lb h
  where
    done : block < length (map (slice_get pages) places) → is_some (get_or (map (slice_get pages) places) block None) ≡ true → Holds pages owners places links used block f
    done lb h =
        let lp : block < length places = omega (arith, length-map places (slice_get pages)) in
        let pf : entry places block ≡ f = sym (get_or_read places block f lp g 0) in
        let lf0 : entry places block < length pages = slice_get_some pages (entry places block) (ap is_some (sym (copies_at pages places block lp)) ∙ h) in
        let lf : f < length pages = omega arith in
        let q = p.frames in
        let k : 0 < count f (list_at links 0) = subst (λ (w : ℕ). 0 < count w (list_at links 0)) pf (q.used_place block lp lf0) in
        let no = p.nodes in
        let ui = q.used_is in
        record {
          there = k;
          absent = (use_once _ _ _ _ _ _ f q k).1;
          frame = lf;
          node = omega arith;
          place = lp;
          some_used = omega (arith, count_le_length f (list_at links 0));
          small = q.small;
          place_is = pf;
        }

pub free_done : (pages : List (List ℕ)) (owners places : List ℕ) (links links1 links2 : Lists) (used block f none : ℕ) (page : List ℕ) (v : Cached) → IsPool pages owners places links used → cached pages owners places links ≡ v →
    Holds pages owners places links used block f → 2 ^ 19 ≤ none → links1 ≡ with_list links 0 (without f (list_at links 0)) → links2 ≡ with_list links1 1 (list_at links1 1 ++ f ∷ []) →
    Becomes (set pages f page) owners (set places block none) links2 (used - 1) (without_page v block)
free_done pages owners places links links1 links2 used block f none page v p e h ln g1 g2 =
    subst (λ (v : Cached). Becomes (set pages f page) owners (set places block none) links2 (used - 1) (without_page v block)) e
    (let two = p.two in
    let sm = h.small in
    let m = moves_by links links1 links2 0 1 f (omega arith) (omega arith) (λ e. absurd (omega arith)) g1 g2 in
    record {
      pool = record {
        nodes = m.0 ∙ p.nodes ∙ sym (length-set pages f page);
        two = m.1 ∙ p.two;
        frames = subst (λ (t : List ℕ). IsFrames (set pages f page) owners (set places block none) t (list_at links2 1) (used - 1)) (sym m.2)
            (subst (λ (t : List ℕ). IsFrames (set pages f page) owners (set places block none) (without f (list_at links 0)) t (used - 1)) (sym m.3) (free_frames _ _ _ _ _ _ block f none page p.frames h.place h.place_is h.frame (omega arith)));
      };
      value = ap (seen (set pages f page) owners (set places block none)) m.2 ∙ free_seen _ _ _ _ _ _ block f none page p.frames h.place h.place_is h.frame (omega arith);
    })

pub forget_done : (pages : List (List ℕ)) (owners places : List ℕ) (links links1 links2 : Lists) (used block f none : ℕ) (v : Cached) → IsPool pages owners places links used → cached pages owners places links ≡ v →
    Holds pages owners places links used block f → 2 ^ 19 ≤ none → links1 ≡ with_list links 0 (without f (list_at links 0)) → links2 ≡ with_list links1 1 (list_at links1 1 ++ f ∷ []) →
    Becomes pages owners (set places block none) links2 (used - 1) (without_page v block)
forget_done pages owners places links links1 links2 used block f none v p e h ln g1 g2 =
    subst (λ (t : List (List ℕ)). Becomes t owners (set places block none) links2 (used - 1) (without_page v block)) (set-get_or pages f []) (free_done pages owners places links links1 links2 used block f none (get_or pages f []) v p e h ln g1 g2)

pub touch_done : (pages : List (List ℕ)) (owners places : List ℕ) (links links1 : Lists) (used block f : ℕ) (v : Cached) → IsPool pages owners places links used → cached pages owners places links ≡ v →
    Holds pages owners places links used block f → links1 ≡ with_list links 0 (last f (list_at links 0)) → Becomes pages owners places links1 used (used_now v block)
touch_done pages owners places links links1 used block f v p e h g =
    subst (λ (v : Cached). Becomes pages owners places links1 used (used_now v block)) e
    (let two = p.two in
    let busy : list_at links1 0 ≡ last f (list_at links 0) = ap (λ (t : Lists). list_at t 0) g ∙ list_at-same links 0 (last f (list_at links 0)) (omega arith) in
    let free : list_at links1 1 ≡ list_at links 1 = ap (λ (t : Lists). list_at t 1) g ∙ list_at-other links 0 1 (last f (list_at links 0)) (λ e. absurd (omega arith)) in
    record {
      pool = record {
        nodes = ap nodes_of g ∙ p.nodes;
        two = ap (λ (t : Lists). length t.lists) g ∙ length-with_list links 0 (last f (list_at links 0)) ∙ p.two;
        frames = subst (λ (t : List ℕ). IsFrames pages owners places t (list_at links1 1) used) (sym busy) (subst (λ (t : List ℕ). IsFrames pages owners places (last f (list_at links 0)) t used) (sym free) (touch_frames _ _ _ _ _ _ f p.frames h.there));
      };
      value = ap (seen pages owners places) busy ∙ touch_seen _ _ _ _ _ _ block f p.frames h.place h.place_is h.frame;
    })
  where
    nodes_of : Lists → ℕ
    nodes_of t = t.nodes

-- the page of the frame is the block's copy
pub copy_read : (pages : List (List ℕ)) (owners places : List ℕ) (links : Lists) (used block f : ℕ) (page : List ℕ) (v : Cached) → cached pages owners places links ≡ v →
    Holds pages owners places links used block f → page ≡ get_or pages f page → copy_at v block ≡ Some page
copy_read pages owners places links used block f page v e h g =
    subst (λ (v : Cached). copy_at v block ≡ Some page) e
    (copies_at pages places block h.place ∙ ap (slice_get pages) h.place_is ∙ slice_get-get_or pages f page h.frame ∙ ap (λ (w : List ℕ). Some w) (sym g))

-- what stays when one list changes
pub node_stays : (links links1 : Lists) (i f : ℕ) (xs : List ℕ) → links1 ≡ with_list links i xs → f < links.nodes → f < links1.nodes
node_stays links links1 i f xs e l = subst (λ (t : Lists). f < t.nodes) (sym e) l

pub count_stays : (links links1 : Lists) (i j f : ℕ) (xs : List ℕ) → links1 ≡ with_list links i xs → j ≢ i → count f (list_at links j) ≡ 0 → count f (list_at links1 j) ≡ 0
count_stays links links1 i j f xs e d k = subst (λ (t : Lists). count f (list_at t j) ≡ 0) (sym e) (ap (count f) (list_at-other links i j xs d) ∙ k)

pub has_value : (pages : List (List ℕ)) (owners places : List ℕ) (links : Lists) (used block f n : ℕ) (v : Cached) → cached pages owners places links ≡ v → block < length v.copies → f ≡ get_or places block f → n ≡ length pages →
    ltb f n ≡ is_some (copy_at v block)
has_value pages owners places links used block f n v e lb g m =
    subst (λ (v : Cached). block < length v.copies → ltb f n ≡ is_some (copy_at v block)) e (λ lb. done lb) lb
  where
    done : block < length (map (slice_get pages) places) → ltb f n ≡ is_some (get_or (map (slice_get pages) places) block None)
    done lb =
        let lp : block < length places = omega (arith, length-map places (slice_get pages)) in
        let pf : f ≡ entry places block = get_or_read places block f lp g 0 in
        ap (λ (w : ℕ). ltb f w) m ∙ is_some_get pages f ∙ ap (λ (w : ℕ). is_some (slice_get pages w)) pf ∙ ap is_some (sym (copies_at pages places block lp))

pub first_owner : (pages : List (List ℕ)) (owners places : List ℕ) (links : Lists) (used f y : ℕ) (v : Cached) → IsPool pages owners places links used → cached pages owners places links ≡ v → first (list_at links 0) ≡ Some f → y ≡ get_or owners f y → Some y ≡ first v.order
first_owner pages owners places links used f y v p e h g =
    let lo = p.frames.owners_len in
    let lf : f < length owners = omega (arith, use_bound _ _ _ _ _ _ f p.frames (count-first (list_at links 0) f h)) in
    subst (λ (v : Cached). Some y ≡ first v.order) e (ap (λ (w : ℕ). Some w) (get_or_read owners f y lf g 0) ∙ sym (first-map (entry owners) (list_at links 0) f h))

pub first_bound : (pages : List (List ℕ)) (owners places : List ℕ) (links : Lists) (used f : ℕ) → IsPool pages owners places links used → first (list_at links 0) ≡ Some f → f < length owners
first_bound pages owners places links used f p h = let lo = p.frames.owners_len in omega (arith, use_bound _ _ _ _ _ _ f p.frames (count-first (list_at links 0) f h))

pub after_bound : (pages : List (List ℕ)) (owners places : List ℕ) (links : Lists) (used b f : ℕ) → IsPool pages owners places links used → after b (list_at links 0) ≡ Some f → f < length owners
after_bound pages owners places links used b f p h = let lo = p.frames.owners_len in omega (arith, use_bound _ _ _ _ _ _ f p.frames (count-after b (list_at links 0) f h))

-- the order after a block, by the frames
pub after_order : (pages : List (List ℕ)) (owners places : List ℕ) (links : Lists) (used block b : ℕ) (o : Option ℕ) (v : Cached) → IsPool pages owners places links used → cached pages owners places links ≡ v → Holds pages owners places links used block b →
    after b (list_at links 0) ≡ o → option_map (entry owners) o ≡ after block v.order
after_order pages owners places links used block b o v p e h g =
    let q = p.frames in
    let own_b : entry owners b ≡ block = subst (λ (w : ℕ). entry owners w ≡ block) h.place_is (q.own_place block h.place (let z = h.frame in let y = h.place_is in omega arith)) in
    subst (λ (v : Cached). option_map (entry owners) o ≡ after block v.order) e
    (ap (option_map (entry owners)) (sym g) ∙ sym (after-map (entry owners) b (list_at links 0) (one_owner _ _ _ _ _ _ b q h.there)) ∙ ap (λ (w : ℕ). after w (map (entry owners) (list_at links 0))) own_b)

pub after_owner : (pages : List (List ℕ)) (owners places : List ℕ) (links : Lists) (used block b f y : ℕ) (v : Cached) → IsPool pages owners places links used → cached pages owners places links ≡ v → Holds pages owners places links used block b →
    after b (list_at links 0) ≡ Some f → y ≡ get_or owners f y → Some y ≡ after block v.order
after_owner pages owners places links used block b f y v p e h g r =
    ap (λ (w : ℕ). Some w) (get_or_read owners f y (after_bound _ _ _ _ _ b f p g) r 0) ∙ after_order pages owners places links used block b (Some f) v p e h g

pub has_listed : (pages : List (List ℕ)) (owners places : List ℕ) (links : Lists) (used block f n : ℕ) (v : Cached) → IsPool pages owners places links used → cached pages owners places links ≡ v → block < length v.copies → f ≡ get_or places block f → n ≡ length pages →
    count block v.order ≡ one_if (ltb f n)
has_listed pages owners places links used block f n v p e lb g m =
    subst (λ (v : Cached). block < length v.copies → count block v.order ≡ one_if (ltb f n)) e (λ lb. done lb) lb
  where
    done : block < length (map (slice_get pages) places) → count block (map (entry owners) (list_at links 0)) ≡ one_if (ltb f n)
    done lb = ⊎_elim within out (below_or_not f n)
      where
        lp : block < length places
        lp = omega (arith, length-map places (slice_get pages))

        pf : f ≡ entry places block
        pf = get_or_read places block f lp g 0

        within : f < n → count block (map (entry owners) (list_at links 0)) ≡ one_if (ltb f n)
        within l =
            let q = p.frames in
            let t : ltb f n ≡ true = grind (arith, nat_tests) in
            let k : 0 < count f (list_at links 0) = subst (λ (w : ℕ). 0 < count w (list_at links 0)) (sym pf) (q.used_place block lp (omega (arith, pf))) in
            let own_f : entry owners f ≡ block = subst (λ (w : ℕ). entry owners w ≡ block) (sym pf) (q.own_place block lp (omega (arith, pf))) in
            subst (λ (w : ℕ). count w (map (entry owners) (list_at links 0)) ≡ one_if (ltb f n)) own_f
            (count-map (entry owners) f (list_at links 0) (one_owner _ _ _ _ _ _ f q k) ∙ (use_once _ _ _ _ _ _ f q k).0 ∙ ap one_if (sym t))

        out : n ≤ f → count block (map (entry owners) (list_at links 0)) ≡ one_if (ltb f n)
        out l =
            let t : ltb f n ≡ false = grind (arith, nat_tests) in
            no_owner _ _ _ _ _ _ block p.frames (omega (arith, pf)) ∙ ap one_if (sym t)

pub has_room : (pages : List (List ℕ)) (owners places : List ℕ) (links : Lists) (used : ℕ) (v : Cached) → IsPool pages owners places links used → cached pages owners places links ≡ v → length v.order ≤ v.frames
has_room pages owners places links used v p e =
    subst (λ (v : Cached). length v.order ≤ v.frames) e (let q = p.frames.full in omega (arith, length-map (list_at links 0) (entry owners)))
