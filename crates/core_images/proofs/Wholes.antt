-- In a core in which all is stored, the tables and the pages of flash are whole.
use Rattle.std.proofs.Common.{◌≡◌, ℕ, zero, suc, ◌+◌, ◌*◌, ◌<◌, ◌≤◌, List, [], ◌∷◌, ◌++◌, length, take, drop, map, get_or, Bool, true, false, eqb, Option, Some, None, refl, sym, ap, ◌∙◌, subst, arith, ⊎_elim, length-append}
use Rattle.std.specs.Prelude.{◌/◌, ◌%◌, ◌&&◌, not, is_some, nat_lt, slice_index, slice_index_or}
use Rattle.std.specs.List.{Contains, AllByRecursion, range_with_len}
use Rattle.std.proofs.lemmas.Bool.{cases_lt}
use Rattle.std.proofs.lemmas.Bool.Decides.{nat_tests}
use Rattle.std.proofs.lemmas.List.{get_or-drop, get_or_past, length-map, length-drop, take_at, drop_at}
use Rattle.std.proofs.lemmas.List.FromFn.{get_or-map-range_with_len, length-map-range_with_len}
use Rattle.std.proofs.lemmas.Option.{slice_get-get_or}
use Rattle.page_base.specs.Bytes.{Pages}
use Rattle.page_base.specs.Drive.{IsDrive}
use Rattle.name_table.specs.declared.files.FileRec.{FileRec}
use Rattle.name_table.specs.Files.{RiseFrom, IsTable}
use Rattle.extent_map.specs.declared.places.Place.{Place}
use Rattle.extent_map.specs.Places.{block_of, is_used, pages_on, IsSound}
use Rattle.image_format.specs.declared.meta.Meta.{Meta}
use Rattle.image_format.specs.Numbers.{are_zero, is_zero}
use Rattle.image_format.specs.Tails.{shares}
use Rattle.image_format.specs.Tables.{stored_of, stored_files, blocks_in, pages_of, placed_of}
use Rattle.image_format.specs.Whole.{block_at, goes_on, IsWhole, IsValid}
use Rattle.core_state.specs.State.{Page, File, Places, Core}
use Rattle.core_state.specs.Words.{from_fn}
use Rattle.core_state.specs.Contents.{content, contents, page_of, flashes}
use Rattle.core_state.specs.Placed.{IsFree}
use Rattle.core_state.specs.Coherent.{Coherent}
use Rattle.core_quick.proofs.Named.{in_here, in_there}
use Rattle.system_state.specs.Cores.{file_of}
use Rattle.system_metas.specs.Encode.{place_at, pages_placed, files_placed}
use Rattle.core_images.specs.Tables.{HasTables}
use Rattle.system_metas.proofs.Encoded.{places_are}
use Rattle.system_start.proofs.Opened.{is_there}
use Rattle.core_images.proofs.Files.{Tell, tell_head, tell_rest, head_count, rest_count}

-- ---- places by file and page, as the files' blocks in order

abbrev block : Place → ℕ
block p = p.block

record Plan (places : Places) (id page n : ℕ) : Type 0 where
  is : pages_placed places id page n ≡ pages_on id page (map block (pages_placed places id page n))
  count : length (pages_placed places id page n) ≡ n

plan : (places : Places) (id n page : ℕ) → ((j : ℕ) → page ≤ j → j < page + n → is_some (places id j) ≡ true) → Plan places id page n
plan places id zero page all = record { is = refl; count = refl }
plan places id (suc n) page all =
    let r = at (places id page) (all page (omega arith) (omega arith)) (plan places id n (page + 1) (λ j l m. all j (omega arith) (omega arith))) in
    record { is = r.0; count = r.1 }
  where
    rest : List Place
    rest = pages_placed places id (page + 1) n

    at : (o : Option ℕ) → is_some o ≡ true → Plan places id (page + 1) n
        → (place_at id page o ++ rest ≡ pages_on id page (map block (place_at id page o ++ rest))) × (length (place_at id page o ++ rest) ≡ suc n)
    at None e p = absurd cc
    at (Some b) e p = (ap (λ (xs : List Place). record { file = id; page = page; block = b } ∷ xs) p.is, ap suc p.count)

map_append : (xs ys : List Place) → map block (xs ++ ys) ≡ map block xs ++ map block ys
map_append [] ys = refl
map_append (x ∷ xs) ys = ap (λ (zs : List ℕ). block x ∷ zs) (map_append xs ys)

abbrev AreFull : Places → List FileRec → Type 0
AreFull places [] = Unit {0}
AreFull places (t ∷ ts) = ((p : ℕ) → is_some (places t.id p) ≡ nat_lt p (Pages t.len)) × AreFull places ts

pub files_planned : (places : Places) (ts : List FileRec) → AreFull places ts
    → (files_placed places (map file_of ts) ≡ placed_of (map stored_of ts) (map block (files_placed places (map file_of ts)))) × (length (files_placed places (map file_of ts)) ≡ pages_of (map stored_of ts))
files_planned places [] full = (refl, refl)
files_planned places (t ∷ ts) full =
    let n = Pages t.len in
    let own = pages_placed places t.id 0 n in
    let rest = files_placed places (map file_of ts) in
    let p = plan places t.id n 0 (λ j l m. full.0 j ∙ grind (arith, nat_tests)) in
    let r = files_planned places ts full.1 in
    let size : length (map block own) ≡ n = length-map own block ∙ p.count in
    let split = map_append own rest in (
      ap (λ (xs : List Place). xs ++ rest) p.is
          ∙ (ap (λ (xs : List Place). pages_on t.id 0 (map block own) ++ xs) r.0
          ∙ (ap (λ (bs : List ℕ). pages_on t.id 0 bs ++ placed_of (map stored_of ts) (map block rest)) (sym (take_at (map block own) (map block rest) n size))
          ∙ (ap (λ (bs : List ℕ). pages_on t.id 0 (take n (map block own ++ map block rest)) ++ placed_of (map stored_of ts) bs) (sym (drop_at (map block own) (map block rest) n size))
          ∙ ap (λ (bs : List ℕ). pages_on t.id 0 (take n bs) ++ placed_of (map stored_of ts) (drop n bs)) (sym split)))),
      length-append own rest ∙ omega (arith, p.count, r.1),
    )

-- ---- tables of a core

zero_list : (xs : List ℕ) → ((i : ℕ) → i < length xs → get_or xs i 0 ≡ 0) → are_zero xs ≡ true
zero_list [] all = refl
zero_list (x ∷ xs) all = both (is_zero x) (are_zero xs) (let e = all 0 (omega arith) in grind (arith, nat_tests)) (zero_list xs (λ i l. all (suc i) (omega arith)))
  where
    both : (a b : Bool) → a ≡ true → b ≡ true → (a && b) ≡ true
    both true true a b = refl
    both true false a b = absurd cc
    both false b a c = absurd cc

-- no tail: the length ends a page, or the last block isn't written, or the rest of its page is zeros
no_tail : (a b c : Bool) → (a ≡ false → b ≡ true → c ≡ true) → (not a && (b && not c)) ≡ false
no_tail true b c f = refl
no_tail false false c f = refl
no_tail false true c f = ap not (f refl refl)

module _ (m : Meta) (c : Core) (h : HasTables m c) (k : Coherent c) where
  full : (ts : List FileRec) → ((f : File) → Contains (map file_of ts) f → Contains c.names.files f) → AreFull c.places ts
  full [] all = tt
  full (t ∷ ts) all = (λ p. k.placed.have.exact (file_of t) (all (file_of t) (in_here (file_of t) (map file_of ts))) p, full ts (λ f i. all f (in_there (file_of t) f (map file_of ts) i)))

  all_full : AreFull c.places m.names.files
  all_full = full m.names.files (λ f i. subst (λ (fs : List File). Contains fs f) (sym h.files) i)

  -- the places of the tables are those of the core's files
  listed : IsSound m.extents → m.extents.placed ≡ files_placed c.places (map file_of m.names.files)
  listed sound = places_are c m.extents.placed k sound.order h.places ∙ ap (files_placed c.places) h.files

  planned : IsSound m.extents → m.extents.placed ≡ placed_of (stored_files m.names) (blocks_in m.extents)
  planned sound = let e = listed sound in e ∙ (files_planned c.places m.names.files all_full).0 ∙ ap (λ (ps : List Place). placed_of (stored_files m.names) (map block ps)) (sym e)

  counted : IsSound m.extents → length m.extents.placed ≡ pages_of (stored_files m.names)
  counted sound = ap length (listed sound) ∙ (files_planned c.places m.names.files all_full).1

  tells : IsSound m.extents → Tell c.places 1 m.names.files (blocks_in m.extents)
  tells sound id p l = ap (λ (f : Places). f id p) h.places ∙ ap (block_of id p) (planned sound)

  -- ---- written blocks are those of files

  marked_within : (b : ℕ) → slice_index_or m.written b false ≡ true → b < m.geometry.blocks
  marked_within b w = ⊎_elim (λ l. l) (λ (l : m.geometry.blocks ≤ b). absurd (let e : get_or m.written b false ≡ false = get_or_past m.written b false (let n = h.count in omega arith) in clash (sym e ∙ w))) (cases_lt b m.geometry.blocks)
    where
      clash : false ≡ true → ⊥
      clash e = cc

  marked_used : (b : ℕ) → slice_index_or m.written b false ≡ true → is_used b m.extents.placed ≡ true
  marked_used b w = at (is_used b m.extents.placed) refl
    where
      clash : false ≡ true → ⊥
      clash e = cc

      none : is_used b m.extents.placed ≡ false → IsFree c.places b
      none e id p is = clash (sym e ∙ is_there id p b m.extents.placed (ap (λ (f : Places). f id p) (sym h.places) ∙ is))

      at : (u : Bool) → is_used b m.extents.placed ≡ u → is_used b m.extents.placed ≡ true
      at true e = e
      at false e = absurd (clash (sym (k.placed.free b (none e)).written ∙ (h.written b (marked_within b w) ∙ w)))

  -- ---- the data blocks

  abbrev pub body : List Page
  body = from_fn m.geometry.blocks (flashes c.blocks)

  body_at : (b : ℕ) → b < m.geometry.blocks → block_at body b ≡ (c.blocks b).flash
  unfolding from_fn
  body_at b l = get_or-map-range_with_len (flashes c.blocks) 0 m.geometry.blocks b b [] l (omega arith)

  body_count : length body ≡ m.geometry.blocks
  unfolding from_fn
  body_count = length-map-range_with_len (flashes c.blocks) 0 m.geometry.blocks

  body_whole : AllByRecursion (λ (page : Page). length page ≡ 4096) body
  unfolding from_fn
  body_whole = each 0 m.geometry.blocks
    where
      each : (a n : ℕ) → AllByRecursion (λ (page : Page). length page ≡ 4096) (map (flashes c.blocks) (range_with_len a n))
      each a zero = tt
      each a (suc n) = ((k.copies a).flash, each (a + 1) n)

  -- ---- no file goes on behind its length

  module _ (clean : (b : ℕ) → (c.blocks b).clean ≡ true) where
    pub is_content : (b : ℕ) → b < m.geometry.blocks → slice_index_or m.written b false ≡ true → block_at body b ≡ content (c.blocks b)
    is_content b l w = body_at b l ∙ (k.clean b).written (clean b) (h.written b l ∙ w)

    tail_zero : (f : File) → Contains c.names.files f → (b : ℕ) → c.places f.id (f.len / 4096) ≡ Some b → slice_index_or m.written b false ≡ true → are_zero (drop (f.len % 4096) (block_at body b)) ≡ true
    tail_zero f i b at w = zero_list (drop over (block_at body b)) zero
      where
        over : ℕ
        over = f.len % 4096

        same : block_at body b ≡ content (c.blocks b)
        same = is_content b (marked_within b w) w

        long : length (block_at body b) ≡ 4096
        long = ap length same ∙ (k.copies b).whole

        zero : (j : ℕ) → j < length (drop over (block_at body b)) → get_or (drop over (block_at body b)) j 0 ≡ 0
        zero j l =
            let n = length-drop over (block_at body b) in
            let s = long in
            get_or-drop over (block_at body b) j 0
            ∙ (ap (λ (page : Page). get_or page (over + j) 0) same
            ∙ (ap (λ (o : Option ℕ). get_or (page_of (contents c.blocks) o) (over + j) 0) (sym at)
            ∙ k.tails f i (f.len / 4096) (over + j) (omega arith) (let e : f.len ≡ 4096 * (f.len / 4096) + f.len % 4096 = omega arith in omega arith)))

    ends : (i : ℕ) (ts : List FileRec) (bs : List ℕ) → RiseFrom i ts → length bs ≡ pages_of (map stored_of ts) → Tell c.places i ts bs → ((f : File) → Contains (map file_of ts) f → Contains c.names.files f)
        → AllByRecursion (λ s. goes_on m body s ≡ false) (shares (map stored_of ts) bs)
    ends i [] bs rise n tell all = tt
    ends i (t ∷ ts) bs rise n tell all = (first, ends (t.id + 1) ts (drop (Pages t.len) bs) rise.1 (rest_count t ts bs n) (tell_rest c.places i t ts bs rise tell) (λ f j. all f (in_there (file_of t) f (map file_of ts) j)))
      where
        last : ℕ
        last = slice_index (take (Pages t.len) bs) (t.len / 4096)

        inside : eqb (t.len % 4096) 0 ≡ false → t.len / 4096 < Pages t.len
        inside e = let z : 1 ≤ t.len % 4096 = grind (arith, nat_tests) in omega arith

        first : goes_on m body (record { file = stored_of t; blocks = take (Pages t.len) bs }) ≡ false
        first = no_tail (eqb (t.len % 4096) 0) (slice_index_or m.written last false) (are_zero (drop (t.len % 4096) (block_at body last)))
            (λ e w. tail_zero (file_of t) (all (file_of t) (in_here (file_of t) (map file_of ts))) last
            (tell_head c.places i t ts bs (t.len / 4096) rise tell ∙ slice_get-get_or (take (Pages t.len) bs) (t.len / 4096) 0 (let a = inside e in let b = head_count t ts bs n in omega arith)) w)

    -- ---- all of it

    pub whole : IsTable m.names → IsSound m.extents → IsWhole m body
    whole table sound = record {
      size = record { extents = h.extents; written = h.count };
      pages = body_count;
      places = planned sound;
      count = counted sound;
      written = marked_used;
      ends = ends 1 m.names.files (blocks_in m.extents) table.rise (length-map m.extents.placed block ∙ counted sound) (tells sound) (λ f i. subst (λ (fs : List File). Contains fs f) (sym h.files) i);
    }

    pub valid : IsTable m.names → IsSound m.extents → IsValid m body
    valid table sound = record {
      drive = subst (λ (b : ℕ). IsDrive b m.geometry.dies) h.blocks (subst (λ (d : ℕ). IsDrive c.shape.blocks d) h.dies k.placed.drive);
      table = table;
      sound = sound;
      whole = body_whole;
    }
