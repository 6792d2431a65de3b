-- A file goes, with its blocks: no call in flight meets it.
use Rattle.std.proofs.Common.{append-nil, ◌≡◌, ℕ, ◌+◌, ◌-◌, ◌^◌, ◌<◌, ◌≤◌, Bool, true, false, List, [], ◌++◌, length, take, Option, Some, None, refl, sym, ap, ◌∙◌, subst, inl, ⊎_elim, arith}
use Rattle.std.specs.Prelude.{◌≢◌, ◌==◌, ◌&&◌, nat_lt, is_some, option_map, if◌then◌else◌}
use Rattle.std.specs.List.{Contains, slice_get}
use Rattle.std.proofs.lemmas.Bool.Decides.{nat_tests}
use Rattle.page_base.specs.Bytes.{Pages}
use Rattle.dispatcher.specs.declared.side.Side.{Side}
use Rattle.dispatcher.specs.declared.side.Side.TheVariants.{Host, Drive}
use Rattle.flash_die.specs.Dies.{DieView}
use Rattle.coherence.specs.Paired.{Paired, cache_at, flags_at}
use Rattle.coherence.specs.Agree.{Cell, cell_at, released_cell, Agrees}
use Rattle.index_lists.specs.Words.{count}
use Rattle.index_lists.proofs.Counts.{count-nil}
use Rattle.extent_map.specs.Places.{Places as Extents, AreInOrder}
use Rattle.name_table.specs.declared.files.FileRec.{FileRec}
use Rattle.name_table.specs.Files as name_table
use Rattle.name_table.specs.Files.{IsTable, file_named}
use Rattle.plain_files.specs.declared.calls.Call.TheVariants.{Remove}
use Rattle.plain_files.specs.declared.calls.Reply.TheVariants.{Done}
use Rattle.plain_files.specs.Plain.{Answered, early, answer}
use Rattle.core_state.specs.Words.{is_at, listed_to, is_in, without_all}
use Rattle.core_state.specs.State.{File, Claim, Flight, Places, Core}
use Rattle.core_state.specs.Contents.{span_block}
use Rattle.core_state.specs.Reach.{is_data, is_sync, file_by, len_or_none, file_for}
use Rattle.core_state.specs.PlainOf.{plain}
use Rattle.core_state.specs.InFlight.{claim_of, claims}
use Rattle.core_state.specs.Resizing.{free_blocks, new_places, renewed_in, follows}
use Rattle.core_state.specs.PageEvents.{spans}
use Rattle.core_state.specs.LaneEvents.{IsUnheld}
use Rattle.core_state.specs.Coherent.{Coherent}
use Rattle.core_lemmas.proofs.Spans.{file_in}
use Rattle.core_quick.proofs.Removed.{without_file, removed_is}
use Rattle.core_quick.proofs.Releasing.{gone_of}
use Rattle.core_quick.proofs.Released.{place_kept}
use Rattle.core_stores.proofs.Keeping.{Alone}
use Rattle.system_state.specs.Jobs.{JobView}
use Rattle.system_state.specs.Cores.{core_of, flash_of, blocks_of, names_of, places_of, file_of as core_file}
use Rattle.system_state.specs.Kept.{slot_of, AreCaches, IsKept}
use Rattle.system_state.specs.declared.state.State.{State}
use Rattle.system_state.proofs.Flash.{agrees_self}
use Rattle.call_checks.proofs.Found.{row_seen}
use Rattle.system_blocks.specs.Sweeps.{sweep}
use Rattle.system_blocks.specs.Spans.{let_go, CanLetGo, unmarked, IsMarked, resized, gone_at, fresh_at, renewed_by, AlongBoth}
use Rattle.system_blocks.proofs.Bulk.{Inside, cells_out, let_goes}
use Rattle.system_blocks.proofs.Counted.{any_same}
use Rattle.system_blocks.proofs.Marks.{AreMarked, marks_out, marks_len, marked_fits}
use Rattle.system_blocks.proofs.Resized.{resized_rows, fresh_listed, AreResized, are_resized}
use Rattle.system_blocks.proofs.Room.{let_go_fits, frames_out}
use Rattle.system_blocks.proofs.Rows.{rows as places_at}
use Rattle.system_begin.proofs.Clashes.{sync_reach}
use Rattle.system_quick.specs.Tables.{removed_from}
use Rattle.system_quick.proofs.Lists.{other_stays}
use Rattle.system_quick.proofs.Named.{later, removed_names}
use Rattle.system_quick.proofs.Effects.{lock_from}
use Rattle.system_quick.proofs.Outcome.{IsOutcome}

take_none : (xs : List ℕ) (n : ℕ) → take (0 - n) xs ≡ []
take_none xs n = let e : 0 - n ≡ 0 = omega arith in ap (λ (m : ℕ). take m xs) e

held_not : (t : Bool) (n id : ℕ) → t ≡ true → (t && (n == id)) ≡ false → n ≢ id
held_not t n id e f g = grind (arith, nat_tests)

module _ {D J : Type 0} (seen : D → DieView) (suits : J → JobView → Type 0) (s : State D J) (k : IsKept seen suits s) (h : Coherent (core_of seen s)) (table : IsTable s.meta.names) (order : AreInOrder s.meta.extents.placed)
    (name : List ℕ) (r : FileRec) (found : file_named name s.meta.names.files ≡ Some r) where
  abbrev c : Core
  c = core_of seen s

  abbrev f : File
  f = core_file r

  abbrev from : ℕ
  from = Pages r.len

  abbrev ext : Extents
  ext = s.meta.extents

  abbrev fresh : List ℕ
  fresh = take (0 - from) (free_blocks c.shape c.names.files c.places)

  abbrev gone : List ℕ
  gone = gone_of c r.id from 0

  found_core : file_by c.names.files (Some name) ≡ Some f
  found_core = row_seen s.meta.names.files (Some name) ∙ ap (option_map core_file) found

  there : Contains c.names.files f
  there = file_in c.names.files (Some name) f found_core

  exact : (p : ℕ) → is_some (places_at ext.placed r.id p) ≡ nat_lt p from
  exact p = h.placed.have.exact f there p

  enough : 0 - from ≤ length (free_blocks c.shape c.names.files c.places)
  enough = omega arith

  rows_are : places_at (resized ext r.id from 0).placed ≡ new_places c.places r.id fresh from 0
  rows_are = resized_rows c.shape c.names ext k.tables.extents order h.placed.have r.id from 0 exact enough

  -- ---- blocks that go

  gone_alone : Alone (gone_at ext r.id 0)
  gone_alone i j b e d = let z = (h.placed.have.apart r.id r.id (0 + i) (0 + j) b e d).1 in omega arith

  gone_inside : Inside (gone_at ext r.id 0) s.sizes.blocks
  gone_inside i b e = h.placed.have.within r.id (0 + i) b e

  -- and none comes
  no_fresh : (i : ℕ) → fresh_at ext r.id from 0 i ≡ None
  no_fresh i = ap (λ (w : Places). w r.id (from + i)) rows_are ∙ own r.id
    where
      own : (id : ℕ) → new_places c.places id fresh from 0 id (from + i) ≡ None
      own id = by (id == id) (nat_lt (from + i) 0) (same id) (low (from + i))
        where
          same : (n : ℕ) → (n == n) ≡ true
          same n = grind (arith, nat_tests)

          low : (n : ℕ) → nat_lt n 0 ≡ false
          low n = grind (arith, nat_tests)

          by : (t u : Bool) → t ≡ true → u ≡ false → (if t then (if u then (if nat_lt (from + i) from then c.places id (from + i) else slice_get fresh (from + i - from)) else None) else c.places id (from + i)) ≡ None
          by true false e g = refl
          by true true e g = absurd (cc)
          by false u e g = absurd (cc)

  fresh_alone : Alone (fresh_at ext r.id from 0)
  fresh_alone i j b e d = absurd (let z = no_fresh i in cc)

  fresh_inside : Inside (fresh_at ext r.id from 0) s.sizes.blocks
  fresh_inside i b e = absurd (let z = no_fresh i in cc)

  fresh_none : fresh ≡ []
  fresh_none = take_none (free_blocks c.shape c.names.files c.places) from

  none_in : (b : ℕ) → count b fresh ≡ 0
  none_in b = ap (count b) fresh_none ∙ count-nil b

  before : Agrees s.pair s.sizes.blocks (cell_at s.pair) c.host_order c.drive_order c.unclean
  before = agrees_self s.pair s.sizes.blocks k.caches.blocks k.caches.host_blocks k.caches.drive_blocks

  abbrev pair2 : Paired
  pair2 = renewed_by ext r.id from 0 let_go s.pair

  abbrev marks2 : List Bool
  marks2 = renewed_by ext r.id from 0 unmarked s.meta.written

  moved : AreResized s.sizes s.pair pair2 gone fresh c.host_order c.drive_order c.unclean
  moved = are_resized s.sizes s.pair ext r.id from 0 fresh c.host_order c.drive_order c.unclean before gone_alone gone_inside fresh_alone fresh_inside
      (fresh_listed c.shape c.names ext k.tables.extents order h.placed.have r.id from 0 exact enough)
      (λ b l. absurd (let z = none_in b in omega arith)) (λ b l. none_in b)

  -- ---- what the code asks

  abbrev mid : Paired
  mid = sweep (from - 0) (gone_at ext r.id 0) let_go s.pair

  mid_agrees : Agrees mid s.sizes.blocks (cells_out (from - 0) (gone_at ext r.id 0) (cell_at s.pair)) (without_all (listed_to (from - 0) (gone_at ext r.id 0)) c.host_order) (without_all (listed_to (from - 0) (gone_at ext r.id 0)) c.drive_order) (without_all (listed_to (from - 0) (gone_at ext r.id 0)) c.unclean)
  mid_agrees = let_goes (gone_at ext r.id 0) s.sizes.blocks s.pair (cell_at s.pair) c.host_order c.drive_order c.unclean before gone_alone gone_inside (from - 0)

  module _ (versions : (b : ℕ) → b < s.sizes.blocks → (flags_at s.pair b).version ≤ 2 ^ 64 - 3) where
    one_more : (t : Bool) (x : Cell) → x.version ≤ 2 ^ 64 - 3 → (if t then released_cell x else x).version + 1 < 2 ^ 64
    one_more true x l = omega arith
    one_more false x l = omega arith

    pub go_fits : AlongBoth ext r.id from 0 let_go CanLetGo s.pair
    go_fits = record {
      gone = let_go_fits (from - 0) (gone_at ext r.id 0) s.sizes.blocks s.pair (cell_at s.pair) c.host_order c.drive_order c.unclean before gone_alone gone_inside (λ b l. let v = versions b l in omega arith);
      fresh = let_go_fits (0 - from) (fresh_at ext r.id from 0) s.sizes.blocks mid _ _ _ _ mid_agrees fresh_alone fresh_inside
          (λ b l. one_more (is_in b (listed_to (from - 0) (gone_at ext r.id 0))) (cell_at s.pair b) (versions b l));
    }

  pub marks_fit : AlongBoth ext r.id from 0 unmarked IsMarked s.meta.written
  marks_fit = record {
    gone = marked_fits (gone_at ext r.id 0) s.sizes.blocks s.meta.written k.caches.marks gone_inside (from - 0);
    fresh = marked_fits (fresh_at ext r.id from 0) s.sizes.blocks _ (marks_len (gone_at ext r.id 0) s.sizes.blocks s.meta.written k.caches.marks (from - 0)) fresh_inside (0 - from);
  }

  -- ---- what it leaves

  marked : AreMarked s.sizes.blocks pair2 marks2
  marked =
      marks_out (fresh_at ext r.id from 0) s.sizes.blocks _ _
      (marks_out (gone_at ext r.id 0) s.sizes.blocks s.pair s.meta.written (record { flags = k.caches.blocks; count = k.caches.marks; each = k.caches.written }) gone_inside (from - 0))
      fresh_inside (0 - from)

  frames_two : (side : Side) → (cache_at side pair2).frames ≡ (cache_at side s.pair).frames
  frames_two side = frames_out side (fresh_at ext r.id from 0) mid (0 - from) ∙ frames_out side (gone_at ext r.id 0) s.pair (from - 0)

  caches : AreCaches s.sizes pair2 marks2
  caches =
      let a = moved.agrees in
      record {
        blocks = a.blocks;
        host_blocks = a.host_blocks;
        drive_blocks = a.drive_blocks;
        host_frames = frames_two Host ∙ k.caches.host_frames;
        drive_frames = frames_two Drive ∙ k.caches.drive_frames;
        marks = marked.count;
        written = marked.each;
      }

  module _ (unheld : IsUnheld (claims c.calls) (file_by c.names.files (Some name))) where
    unheld_f : IsUnheld (claims c.calls) (Some f)
    unheld_f = subst (IsUnheld (claims c.calls)) found_core unheld

    -- no call in flight is on the file
    other_file : (l : ℕ) (x : Flight) → c.calls l ≡ Some x → is_data x.claim.request.call ≡ true → x.claim.file ≢ r.id
    other_file l x e d = held_not (is_data x.claim.request.call) x.claim.file r.id d (unheld_f l x.claim (ap claim_of e))

    spanless : (l : ℕ) (x : Flight) → c.calls l ≡ Some x → is_sync x.claim.request.call ≡ true → x.claim.reach.pages ≡ 0
    spanless l x e y = let right = h.in_flight.right l x.claim (ap claim_of e) in ap (λ (w : Claim). w.reach.pages) right.same ∙ ap (λ w. w.pages) (sync_reach x.claim.request.call (len_or_none (file_for c.names.files x.claim.request.call)) y)

    meets : (l : ℕ) (x : Flight) → c.calls l ≡ Some x → (i : ℕ) → i < x.claim.reach.pages → x.claim.file ≢ r.id
    meets l x e i m = ⊎_elim (λ (d : is_data x.claim.request.call ≡ true). other_file l x e d) (λ (y : is_sync x.claim.request.call ≡ true). absurd (let z = spanless l x e y in omega arith)) (h.in_flight.right l x.claim (ap claim_of e)).kind

    stays : (l : ℕ) (x : Flight) (b : ℕ) → c.calls l ≡ Some x → spans (places_of (resized ext r.id from 0).placed) (Some x) b ≡ spans c.places (Some x) b
    stays l x b e =
        ap (λ (w : Places). spans w (Some x) b) (rows_are ∙ ap (λ (w : List ℕ). new_places c.places r.id w from 0) fresh_none)
        ∙ any_same x.claim.reach.pages (λ i. is_at (span_block (new_places c.places r.id [] from 0) x.claim i) b) (λ i. is_at (span_block c.places x.claim i) b)
        (λ i m. ap (λ (o : Option ℕ). is_at o b) (place_kept c.places r.id from 0 x.claim.file (x.claim.reach.first + i) (omega arith) (inl (meets l x e i m))))

    pub remove_outcome : early (plain c) (Remove name) ≡ None → (u : State D J) → u ≡ record s { pair = pair2; meta = removed_from r.id from s.meta } → IsOutcome seen suits s (Remove name) Done u
    remove_outcome e u w = subst (IsOutcome seen suits s (Remove name) Done) (sym w) (record {
      rest = refl;
      kind = refl;
      reply_is = sym (ap (λ (a : Answered). a.reply) is);
      clear = λ d. unheld;
      leads = leads;
      caches = caches;
      tables = record { blocks = k.tables.blocks; dies = k.tables.dies; extents = k.tables.extents };
      locks = λ l x g. lock_from s.meta.names.files (name_table.without r.id s.meta.names.files) x.claim (λ d. ap slot_of (other_stays r.id x.claim.file s.meta.names.files (other_file l x g d)));
      spans_stay = stays;
      functions = k.functions;
      room = k.room;
    })
      where
        is : answer (plain c) (Remove name) ≡ record { reply = Done; state = without_file c name }
        is = later (plain c) (Remove name) e

        blocks_are : blocks_of s.sizes pair2 (flash_of seen s) s.told.value.lent ≡ renewed_in gone c.blocks
        blocks_are = moved.blocks (flash_of seen s) s.told.value.lent ∙ ap (λ (bs : List ℕ). renewed_in bs c.blocks) (ap (λ (w : List ℕ). gone ++ w) fresh_none ∙ append-nil gone)

        leads : record c {
          blocks = blocks_of s.sizes pair2 (flash_of seen s) s.told.value.lent;
          host_order = pair2.host.order;
          drive_order = pair2.drive.order;
          unclean = pair2.unclean;
          names = names_of (removed_from r.id from s.meta).names s.functions.items;
          places = places_of (removed_from r.id from s.meta).extents.placed;
        } ≡ follows c (file_by c.names.files (Some name)) (answer (plain c) (Remove name)).state
        leads =
            let a = blocks_are in
            let b = moved.agrees.host_is in
            let d = moved.agrees.drive_is in
            let g = moved.agrees.unclean_is in
            let n = sym (removed_names seen s h name r table.rise found) in
            let p = rows_are ∙ ap (λ (v : List ℕ). new_places c.places r.id v from 0) fresh_none in
            (λ i. record c { blocks = a i; host_order = b i; drive_order = d i; unclean = g i; names = n i; places = p i })
            ∙ (sym (removed_is c name f found_core h)
            ∙ (ap (λ (o : Option File). follows c o (without_file c name)) (sym found_core)
            ∙ ap (λ (v : Answered). follows c (file_by c.names.files (Some name)) v.state) (sym is)))
