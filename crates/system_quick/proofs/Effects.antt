-- What each kind of call that needs no page makes of the state before its reply.
use Rattle.std.proofs.Common.{◌≡◌, ℕ, ◌^◌, ◌≤◌, Bool, true, false, List, [], ◌∷◌, ◌++◌, length, map, Option, Some, None, refl, sym, ap, ◌∙◌, subst, arith}
use Rattle.std.specs.Prelude.{is_some, is_none, min, vec_capacity, if◌then◌else◌}
use Rattle.std.specs.List.{Contains}
use Rattle.flash_die.specs.Dies.{DieView}
use Rattle.name_table.specs.declared.files.FileRec.{FileRec}
use Rattle.name_table.specs.Files as name_table
use Rattle.name_table.specs.Files.{Table, IsTable, file_named, changed, placed}
use Rattle.range_locks.specs.declared.range.Range.{Range}
use Rattle.plain_files.specs.declared.calls.Call.{Call}
use Rattle.plain_files.specs.declared.calls.Call.TheVariants.{Create, OpenFile, Stat, Seal, Load, Unload}
use Rattle.plain_files.specs.declared.calls.Reply.{Reply}
use Rattle.plain_files.specs.declared.calls.Reply.TheVariants.{Id, Done}
use Rattle.plain_files.specs.Lists.{without}
use Rattle.plain_files.specs.Plain as plain_files
use Rattle.plain_files.specs.Plain.{Answered, early, answer, answer_after, has_no_file, is_function, with_file, with_sealed, accepted_code}
use Rattle.core_state.specs.State.{File, Function, Claim, Flight, Core}
use Rattle.core_state.specs.Contents.{contents}
use Rattle.core_state.specs.Reach.{is_data, file_word, file_by, file_for}
use Rattle.core_state.specs.PlainOf.{plain, bytes_by_id, names_like}
use Rattle.core_state.specs.InFlight.{claim_of, claims}
use Rattle.core_state.specs.Resizing.{follows}
use Rattle.core_state.specs.PageEvents.{spans}
use Rattle.core_state.specs.LaneEvents.{is_quick, is_unsealed, IsUnheld, IsUnused, IsClear}
use Rattle.core_state.specs.Coherent.{Coherent}
use Rattle.core_lemmas.proofs.Spans.{file_in}
use Rattle.core_quick.proofs.Renamed.{len_by_id, follows_is}
use Rattle.core_quick.proofs.Sealed.{sealed_len}
use Rattle.system_state.specs.Jobs.{JobView}
use Rattle.system_state.specs.Cores.{core_of, flash_of, blocks_of, names_of, places_of, function_of as core_function, file_of as core_file}
use Rattle.system_state.specs.Kept.{slot_of, range_mode_of, lock_for, lock_of, AreCaches, AreTables, AreFunctions, IsKept}
use Rattle.system_state.specs.declared.state.State.{State}
use Rattle.call_checks.specs.Checks.{len_or}
use Rattle.call_checks.proofs.Found.{found_again}
use Rattle.call_checks.proofs.Limits.{len_most}
use Rattle.system_begin.proofs.Clashes.{row_found}
use Rattle.system_quick.specs.Tables.{id_reply, len_reply, create_reply, create_table, sealing, has_name, loaded, load_reply, load_functions}
use Rattle.system_quick.proofs.Lists.{found_before, sealed_slots}
use Rattle.system_quick.proofs.Named.{later, there, opened, told_len, own_names, create_cases, created_names, sealed_names, load_cases, loaded_names, unloaded_names}
use Rattle.system_quick.proofs.Outcome.{IsOutcome}

-- a call locks the same, where its file stands in the same slot
pub lock_from : (rows rows2 : List FileRec) (a : Claim) → (is_data a.request.call ≡ true → slot_of (name_table.file_of a.file rows2) ≡ slot_of (name_table.file_of a.file rows)) → lock_for rows2 a ≡ lock_for rows a
lock_from rows rows2 a same = go (is_data a.request.call) refl
  where
    range : ℕ → Option Range
    range n = Some (record { file = n; from = min a.reach.from a.reach.to; to = a.reach.to; mode = range_mode_of a.reach.mode })

    go : (t : Bool) → is_data a.request.call ≡ t → (if t then range (slot_of (name_table.file_of a.file rows2)) else None) ≡ (if t then range (slot_of (name_table.file_of a.file rows)) else None)
    go true e = ap range (same e)
    go false e = refl

module _ {D J : Type 0} (seen : D → DieView) (suits : J → JobView → Type 0) (s : State D J) (k : IsKept seen suits s) (h : Coherent (core_of seen s)) where
  abbrev pub c : Core
  c = core_of seen s

  abbrev pub rows : List FileRec
  rows = s.meta.names.files

  abbrev pub fs : List Function
  fs = c.names.functions

  -- where the file that a call is about keeps its length
  own_len : (call : Call) (f : File) → file_for c.names.files call ≡ Some f → Contains c.names.files f × (length (bytes_by_id (plain c) f.id) ≡ f.len)
  own_len call f e = let i = file_in c.names.files (file_word call) f e in (i, len_by_id c.shape c.names c.places (contents c.blocks) h.placed.named f i)

  follows_own : (call : Call) → follows c (file_for c.names.files call) (plain c) ≡ c
  follows_own call = follows_is c (file_for c.names.files call) (plain c) (own_len call) h ∙ (let n = own_names seen s h in λ i. record c { names = n i })

  -- nothing changes
  same_outcome : (call : Call) (reply : Reply) → is_quick call ≡ true → reply ≡ (answer (plain c) call).reply → IsClear c call reply → (answer (plain c) call).state ≡ plain c → IsOutcome seen suits s call reply s
  same_outcome call reply kind is clear stays = record {
    rest = refl;
    kind = kind;
    reply_is = is;
    clear = clear;
    leads = sym (ap (follows c (file_for c.names.files call)) stays ∙ follows_own call);
    caches = k.caches;
    tables = k.tables;
    locks = λ l x e. refl;
    spans_stay = λ l x b e. refl;
    functions = k.functions;
    room = k.room;
  }

  -- files and functions alone change
  names_outcome : (u : State D J) → u ≡ record s { meta = record s.meta { names = u.meta.names }; functions = u.functions } → (call : Call) (reply : Reply) → is_quick call ≡ true → reply ≡ (answer (plain c) call).reply → IsClear c call reply →
      follows c (file_for c.names.files call) (answer (plain c) call).state ≡ record c { names = names_of u.meta.names u.functions.items } →
      ((l : ℕ) (x : Flight) → c.calls l ≡ Some x → lock_of u.meta.names.files (Some x) ≡ lock_of rows (Some x)) → AreFunctions u.functions.items → 64 ≤ vec_capacity u.functions → IsOutcome seen suits s call reply u
  names_outcome u rest call reply kind is clear leads locks functions room = record {
    rest = rest ∙ sym (ap (λ (w : State D J). record s { pair = w.pair; meta = w.meta; functions = u.functions }) rest);
    kind = kind;
    reply_is = is;
    clear = clear;
    leads =
        (λ i. record c {
          blocks = blocks_of s.sizes (rest i).pair (flash_of seen s) s.told.value.lent;
          host_order = (rest i).pair.host.order;
          drive_order = (rest i).pair.drive.order;
          unclean = (rest i).pair.unclean;
          names = names_of u.meta.names u.functions.items;
          places = places_of (rest i).meta.extents.placed;
        })
        ∙ sym leads;
    caches = subst (λ (w : State D J). AreCaches s.sizes w.pair w.meta.written) (sym rest) k.caches;
    tables = subst (λ (w : State D J). AreTables s.sizes w.meta) (sym rest) (record { blocks = k.tables.blocks; dies = k.tables.dies; extents = k.tables.extents });
    locks = locks;
    spans_stay = λ l x b e. ap (λ (w : State D J). spans (places_of w.meta.extents.placed) (Some x) b) rest;
    functions = functions;
    room = room;
  }

  -- ---- calls that ask

  asks_stay : (call : Call) → early (plain c) call ≡ None → (answer_after None (plain c) call).state ≡ plain c → (answer (plain c) call).state ≡ plain c
  asks_stay call e stays = ap (λ (a : Answered). a.state) (later (plain c) call e) ∙ stays

  pub open_outcome : (name : List ℕ) → early (plain c) (OpenFile name) ≡ None → IsOutcome seen suits s (OpenFile name) (id_reply (file_named name rows)) s
  open_outcome name e = same_outcome (OpenFile name) (id_reply (file_named name rows)) refl (opened seen s h name e) tt (asks_stay (OpenFile name) e refl)

  pub stat_outcome : (name : List ℕ) → early (plain c) (Stat name) ≡ None → IsOutcome seen suits s (Stat name) (len_reply (file_named name rows)) s
  stat_outcome name e = same_outcome (Stat name) (len_reply (file_named name rows)) refl (told_len seen s h name e) tt (asks_stay (Stat name) e refl)

  -- ---- files

  -- the file of a call in flight has a row
  row_of_call : IsTable s.meta.names → (l : ℕ) (x : Flight) → c.calls l ≡ Some x → is_data x.claim.request.call ≡ true → (r : FileRec) × (name_table.file_of x.claim.file rows ≡ Some r)
  row_of_call table l x e d = row_found seen suits s k h table.apart x.claim d (h.locked.there l x.claim (ap claim_of e)) (h.in_flight.right l x.claim (ap claim_of e)).same

  pub create_outcome : IsTable s.meta.names → (name : List ℕ) → early (plain c) (Create name) ≡ None →
      (u : State D J) → u ≡ record s { meta = record s.meta { names = create_table s.meta.names name } } → IsOutcome seen suits s (Create name) (create_reply s.meta.names name) u
  create_outcome table name e u rest =
      create_cases seen s h name (λ (x : Reply) (t : Table) (a : Answered). answer (plain c) (Create name) ≡ a → u ≡ record s { meta = record s.meta { names = t } } → IsOutcome seen suits s (Create name) x u)
      (λ x is w. subst (IsOutcome seen suits s (Create name) x) (sym w) (same_outcome (Create name) x refl (sym (ap (λ (a : Answered). a.reply) is)) tt (ap (λ (a : Answered). a.state) is)))
      (λ is w. came is w) e refl rest
    where
      -- the calls in flight lock what they locked
      locks : (l : ℕ) (x : Flight) → c.calls l ≡ Some x → lock_of (placed s.meta.names s.meta.names.next name).files (Some x) ≡ lock_of rows (Some x)
      locks l x f = lock_from rows (placed s.meta.names s.meta.names.next name).files x.claim
          (λ d. let r = row_of_call table l x f d in ap slot_of (found_before x.claim.file rows (name_table.new_file s.meta.names.next name rows) r.0 r.1 ∙ sym r.1))

      came : answer (plain c) (Create name) ≡ record { reply = Id s.meta.names.next; state = with_file (plain c) name } → u ≡ record s { meta = record s.meta { names = placed s.meta.names s.meta.names.next name } } →
          IsOutcome seen suits s (Create name) (Id s.meta.names.next) u
      came is w = subst (IsOutcome seen suits s (Create name) (Id s.meta.names.next)) (sym w)
          (names_outcome (record s { meta = record s.meta { names = placed s.meta.names s.meta.names.next name } }) refl (Create name) (Id s.meta.names.next) refl (sym (ap (λ (a : Answered). a.reply) is)) tt
          (ap (λ (a : Answered). follows c None a.state) is ∙ (let n = created_names seen s h name in λ i. record c { names = n i }))
          locks k.functions k.room)

  pub seal_outcome : IsTable s.meta.names → (name : List ℕ) (r : FileRec) → file_named name rows ≡ Some r → early (plain c) (Seal name) ≡ None → (is_unsealed (file_by c.names.files (Some name)) ≡ true → IsUnheld (claims c.calls) (file_by c.names.files (Some name))) →
      (u : State D J) → u ≡ record s { meta = record s.meta { names = record s.meta.names { files = changed r.id sealing rows } } } → IsOutcome seen suits s (Seal name) Done u
  seal_outcome table name r found e clear u w = subst (IsOutcome seen suits s (Seal name) Done) (sym w)
      (names_outcome (record s { meta = record s.meta { names = record s.meta.names { files = changed r.id sealing rows } } }) refl (Seal name) Done refl (sym (ap (λ (a : Answered). a.reply) is)) clear
      (ap (λ (a : Answered). follows c (file_by c.names.files (Some name)) a.state) is
      ∙ (follows_is c (file_by c.names.files (Some name)) s2 (λ f q. let i = file_in c.names.files (Some name) f q in (i, sealed_len c name f i h)) h
      ∙ (let n = sealed_names seen s h name r table.rise found in λ i. record c { names = n i })))
      (λ l x f. lock_from rows (changed r.id sealing rows) x.claim (λ d. sealed_slots r.id x.claim.file rows)) k.functions k.room)
    where
      s2 : plain_files.State
      s2 = record (plain c) { files = with_sealed name (plain c).files }

      is : answer (plain c) (Seal name) ≡ record { reply = Done; state = s2 }
      is = later (plain c) (Seal name) e

  -- ---- functions

  pub load_outcome : (name bytes : List ℕ) → early (plain c) (Load name bytes) ≡ None → (u : State D J) → u ≡ record s { functions = u.functions } →
      map core_function u.functions.items ≡ load_functions fs (loaded fs name (accepted_code bytes)) → AreFunctions u.functions.items → 64 ≤ vec_capacity u.functions →
      IsOutcome seen suits s (Load name bytes) (load_reply (loaded fs name (accepted_code bytes))) u
  load_outcome name bytes e u rest are kept room =
      load_cases seen s h name bytes (λ (x : Reply) (gs : List Function) (a : Answered). answer (plain c) (Load name bytes) ≡ a → map core_function u.functions.items ≡ gs → IsOutcome seen suits s (Load name bytes) x u)
      (λ x is w. whole x (plain c) (ap (λ (a : Answered). a.reply) is) (ap (λ (a : Answered). a.state) is) (own_names seen s h ∙ sym (named fs w)))
      (λ insns none is w. whole Done (record (plain c) { functions = (plain c).functions ++ record { name = name; code = insns } ∷ [] }) (ap (λ (a : Answered). a.reply) is) (ap (λ (a : Answered). a.state) is)
      (loaded_names seen s h name insns none ∙ sym (named (fs ++ record { name = name; code = insns; e = 0 } ∷ []) w))) e refl are
    where
      named : (gs : List Function) → map core_function u.functions.items ≡ gs → names_of u.meta.names u.functions.items ≡ record c.names { functions = gs }
      named gs w =
          let r = rest in
          (λ i. record { files = map core_file (r i).meta.names.files; next = (r i).meta.names.next; functions = w i })

      whole : (x : Reply) (s2 : plain_files.State) → (answer (plain c) (Load name bytes)).reply ≡ x → (answer (plain c) (Load name bytes)).state ≡ s2 → names_like s2 c.names ≡ names_of u.meta.names u.functions.items → IsOutcome seen suits s (Load name bytes) x u
      whole x s2 is moves names =
          names_outcome u (rest ∙ sym (ap (λ (w : State D J). record s { meta = record s.meta { names = w.meta.names }; functions = u.functions }) rest)) (Load name bytes) x refl (sym is) tt
          (ap (follows c None) moves ∙ (λ i. record c { names = names i }))
          (λ l y f. ap (λ (w : State D J). lock_of w.meta.names.files (Some y)) rest) kept room

  pub unload_outcome : (name : List ℕ) → early (plain c) (Unload name) ≡ None → IsUnused (claims c.calls) name → (u : State D J) → u ≡ record s { functions = u.functions } →
      map core_function u.functions.items ≡ without (has_name name) fs → AreFunctions u.functions.items → 64 ≤ vec_capacity u.functions → IsOutcome seen suits s (Unload name) Done u
  unload_outcome name e unused u rest are kept room =
      names_outcome u (rest ∙ sym (ap (λ (w : State D J). record s { meta = record s.meta { names = w.meta.names }; functions = u.functions }) rest)) (Unload name) Done refl (sym (ap (λ (a : Answered). a.reply) is)) (λ d. unused)
      (ap (λ (a : Answered). follows c None a.state) is ∙ (let n = unloaded_names seen s h name ∙ sym named in λ i. record c { names = n i }))
      (λ l y f. ap (λ (w : State D J). lock_of w.meta.names.files (Some y)) rest) kept room
    where
      is : answer (plain c) (Unload name) ≡ record { reply = Done; state = record (plain c) { functions = without (is_function name) (plain c).functions } }
      is = later (plain c) (Unload name) e

      named : names_of u.meta.names u.functions.items ≡ record c.names { functions = without (has_name name) fs }
      named =
          let r = rest in
          let w = are in
          (λ i. record { files = map core_file (r i).meta.names.files; next = (r i).meta.names.next; functions = w i })

  -- ---- what the code asks

  -- the file of a call that nothing refuses is there
  pub file_found : (name : List ℕ) → has_no_file (plain c) name ≡ false → is_none (file_named name rows) ≡ false
  file_found name e = ap is_none (there seen s h name e).1

  pub row_held : IsTable s.meta.names → (name : List ℕ) (r : FileRec) → file_named name rows ≡ Some r → is_some (name_table.file_of r.id rows) ≡ true
  row_held table name r e = ap is_some (found_again 1 rows name r table.rise e).found

  pub row_short : IsTable s.meta.names → (name : List ℕ) (r : FileRec) → file_named name rows ≡ Some r → r.len ≤ 2 ^ 28
  row_short table name r e = let m = len_most s.meta.names.next rows (Some name) table.each in let w = ap len_or e in omega arith
