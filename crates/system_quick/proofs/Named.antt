-- What the names of the core are after each kind of call that needs no page.
use Rattle.std.proofs.Common.{◌≡◌, ℕ, ◌+◌, ◌-◌, ◌^◌, max, Bool, true, false, List, [], ◌∷◌, ◌++◌, length, Option, Some, None, refl, sym, ap, ◌∙◌, subst, arith}
use Rattle.std.specs.Prelude.{◌||◌, not, nat_le, map, option_map, is_some, is_none, bytes_eq, unwrap_or, if◌then◌else◌, Result, Ok, Err}
use Rattle.std.specs.List.{find}
use Rattle.std.proofs.lemmas.List.{map-append, length-map}
use Rattle.flash_die.specs.Dies.{DieView}
use Rattle.name_table.specs.Name.{is_name}
use Rattle.name_table.specs.declared.files.FileRec.{FileRec}
use Rattle.name_table.specs.declared.files.NameErr.{NameErr}
use Rattle.name_table.specs.declared.files.NameErr.TheVariants as name_err
use Rattle.name_table.specs.Files as name_table
use Rattle.name_table.specs.Files.{Table, file_named, changed, created, create_new, after_create, placed, RiseFrom}
use Rattle.sbpf_insn.specs.declared.insn.Insn.{Insn}
use Rattle.plain_files.specs.declared.calls.Call.{Call}
use Rattle.plain_files.specs.declared.calls.Call.TheVariants.{Create, OpenFile, Stat, Load}
use Rattle.plain_files.specs.declared.calls.PlainFile.{PlainFile}
use Rattle.plain_files.specs.declared.calls.Reply.{Reply}
use Rattle.plain_files.specs.declared.calls.Reply.TheVariants.{Id, Len, Done, BadName, Exists, Full, FnFull}
use Rattle.plain_files.specs.Lists.{with_changed, without}
use Rattle.plain_files.specs.Steps.{◌>>=◌, refuse}
use Rattle.plain_files.specs.Plain as plain_files
use Rattle.plain_files.specs.Plain.{Answered, early, answer, answer_after, or_refusal, reply_alone, is_file, is_function, is_full, file_of, function_of, file_in, has_no_file, with_file, with_sealed, done_with_functions, accepted_code}
use Rattle.core_state.specs.State.{File, Function, Core}
use Rattle.core_state.specs.Contents.{contents}
use Rattle.core_state.specs.PlainOf.{plain, plain_file, plain_function, file_page, file_like, function_like, names_like, e_in, e_or_none}
use Rattle.core_state.specs.Coherent.{Coherent}
use Rattle.core_lemmas.proofs.Views.{find_map, is_some_map}
use Rattle.core_quick.proofs.Seen.{files_seen, length_bytes}
use Rattle.system_state.specs.Cores.{core_of, names_of, file_of as core_file}
use Rattle.system_state.specs.declared.state.State.{State}
use Rattle.call_checks.proofs.Found.{plain_row, plain_seen}
use Rattle.call_checks.proofs.Refused.{file_test}
use Rattle.system_begin.proofs.Names.{functions_same}
use Rattle.system_quick.specs.Tables.{id_reply, len_reply, made_reply, create_reply, create_table, sealing, has_name, loaded, load_reply, load_functions}
use Rattle.system_quick.proofs.Lists.{map_changed, map_without, named, changed_named, without_named}

-- what answers where nothing refuses early
pub later : (s : plain_files.State) (call : Call) → early s call ≡ None → answer s call ≡ answer_after None s call
later s call e = ap (λ (o : Option Reply). answer_after o s call) e

module _ {D J : Type 0} (seen : D → DieView) (s : State D J) (h : Coherent (core_of seen s)) where
  abbrev pub c : Core
  c = core_of seen s

  abbrev pub rows : List FileRec
  rows = s.meta.names.files

  abbrev fs : List Function
  fs = c.names.functions

  -- ---- the file of a name

  pub there : (name : List ℕ) → has_no_file (plain c) name ≡ false → (r : FileRec) × (file_named name rows ≡ Some r)
  there name e = go (file_named name rows) refl
    where
      go : (o : Option FileRec) → file_named name rows ≡ o → (r : FileRec) × (file_named name rows ≡ Some r)
      go None q = absurd (let z : has_no_file (plain c) name ≡ true = ap is_none (plain_seen c.places (contents c.blocks) name rows ∙ ap (option_map (plain_row c.places (contents c.blocks))) q) in cc)
      go (Some r) q = (r, q)

  -- the plain file of a name
  plain_there : (name : List ℕ) (r : FileRec) → file_named name rows ≡ Some r → file_of name (plain c).files ≡ Some (plain_row c.places (contents c.blocks) r)
  plain_there name r e = plain_seen c.places (contents c.blocks) name rows ∙ ap (option_map (plain_row c.places (contents c.blocks))) e

  plain_none : (name : List ℕ) → is_some (file_of name (plain c).files) ≡ is_some (file_named name rows)
  plain_none name = ap is_some (plain_seen c.places (contents c.blocks) name rows) ∙ is_some_map (plain_row c.places (contents c.blocks)) (file_named name rows)

  -- ---- calls that ask

  pub opened : (name : List ℕ) → early (plain c) (OpenFile name) ≡ None → id_reply (file_named name rows) ≡ (answer (plain c) (OpenFile name)).reply
  opened name e =
      let r = there name (file_test (OpenFile name) (plain c) e) in
      ap id_reply r.1
      ∙ sym (ap (λ (a : Answered). a.reply) (later (plain c) (OpenFile name) e)
      ∙ ap (λ (o : Option PlainFile). Id (unwrap_or o (record { id = 0; name = name; bytes = []; sealed = false })).id) (plain_there name r.0 r.1))

  pub told_len : (name : List ℕ) → early (plain c) (Stat name) ≡ None → len_reply (file_named name rows) ≡ (answer (plain c) (Stat name)).reply
  told_len name e =
      let r = there name (file_test (Stat name) (plain c) e) in
      ap len_reply r.1
      ∙ (ap Len (sym (length_bytes r.0.len (file_page c.places (contents c.blocks) r.0.id)))
      ∙ sym (ap (λ (a : Answered). a.reply) (later (plain c) (Stat name) e)
      ∙ ap (λ (o : Option PlainFile). Len (length (unwrap_or o (record { id = 0; name = name; bytes = []; sealed = false })).bytes)) (plain_there name r.0 r.1)))

  -- ---- names that stay

  files_own : map file_like (plain c).files ≡ c.names.files
  files_own = files_seen c.places (contents c.blocks) c.names.files

  functions_own : map (function_like fs) (plain c).functions ≡ fs
  functions_own = functions_same fs h.placed.named.functions_apart

  pub own_names : names_like (plain c) c.names ≡ c.names
  own_names = let a = files_own in let b = functions_own in λ i. record { files = a i; next = c.names.next; functions = b i }

  -- ---- a file comes

  full_same : is_full (plain c) ≡ (nat_le 4096 (length rows) || nat_le (2 ^ 32 - 1) s.meta.names.next)
  full_same = ap (λ (n : ℕ). nat_le 4096 n || nat_le (2 ^ 32 - 1) s.meta.names.next) (length-map c.names.files (plain_file c.places (contents c.blocks)) ∙ length-map rows core_file)

  abbrev make : List ℕ → Bool → Bool → Bool → Answered
  make name n b f = or_refusal (plain c) (refuse (not n) BadName >>= (λ u. refuse b Exists >>= (λ u. refuse f Full >>= (λ u. Ok (record { reply = Id (plain c).next; state = with_file (plain c) name })))))

  abbrev made_by : Option FileRec → Bool → Result ℕ NameErr
  made_by (Some r) f = Err (name_err.Exists r.id)
  made_by None f = if f then Err (name_err.Full (length rows) s.meta.names.next) else Ok s.meta.names.next

  made_is : (o : Option FileRec) → created s.meta.names o ≡ made_by o (nat_le 4096 (length rows) || nat_le (2 ^ 32 - 1) s.meta.names.next)
  made_is None = refl
  made_is (Some r) = refl

  -- `create` is refused, and the table stays, or a file comes last
  pub create_cases : (name : List ℕ) (P : Reply → Table → Answered → Type 0) → ((x : Reply) → P x s.meta.names (reply_alone (plain c) x)) →
      P (Id s.meta.names.next) (placed s.meta.names s.meta.names.next name) (record { reply = Id s.meta.names.next; state = with_file (plain c) name }) → early (plain c) (Create name) ≡ None →
      P (create_reply s.meta.names name) (create_table s.meta.names name) (answer (plain c) (Create name))
  create_cases name P refused came e =
      let full = nat_le 4096 (length rows) || nat_le (2 ^ 32 - 1) s.meta.names.next in
      let answers : make name (is_name name) (is_some (file_named name rows)) full ≡ answer (plain c) (Create name) =
      sym (later (plain c) (Create name) e ∙ (let a = plain_none name in let b = full_same in λ i. make name (is_name name) (a i) (b i))) in
      subst (λ (w : Result ℕ NameErr). P (if is_name name then made_reply w else BadName) (if is_name name then after_create s.meta.names name w else s.meta.names) (answer (plain c) (Create name))) (sym (made_is (file_named name rows)))
      (subst (λ (w : Answered). P (if is_name name then made_reply (made_by (file_named name rows) full) else BadName) (if is_name name then after_create s.meta.names name (made_by (file_named name rows) full) else s.meta.names) w) answers
      (all (is_name name) (file_named name rows) full))
    where
      all : (n : Bool) (o : Option FileRec) (f : Bool) → P (if n then made_reply (made_by o f) else BadName) (if n then after_create s.meta.names name (made_by o f) else s.meta.names) (make name n (is_some o) f)
      all false o f = refused BadName
      all true (Some r) f = refused Exists
      all true None true = refused Full
      all true None false = came

  pub created_names : (name : List ℕ) → names_like (with_file (plain c) name) c.names ≡ names_of (placed s.meta.names s.meta.names.next name) s.functions.items
  created_names name =
      let n = s.meta.names.next in
      let a : map file_like (with_file (plain c) name).files ≡ map core_file (placed s.meta.names n name).files =
      map-append file_like (plain c).files (record { id = n; name = name; bytes = []; sealed = false } ∷ [])
      ∙ (ap (λ (files : List File). files ++ record { id = n; name = name; len = 0; sealed = false } ∷ []) files_own
      ∙ sym (map-append core_file rows (name_table.new_file n name rows ∷ []))) in
      let b : n + 1 ≡ max n (n + 1) = omega arith in
      let d = functions_own in
      λ i. record { files = a i; next = b i; functions = d i }

  -- ---- a file is sealed

  pub sealed_names : (name : List ℕ) (r : FileRec) → RiseFrom 1 rows → file_named name rows ≡ Some r →
      names_like (record (plain c) { files = with_sealed name (plain c).files }) c.names ≡ names_of (record s.meta.names { files = changed r.id sealing rows }) s.functions.items
  sealed_names name r rise e =
      let q : File → Bool = λ f. bytes_eq f.name name in
      let ch : File → File = λ f. record f { sealed = true } in
      let a : map file_like (with_sealed name (plain c).files) ≡ map core_file (changed r.id sealing rows) =
      map_changed file_like (is_file name) q (λ f. record f { sealed = true }) ch (λ x. refl) (λ x. refl) (plain c).files
      ∙ (ap (with_changed q ch) files_own
      ∙ (sym (map_changed core_file (named name) q sealing ch (λ x. refl) (λ x. refl) rows)
      ∙ ap (map core_file) (sym (changed_named 1 name rows r rise e)))) in
      let d = functions_own in
      λ i. record { files = a i; next = s.meta.names.next; functions = d i }

  -- ---- a file goes

  pub removed_names : (name : List ℕ) (r : FileRec) → RiseFrom 1 rows → file_named name rows ≡ Some r →
      names_like (record (plain c) { files = without (is_file name) (plain c).files }) c.names ≡ names_of (record s.meta.names { files = name_table.without r.id rows }) s.functions.items
  removed_names name r rise e =
      let q : File → Bool = λ f. bytes_eq f.name name in
      let a : map file_like (without (is_file name) (plain c).files) ≡ map core_file (name_table.without r.id rows) =
      map_without file_like (is_file name) q (λ x. refl) (plain c).files
      ∙ (ap (without q) files_own
      ∙ (sym (map_without core_file (named name) q (λ x. refl) rows)
      ∙ ap (map core_file) (sym (without_named 1 name rows r rise e)))) in
      let d = functions_own in
      λ i. record { files = a i; next = s.meta.names.next; functions = d i }

  -- ---- a function comes

  function_some : (name : List ℕ) → is_some (function_of name (plain c).functions) ≡ is_some (find (has_name name) fs)
  function_some name = ap is_some (find_map plain_function (is_function name) fs) ∙ is_some_map plain_function (find (has_name name) fs)

  function_count : nat_le 64 (length (plain c).functions) ≡ nat_le 64 (length fs)
  function_count = ap (nat_le 64) (length-map fs plain_function)

  abbrev load_by : List ℕ → Bool → Result (List Insn) Reply → Bool → Bool → Result (List Function) Reply
  load_by name n code b f = refuse (not n) BadName >>= (λ u. code >>= (λ insns. refuse b Exists >>= (λ u. refuse f FnFull >>= (λ u. Ok (fs ++ record { name = name; code = insns; e = 0 } ∷ [])))))

  abbrev make_load : List ℕ → Bool → Result (List Insn) Reply → Bool → Bool → Answered
  make_load name n code b f = or_refusal (plain c) (refuse (not n) BadName >>= (λ u. code >>= (λ insns. refuse b Exists >>= (λ u. refuse f FnFull >>= (λ u. Ok (done_with_functions (plain c) ((plain c).functions ++ record { name = name; code = insns } ∷ [])))))))

  -- `load` is refused, and the functions stay, or one comes last
  pub load_cases : (name bytes : List ℕ) (P : Reply → List Function → Answered → Type 0) → ((x : Reply) → P x fs (reply_alone (plain c) x)) →
      ((insns : List Insn) → is_some (find (has_name name) fs) ≡ false → P Done (fs ++ record { name = name; code = insns; e = 0 } ∷ []) (done_with_functions (plain c) ((plain c).functions ++ record { name = name; code = insns } ∷ []))) →
      early (plain c) (Load name bytes) ≡ None →
      P (load_reply (loaded fs name (accepted_code bytes))) (load_functions fs (loaded fs name (accepted_code bytes))) (answer (plain c) (Load name bytes))
  load_cases name bytes P refused came e =
      let answers : make_load name (is_name name) (accepted_code bytes) (is_some (find (has_name name) fs)) (nat_le 64 (length fs)) ≡ answer (plain c) (Load name bytes) =
      sym (later (plain c) (Load name bytes) e ∙ (let a = function_some name in let b = function_count in λ i. make_load name (is_name name) (accepted_code bytes) (a i) (b i))) in
      subst (λ (w : Answered). P (load_reply (loaded fs name (accepted_code bytes))) (load_functions fs (loaded fs name (accepted_code bytes))) w) answers
      (all (is_name name) (accepted_code bytes) (is_some (find (has_name name) fs)) refl (nat_le 64 (length fs)))
    where
      all : (n : Bool) (code : Result (List Insn) Reply) (b : Bool) → is_some (find (has_name name) fs) ≡ b → (f : Bool) → P (load_reply (load_by name n code b f)) (load_functions fs (load_by name n code b f)) (make_load name n code b f)
      all false code b q f = refused BadName
      all true (Err x) b q f = refused x
      all true (Ok insns) true q f = refused Exists
      all true (Ok insns) false q true = refused FnFull
      all true (Ok insns) false q false = came insns q

  no_e : (o : Option Function) → is_some o ≡ false → e_or_none o ≡ 0
  no_e None q = refl
  no_e (Some f) q = absurd (cc)

  pub loaded_names : (name : List ℕ) (insns : List Insn) → is_some (find (has_name name) fs) ≡ false →
      names_like (record (plain c) { functions = (plain c).functions ++ record { name = name; code = insns } ∷ [] }) c.names ≡ record c.names { functions = fs ++ record { name = name; code = insns; e = 0 } ∷ [] }
  loaded_names name insns none =
      let a = files_own in
      let b : map (function_like fs) ((plain c).functions ++ record { name = name; code = insns } ∷ []) ≡ fs ++ record { name = name; code = insns; e = 0 } ∷ [] =
      map-append (function_like fs) (plain c).functions (record { name = name; code = insns } ∷ [])
      ∙ (ap (λ (w : List Function). w ++ record { name = name; code = insns; e = e_in fs name } ∷ []) functions_own
      ∙ ap (λ (n : ℕ). fs ++ record { name = name; code = insns; e = n } ∷ []) (no_e (find (has_name name) fs) none)) in
      λ i. record { files = a i; next = s.meta.names.next; functions = b i }

  -- ---- a function goes

  pub unloaded_names : (name : List ℕ) → names_like (record (plain c) { functions = without (is_function name) (plain c).functions }) c.names ≡ record c.names { functions = without (has_name name) fs }
  unloaded_names name =
      let a = files_own in
      let b : map (function_like fs) (without (is_function name) (plain c).functions) ≡ without (has_name name) fs =
      map_without (function_like fs) (is_function name) (has_name name) (λ x. refl) (plain c).functions ∙ ap (without (has_name name)) functions_own in
      λ i. record { files = a i; next = s.meta.names.next; functions = b i }
