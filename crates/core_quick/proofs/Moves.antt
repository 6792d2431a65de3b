-- Where a call is answered at once, the plain state moves as the plain machine says.
use Rattle.std.proofs.Common.{◌≡◌, ℕ, Bool, true, false, List, [], ◌∷◌, ◌++◌, length, Option, Some, None, refl, sym, ap, ◌∙◌, subst, inl, inr, ⊎_elim, arith}
use Rattle.std.specs.Prelude.{◌≢◌, ◌⊎◌, nat_le, not, map, option_map, is_some, is_none, Result, Ok, Err, if◌then◌else◌}
use Rattle.std.specs.List.{Contains}
use mathlib.Core.Path.{fun_ext}
use Rattle.name_table.specs.Name.{is_name}
use Rattle.page_base.specs.Bytes.{Pages}
use Rattle.sbpf_insn.specs.declared.insn.Insn.{Insn}
use Rattle.core_lanes.specs.Call.{Call}
use Rattle.core_lanes.specs.Call.TheVariants.{Create, OpenFile, Stat, Remove, Read, Write, Append, Trunc, Seal, Load, Unload, Readl, Writel, Sync}
use Rattle.core_lanes.specs.PlainFile.{PlainFile}
use Rattle.core_lanes.specs.Reply.{Reply}
use Rattle.core_lanes.specs.Reply.TheVariants.{Id, BadName, Exists, Full, FnFull, NoFile}
use Rattle.core_lanes.specs.Lists.{without}
use Rattle.core_lanes.specs.Steps.{◌>>=◌, refuse}
use Rattle.core_lanes.specs.Plain as plain_files
use Rattle.core_lanes.specs.Plain.{State, early, answer, answer_after, or_refusal, file_of, function_of, is_file, is_function, is_full, with_file, with_sealed, done_with_functions, accepted_code, has_no_file}
use Rattle.core_lanes.specs.Words.{from_fn}
use Rattle.core_lanes.specs.State.{Page, Shape, File, Names, Places, Core}
use Rattle.core_lanes.specs.Contents.{contents}
use Rattle.core_lanes.specs.Reach.{file_word, file_by, file_for}
use Rattle.core_lanes.specs.PlainOf.{file_bytes, file_page, plain_file, plain_of, plain, bytes_by_id, file_like, names_like}
use Rattle.core_lanes.specs.Coherent.{Coherent}
use Rattle.core_lanes.specs.LaneEvents.{is_quick, quick}
use Rattle.core_lanes.specs.Resizing.{new_places, renewed_in, follows}
use Rattle.core_lanes.proofs.Spans.{file_in}
use Rattle.core_lanes.proofs.Views.{file_seen}
use Rattle.core_lanes.proofs.Words.{same_some}
use Rattle.core_quick.proofs.Seen.{length_bytes, like_seen}
use Rattle.core_quick.proofs.Named.{in_none, in_cases, in_append, in_map, in_here, in_there}
use Rattle.core_quick.proofs.Renamed.{len_by_id, follows_is}
use Rattle.core_quick.proofs.Unchanged.{functions_back, own_plain}
use Rattle.core_quick.proofs.Created.{in_without}
use Rattle.core_quick.proofs.Sealed.{sealing, from_changed, sealed_len}
use Rattle.core_quick.proofs.Releasing.{gone_of, page_kept}
use Rattle.core_quick.proofs.Removed.{without_file, left_apart, removed_is}

-- ---- a plain state whose files have the bytes of their blocks

-- the file's bytes are those of its pages
abbrev pub IsSeen : Places → (ℕ → Page) → PlainFile → Type 0
IsSeen places pages g = plain_file places pages (file_like g) ≡ g

files_back : (places : Places) (pages : ℕ → Page) (files : List PlainFile) → ((g : PlainFile) → Contains files g → IsSeen places pages g) → map (plain_file places pages) (map file_like files) ≡ files
files_back places pages [] h = refl
files_back places pages (g ∷ gs) h = ap (λ (x : PlainFile). x ∷ map (plain_file places pages) (map file_like gs)) (h g (in_here g gs)) ∙ ap (λ (xs : List PlainFile). g ∷ xs) (files_back places pages gs (λ x i. h x (in_there g x gs i)))

-- the names of such a state stand for it
pub plain_like : (shape : Shape) (names : Names) (places : Places) (pages : ℕ → Page) (s2 : State) → shape.blocks ≡ s2.capacity → ((g : PlainFile) → Contains s2.files g → IsSeen places pages g) → plain_of shape (names_like s2 names) places pages ≡ s2
plain_like shape names places pages s2 e h =
    let a = files_back places pages s2.files h in
    let b = functions_back names.functions s2.functions in
    λ i. record { files = a i; next = s2.next; functions = b i; capacity = e i }

-- a file of the core's own plain state
own_seen : (c : Core) (g : PlainFile) → Contains (plain c).files g → IsSeen c.places (contents c.blocks) g
own_seen c g i =
    let k = in_map (plain_file c.places (contents c.blocks)) c.names.files g i in
    subst (IsSeen c.places (contents c.blocks)) k.2 (ap (plain_file c.places (contents c.blocks)) (like_seen c.places (contents c.blocks) k.0))

-- ---- the parts of an answer

-- an early refusal leaves the state
pub early_stays : (o : Option Reply) (s : State) (call : Call) → is_some o ≡ true → (answer_after o s call).state ≡ s
early_stays None s call e = absurd (cc)
early_stays (Some r) s call e = refl

-- where no early refusal holds, the file is there
pub found_of : (c : Core) (name : List ℕ) (r : Option Reply) → (if has_no_file (plain c) name then Some NoFile else r) ≡ None → (f : File) × (file_by c.names.files (Some name) ≡ Some f)
found_of c name r e = go (file_by c.names.files (Some name)) refl
  where
    go : (o : Option File) → file_by c.names.files (Some name) ≡ o → (f : File) × (file_by c.names.files (Some name) ≡ Some f)
    go (Some f) q = (f, q)
    go None q =
        let n : file_of name (plain c).files ≡ None = file_seen c.shape c.names c.places (contents c.blocks) name ∙ ap (option_map (plain_file c.places (contents c.blocks))) q in
        let t : has_no_file (plain c) name ≡ true = ap is_none n in
        let z : Some NoFile ≡ None = ap (λ (b : Bool). if b then Some NoFile else r) (sym t) ∙ e in
        absurd (cc)

-- a call that needs a page is refused early
pub must_be : (t : Bool) → (false ≡ true) ⊎ (t ≡ true) → t ≡ true
must_be t (inl e) = absurd (cc)
must_be t (inr e) = e

-- ---- by the call

-- an answer that leaves the state
stays : (c : Core) (call : Call) (s2 : State) → s2 ≡ plain c → Coherent c → plain (follows c (file_for c.names.files call) s2) ≡ s2
stays c call s2 e h =
    subst (λ (s : State). plain (follows c (file_for c.names.files call) s) ≡ s) (sym e)
    (ap plain (follows_is c (file_for c.names.files call) (plain c) (λ f k. let i = file_in c.names.files (file_word call) f k in (i, len_by_id c.shape c.names c.places (contents c.blocks) h.placed.named f i)) h) ∙ own_plain c)

-- a call that asks alone, or one that is refused early
asks : (c : Core) (call : Call) → ((o : Option Reply) → (answer_after o (plain c) call).state ≡ plain c) → Coherent c → plain (follows c (file_for c.names.files call) (answer (plain c) call).state) ≡ (answer (plain c) call).state
asks c call same h = stays c call (answer (plain c) call).state (same (early (plain c) call)) h

refused : (c : Core) (call : Call) → is_some (early (plain c) call) ≡ true → Coherent c → plain (follows c (file_for c.names.files call) (answer (plain c) call).state) ≡ (answer (plain c) call).state
refused c call e h = stays c call (answer (plain c) call).state (early_stays (early (plain c) call) (plain c) call e) h

no_bytes : (page : ℕ → Page) → file_bytes 0 page ≡ []
unfolding from_fn
no_bytes page = refl

created : (c : Core) (name : List ℕ) → plain (record c { names = names_like (with_file (plain c) name) c.names }) ≡ with_file (plain c) name
created c name = plain_like c.shape c.names c.places (contents c.blocks) (with_file (plain c) name) refl (λ g i.
    ⊎_elim (λ (a : Contains (plain c).files g). own_seen c g a)
    (λ (b : Contains (new ∷ []) g). ⊎_elim (λ (e : new ≡ g). subst (IsSeen c.places (contents c.blocks)) e (ap (λ (bytes : List ℕ). record new { bytes = bytes }) (no_bytes (file_page c.places (contents c.blocks) new.id)))) (λ n. absurd (in_none g n)) (in_cases new g [] b))
    (in_append (plain c).files (new ∷ []) g i))
  where
    new : PlainFile
    new = record { id = (plain c).next; name = name; bytes = []; sealed = false }

creating : (c : Core) (name : List ℕ) (a b f : Bool) → let s2 = (or_refusal (plain c) (refuse a BadName >>= (λ u. refuse b Exists >>= (λ u. refuse f Full >>= (λ u. Ok (record { reply = Id (plain c).next; state = with_file (plain c) name })))))).state in
    plain (follows c None s2) ≡ s2
creating c name true b f = own_plain c
creating c name false true f = own_plain c
creating c name false false true = own_plain c
creating c name false false false = created c name

-- other functions
functions_move : (c : Core) (functions : List plain_files.Function) → plain (record c { names = names_like (record (plain c) { functions = functions }) c.names }) ≡ record (plain c) { functions = functions }
functions_move c functions = plain_like c.shape c.names c.places (contents c.blocks) (record (plain c) { functions = functions }) refl (own_seen c)

-- the code is accepted, or not
abbrev pub loaded_state : State → List ℕ → Bool → Result (List Insn) Reply → Bool → Bool → State
loaded_state s name a code b f = (or_refusal s (refuse a BadName >>= (λ u. code >>= (λ code. refuse b Exists >>= (λ u. refuse f FnFull >>= (λ u. Ok (done_with_functions s (s.functions ++ record { name = name; code = code } ∷ [])))))))).state

loading : (c : Core) (name : List ℕ) (a : Bool) (code : Result (List Insn) Reply) (b f : Bool) → plain (follows c None (loaded_state (plain c) name a code b f)) ≡ loaded_state (plain c) name a code b f
loading c name true code b f = own_plain c
loading c name false (Err r) b f = own_plain c
loading c name false (Ok code) true f = own_plain c
loading c name false (Ok code) false true = own_plain c
loading c name false (Ok code) false false = functions_move c ((plain c).functions ++ record { name = name; code = code } ∷ [])

unloading : (c : Core) (name : List ℕ) (o : Option Reply) → plain (follows c None (answer_after o (plain c) (Unload name)).state) ≡ (answer_after o (plain c) (Unload name)).state
unloading c name (Some r) = own_plain c
unloading c name None = functions_move c (without (is_function name) (plain c).functions)

-- a file is sealed
sealed_seen : (places : Places) (pages : ℕ → Page) (f : File) → IsSeen places pages (sealing (plain_file places pages f))
sealed_seen places pages f = ap (λ (n : ℕ). record { id = f.id; name = f.name; bytes = file_bytes n (file_page places pages f.id); sealed = true }) (length_bytes f.len (file_page places pages f.id))

sealed : (c : Core) (name : List ℕ) (f : File) → Contains c.names.files f → Coherent c → let s2 = record (plain c) { files = with_sealed name (plain c).files } in plain (follows c (Some f) s2) ≡ s2
sealed c name f i h =
    ap plain (follows_is c (Some f) s2 (λ g q. let k : f ≡ g = same_some (Some f) f g refl q in (subst (Contains c.names.files) k i, subst (λ (w : File). length (bytes_by_id s2 w.id) ≡ w.len) k (sealed_len c name f i h))) h)
    ∙ plain_like c.shape c.names c.places (contents c.blocks) s2 refl seen
  where
    s2 : State
    s2 = record (plain c) { files = with_sealed name (plain c).files }

    seen : (g : PlainFile) → Contains s2.files g → IsSeen c.places (contents c.blocks) g
    seen g j =
        let k = from_changed (is_file name) sealing (plain c).files g j in
        let m = in_map (plain_file c.places (contents c.blocks)) c.names.files k.0 k.1 in
        ⊎_elim (λ (e : g ≡ k.0). subst (IsSeen c.places (contents c.blocks)) (sym e) (own_seen c k.0 k.1))
        (λ (e : g ≡ sealing k.0). subst (IsSeen c.places (contents c.blocks)) (ap sealing m.2 ∙ sym e) (sealed_seen c.places (contents c.blocks) m.0)) k.2

-- a file is taken away, and the pages of the others stay
removed : (c : Core) (name : List ℕ) (f : File) → file_by c.names.files (Some name) ≡ Some f → Coherent c → plain (follows c (Some f) (without_file c name)) ≡ without_file c name
removed c name f found h = ap plain (removed_is c name f found h) ∙ plain_like c.shape c.names places2 pages2 (without_file c name) refl seen
  where
    places2 : Places
    places2 = new_places c.places f.id [] (Pages f.len) 0

    pages2 : ℕ → Page
    pages2 = contents (renewed_in (gone_of c f.id (Pages f.len) 0) c.blocks)

    same : (x : File) → x.id ≢ f.id → plain_file places2 pages2 x ≡ plain_file c.places (contents c.blocks) x
    same x d = ap (λ (page : ℕ → Page). record { id = x.id; name = x.name; bytes = file_bytes x.len page; sealed = x.sealed }) (fun_ext (λ p. page_kept c f.id (Pages f.len) 0 x.id p h (omega arith) (inl d)))

    seen : (g : PlainFile) → Contains (without_file c name).files g → IsSeen places2 pages2 g
    seen g i =
        let m = in_map (plain_file c.places (contents c.blocks)) c.names.files g (in_without (is_file name) (plain c).files g i) in
        let id : (file_like g).id ≢ f.id = left_apart c name f found h g i in
        same (file_like g) id ∙ own_seen c g (in_without (is_file name) (plain c).files g i)

-- ---- Quick

quick_follows : (c : Core) (call : Call) → Coherent c → (is_quick call ≡ true) ⊎ (is_some (early (plain c) call) ≡ true) → plain (follows c (file_for c.names.files call) (answer (plain c) call).state) ≡ (answer (plain c) call).state
quick_follows c (Create name) h kind = creating c name (not (is_name name)) (is_some (file_of name (plain c).files)) (is_full (plain c))
quick_follows c (OpenFile name) h kind = asks c (OpenFile name) (λ o. open_stays o) h
  where
    open_stays : (o : Option Reply) → (answer_after o (plain c) (OpenFile name)).state ≡ plain c
    open_stays None = refl
    open_stays (Some r) = refl
quick_follows c (Stat name) h kind = asks c (Stat name) (λ o. stat_stays o) h
  where
    stat_stays : (o : Option Reply) → (answer_after o (plain c) (Stat name)).state ≡ plain c
    stat_stays None = refl
    stat_stays (Some r) = refl
quick_follows c (Remove name) h kind = go (early (plain c) (Remove name)) refl
  where
    go : (o : Option Reply) → early (plain c) (Remove name) ≡ o → plain (follows c (file_by c.names.files (Some name)) (answer_after o (plain c) (Remove name)).state) ≡ (answer_after o (plain c) (Remove name)).state
    go (Some r) e = stays c (Remove name) (plain c) refl h
    go None e = let f = found_of c name None e in subst (λ (o : Option File). plain (follows c o (without_file c name)) ≡ without_file c name) (sym f.1) (removed c name f.0 f.1 h)
quick_follows c (Seal name) h kind = go (early (plain c) (Seal name)) refl
  where
    go : (o : Option Reply) → early (plain c) (Seal name) ≡ o → plain (follows c (file_by c.names.files (Some name)) (answer_after o (plain c) (Seal name)).state) ≡ (answer_after o (plain c) (Seal name)).state
    go (Some r) e = stays c (Seal name) (plain c) refl h
    go None e =
        let f = found_of c name None e in
        let s2 = record (plain c) { files = with_sealed name (plain c).files } in
        subst (λ (o : Option File). plain (follows c o s2) ≡ s2) (sym f.1) (sealed c name f.0 (file_in c.names.files (Some name) f.0 f.1) h)
quick_follows c (Load name bytes) h kind = loading c name (not (is_name name)) (accepted_code bytes) (is_some (function_of name (plain c).functions)) (nat_le 64 (length (plain c).functions))
quick_follows c (Unload name) h kind = unloading c name (early (plain c) (Unload name))
quick_follows c (Read name off len) h kind = refused c (Read name off len) (must_be _ kind) h
quick_follows c (Write name off bytes) h kind = refused c (Write name off bytes) (must_be _ kind) h
quick_follows c (Append name bytes) h kind = refused c (Append name bytes) (must_be _ kind) h
quick_follows c (Trunc name len) h kind = refused c (Trunc name len) (must_be _ kind) h
quick_follows c (Readl file off len function fuel cap param) h kind = refused c (Readl file off len function fuel cap param) (must_be _ kind) h
quick_follows c (Writel file off len function fuel param input) h kind = refused c (Writel file off len function fuel param input) (must_be _ kind) h
quick_follows c Sync h kind = refused c Sync (must_be _ kind) h

pub quick_moves : (c : Core) (lane : ℕ) (call : Call) → Coherent c → (is_quick call ≡ true) ⊎ (is_some (early (plain c) call) ≡ true) → plain (quick c lane call) ≡ (answer (plain c) call).state
quick_moves c lane call h kind = quick_follows c call h kind
