-- Quick: a call that is answered at once.
use Rattle.std.proofs.Common.{◌≡◌, ℕ, ◌+◌, ◌-◌, ◌<◌, Bool, true, false, List, [], ◌∷◌, ◌++◌, length, take, Option, Some, None, refl, sym, ap, ◌∙◌, subst, ⊎_elim, arith}
use Rattle.std.specs.Prelude.{◌≢◌, ◌⊎◌, ◌==◌, ◌&&◌, nat_le, not, is_some, option_map, if◌then◌else◌, bytes_eq, Result, Ok, Err}
use Rattle.std.specs.List.{Contains, find}
use Rattle.std.proofs.lemmas.Bool.Decides.{nat_tests}
use Rattle.std.proofs.lemmas.Slice.Eq.{bytes_eq-Decides}
use Rattle.name_table.specs.Name.{is_name}
use Rattle.page_base.specs.Bytes.{Pages}
use Rattle.sbpf_insn.specs.declared.insn.Insn.{Insn}
use Rattle.index_lists.specs.Words.{put}
use Rattle.core_quick.specs.Call.{Call}
use Rattle.core_quick.specs.Call.TheVariants.{Create, OpenFile, Stat, Remove, Seal, Load, Unload, Sync}
use Rattle.core_quick.specs.PlainFile.{PlainFile}
use Rattle.core_quick.specs.Reply.{Reply}
use Rattle.core_quick.specs.Reply.TheVariants.{Id, BadName, Exists, Full, FnFull}
use Rattle.core_quick.specs.Request.{Request}
use Rattle.core_quick.specs.Lists.{without}
use Rattle.core_quick.specs.Steps.{◌>>=◌, refuse}
use Rattle.core_quick.specs.Plain.{State, file_of, function_of, is_file, is_function, is_full, with_file, with_sealed, done_with_functions, accepted_code, early, effect, or_refusal, answer_after}
use Rattle.core_quick.specs.Actor.{Actor}
use Rattle.core_quick.specs.Actor.TheVariants.{Lane}
use Rattle.core_quick.specs.Event.TheVariants.{Quick}
use Rattle.core_quick.specs.State.{Page, File, Places, Claim, Core}
use Rattle.core_quick.specs.Contents.{content, contents}
use Rattle.core_quick.specs.Reach.{is_data, is_sync, file_word, function_word, file_by, file_for, reach_of, len_or_none, word_is}
use Rattle.core_quick.specs.PlainOf.{plain_file, plain, bytes_or_none, bytes_by_id, names_like}
use Rattle.core_quick.specs.InFlight.{claim_of, claims}
use Rattle.core_quick.specs.Coherent.{Coherent}
use Rattle.core_quick.specs.Resizing.{free_blocks, blocks_between, page_between, new_places, renewed_in, follows}
use Rattle.core_quick.specs.LaneEvents.{replied, is_quick, IsUnheld, IsUnused, IsClear}
use Rattle.core_quick.specs.Hold.{len_seen, readable_seen, dies_held, hold}
use Rattle.core_quick.proofs.Words.{same_some}
use Rattle.core_quick.proofs.Spans.{file_in}
use Rattle.core_quick.proofs.Views.{file_seen}
use Rattle.core_quick.proofs.Named.{find_append, find_without}
use Rattle.core_quick.proofs.Renamed.{len_by_id, follows_is}
use Rattle.core_quick.proofs.Flying.{flies_on, file_flies, function_flies}
use Rattle.core_quick.proofs.Sealed.{sealing}
use Rattle.core_hold.specs.Keeps.{KeepsHolds}
use Rattle.core_hold.proofs.Views.{same_hold, lane_other, owned_lane}
use Rattle.core_hold.proofs.Lanes.{no_call_owned}
use Rattle.core_hold.proofs.Seeing.{seen_all, plain_len, plain_code, FindsAlike, len_alike, code_alike, names_alike}
use Rattle.core_hold.proofs.Moves.{other_stays, renewed_flashes}

-- what the call leaves, where it is about this file and the plain state is now this one
abbrev quick_with : Core → ℕ → Option File → State → Core
quick_with c lane found s2 = record (follows c found s2) { lanes = put c.lanes lane (replied (c.lanes lane)); last = c.last + 1 }

-- each call in flight finds a file of the same length, and a function of the same code
abbrev AllAlike : Core → State → Type 0
AllAlike c s2 = (lane : ℕ) (a : Claim) → claims c.calls lane ≡ Some a → FindsAlike (plain c) s2 a.request.call

-- ---- names change

named_holds : (c : Core) (lane : ℕ) (s2 : State) (a : Actor) → c.calls lane ≡ None → a ≢ Lane lane → AllAlike c s2 → hold (quick_with c lane None s2) a ≡ hold c a
named_holds c lane s2 a none n alike =
    let x = replied (c.lanes lane) in
    same_hold (hold (quick_with c lane None s2) a) (hold c a) refl (lane_other c.lanes c.calls lane x a n)
    (seen_all c.names (names_like s2 c.names) c.places c.places (contents c.blocks) (contents c.blocks) a c.calls
    (λ l call e. names_alike c.shape c.names c.places (contents c.blocks) s2 call.claim (alike l call.claim (ap claim_of e))))
    (owned_lane c.lanes a c.calls lane x (no_call_owned (c.lanes lane) x a lane (c.calls lane) none)) refl

-- the file that the call is about keeps its length
followed_holds : (c : Core) (lane : ℕ) (found : Option File) (s2 : State) (a : Actor) → Coherent c → c.calls lane ≡ None → a ≢ Lane lane →
    ((f : File) → found ≡ Some f → Contains c.names.files f × (length (bytes_by_id s2 f.id) ≡ f.len)) → AllAlike c s2 → hold (quick_with c lane found s2) a ≡ hold c a
followed_holds c lane found s2 a h none n same alike =
    ap (λ (d : Core). hold (record d { lanes = put c.lanes lane (replied (c.lanes lane)); last = c.last + 1 }) a) (follows_is c found s2 same h) ∙ named_holds c lane s2 a none n alike

found_there : (c : Core) (call : Call) (f : File) → Coherent c → file_for c.names.files call ≡ Some f → Contains c.names.files f
found_there c call f h e = file_in c.names.files (file_word call) f e

unchanged_holds : (c : Core) (lane : ℕ) (call : Call) (a : Actor) → Coherent c → c.calls lane ≡ None → a ≢ Lane lane → hold (quick_with c lane (file_for c.names.files call) (plain c)) a ≡ hold c a
unchanged_holds c lane call a h none n =
    followed_holds c lane (file_for c.names.files call) (plain c) a h none n
    (λ f e. (found_there c call f h e, len_by_id c.shape c.names c.places (contents c.blocks) h.placed.named f (found_there c call f h e)))
    (λ l b e. record { len = λ name w. refl; code = λ name w. refl })

-- ---- Create and Load

create_cases : (s : State) (name : List ℕ) (P : State → Type 0) → P s → P (with_file s name) → P (or_refusal s (effect s (Create name))).state
create_cases s name P old new = go (not (is_name name)) (is_some (file_of name s.files)) (is_full s)
  where
    go : (t u v : Bool) → P (or_refusal s (refuse t BadName >>= (λ x. refuse u Exists >>= (λ y. refuse v Full >>= (λ z. Ok (record { reply = Id s.next; state = with_file s name })))))).state
    go true u v = old
    go false true v = old
    go false false true = old
    go false false false = new

created_alike : (c : Core) (name : List ℕ) → Coherent c → AllAlike c (with_file (plain c) name)
created_alike c name h lane a e = record {
  len = λ other w. ap plain_len (find_append (is_file other) (plain c).files (record { id = (plain c).next; name = name; bytes = []; sealed = false } ∷ []) (file_flies c lane a other h e w));
  code = λ other w. refl;
}

load_cases : (s : State) (name bytes : List ℕ) (P : State → Type 0) → P s → ((code : List Insn) → P (record s { functions = s.functions ++ record { name = name; code = code } ∷ [] })) →
    P (or_refusal s (effect s (Load name bytes))).state
load_cases s name bytes P old new = go (not (is_name name)) (accepted_code bytes) (is_some (function_of name s.functions)) (nat_le 64 (length s.functions))
  where
    go : (t : Bool) (r : Result (List Insn) Reply) (u v : Bool) →
        P (or_refusal s (refuse t BadName >>= (λ x. r >>= (λ code. refuse u Exists >>= (λ y. refuse v FnFull >>= (λ z. Ok (done_with_functions s (s.functions ++ record { name = name; code = code } ∷ [])))))))).state
    go true r u v = old
    go false (Err x) u v = old
    go false (Ok code) true v = old
    go false (Ok code) false true = old
    go false (Ok code) false false = new code

loaded_alike : (c : Core) (name : List ℕ) (code : List Insn) → Coherent c → AllAlike c (record (plain c) { functions = (plain c).functions ++ record { name = name; code = code } ∷ [] })
loaded_alike c name code h lane a e = record {
  len = λ other w. refl;
  code = λ other w. ap plain_code (find_append (is_function other) (plain c).functions (record { name = name; code = code } ∷ []) (function_flies c lane a other h e w));
}

-- ---- Unload

not_word : (word : Option (List ℕ)) (other name n : List ℕ) → word ≡ Some other → word_is word name ≡ false → n ≡ name → bytes_eq n other ≡ false
not_word word other name n w unused same = go (bytes_eq n other) refl
  where
    go : (t : Bool) → bytes_eq n other ≡ t → t ≡ false
    go false q = refl
    go true q =
        let u : bytes_eq other name ≡ false = ap (λ (o : Option (List ℕ)). word_is o name) (sym w) ∙ unused in
        let s : bytes_eq other name ≡ true = (bytes_eq-Decides other name).1 (sym ((bytes_eq-Decides n other).0 q) ∙ same) in
        absurd (cc)

unloaded_alike : (c : Core) (name : List ℕ) → IsUnused (claims c.calls) name → AllAlike c (record (plain c) { functions = without (is_function name) (plain c).functions })
unloaded_alike c name unused lane a e = record {
  len = λ other w. refl;
  code = λ other w. ap plain_code (find_without (is_function other) (is_function name) (plain c).functions
      (λ f i t. not_word (function_word a.request.call) other name f.name w (unused lane a e) ((bytes_eq-Decides f.name name).0 t)));
}

-- ---- Seal

sealed_len : (name : List ℕ) (test : PlainFile → Bool) → ((x : PlainFile) → test (sealing x) ≡ test x) → (files : List PlainFile) → plain_len (find test (with_sealed name files)) ≡ plain_len (find test files)
sealed_len name test same [] = refl
sealed_len name test same (x ∷ xs) = go (is_file name x) (sealed_len name test same xs)
  where
    here : (t u : Bool) → u ≡ t → plain_len (if u then Some (sealing x) else find test xs) ≡ plain_len (if t then Some x else find test xs)
    here true true e = refl
    here true false e = absurd (cc)
    here false true e = absurd (cc)
    here false false e = refl

    there : (t : Bool) → plain_len (find test (with_sealed name xs)) ≡ plain_len (find test xs) → plain_len (if t then Some x else find test (with_sealed name xs)) ≡ plain_len (if t then Some x else find test xs)
    there true ih = refl
    there false ih = ih

    go : (t : Bool) → plain_len (find test (with_sealed name xs)) ≡ plain_len (find test xs) → plain_len (find test (if t then sealing x ∷ xs else x ∷ with_sealed name xs)) ≡ plain_len (find test (x ∷ xs))
    go true ih = here (test x) (test (sealing x)) (same x)
    go false ih = there (test x) ih

len_of_bytes : (o : Option PlainFile) → length (bytes_or_none o) ≡ plain_len o
len_of_bytes None = refl
len_of_bytes (Some f) = refl

seal_holds : (c : Core) (lane : ℕ) (name : List ℕ) (a : Actor) → Coherent c → c.calls lane ≡ None → a ≢ Lane lane →
    hold (quick_with c lane (file_for c.names.files (Seal name)) (record (plain c) { files = with_sealed name (plain c).files })) a ≡ hold c a
seal_holds c lane name a h none n =
    followed_holds c lane (file_for c.names.files (Seal name)) (record (plain c) { files = with_sealed name (plain c).files }) a h none n
    (λ f e.
    let there = found_there c (Seal name) f h e in (
      there,
      len_of_bytes (find (λ (g : PlainFile). g.id == f.id) (with_sealed name (plain c).files))
          ∙ (sealed_len name (λ (g : PlainFile). g.id == f.id) (λ x. refl) (plain c).files
          ∙ (sym (len_of_bytes (find (λ (g : PlainFile). g.id == f.id) (plain c).files)) ∙ len_by_id c.shape c.names c.places (contents c.blocks) h.placed.named f there)),
    ))
    (λ l b e. record { len = λ other w. sealed_len name (is_file other) (λ x. refl) (plain c).files; code = λ other w. refl })

-- ---- Remove

-- a call in flight with a page in its span has a file that is held
pub sync_pages : (call : Call) (len : ℕ) → is_sync call ≡ true → (reach_of call len).pages ≡ 0
sync_pages Sync len e = refl
sync_pages call len e = absurd (cc)

held_apart : (t : Bool) (n m : ℕ) → t ≡ true → (t && (n == m)) ≡ false → n ≢ m
held_apart t n m u z e = grind (arith, nat_tests)

other_file : (c : Core) (l : ℕ) (a : Claim) (f : File) (i : ℕ) → Coherent c → claims c.calls l ≡ Some a → IsUnheld (claims c.calls) (Some f) → i < a.reach.pages → a.file ≢ f.id
other_file c l a f i h e unheld within =
    let right = h.in_flight.right l a e in
    ⊎_elim
    (λ (d : is_data a.request.call ≡ true). held_apart (is_data a.request.call) a.file f.id d (unheld l a e))
    (λ (s : is_sync a.request.call ≡ true).
    let p : a.reach.pages ≡ 0 = ap (λ (k : Claim). k.reach.pages) right.same ∙ sync_pages a.request.call (len_or_none (file_for c.names.files a.request.call)) s in
    absurd (omega arith)) right.kind

pub other_place : (places : Places) (id : ℕ) (fresh : List ℕ) (from to other p : ℕ) → other ≢ id → new_places places id fresh from to other p ≡ places other p
other_place places id fresh from to other p d =
    let e : (other == id) ≡ false = grind (arith, nat_tests) in
    ap (λ (t : Bool). if t then page_between (places id) fresh from to p else places other p) e

removed_alike : (c : Core) (name : List ℕ) (f : File) → Coherent c → file_by c.names.files (Some name) ≡ Some f → IsUnheld (claims c.calls) (Some f) → AllAlike c (record (plain c) { files = without (is_file name) (plain c).files })
removed_alike c name f h found unheld lane a e = record {
  len = λ other w. ap plain_len (find_without (is_file other) (is_file name) (plain c).files (λ x i t. other_name other w x.name ((bytes_eq-Decides x.name name).0 t)));
  code = λ other w. refl;
}
  where
    other_name : (other : List ℕ) → file_word a.request.call ≡ Some other → (n : List ℕ) → n ≡ name → bytes_eq n other ≡ false
    other_name other w n same = go (bytes_eq n other) refl
      where
        go : (t : Bool) → bytes_eq n other ≡ t → t ≡ false
        go true q =
            let fly = flies_on c lane a other h e w in
            let o : other ≡ name = sym ((bytes_eq-Decides n other).0 q) ∙ same in
            let g : fly.file ≡ f = same_some (file_by c.names.files (Some name)) fly.file f (ap (λ (k : List ℕ). file_by c.names.files (Some k)) (sym o) ∙ fly.found) found in
            absurd (held_apart (is_data a.request.call) a.file f.id fly.kind (unheld lane a e) (fly.id ∙ ap (λ (k : File). k.id) g))
        go false q = refl

removed_holds : (c : Core) (lane : ℕ) (f : File) (s2 : State) (a : Actor) → Coherent c → c.calls lane ≡ None → a ≢ Lane lane → IsUnheld (claims c.calls) (Some f) → AllAlike c s2 → hold (quick_with c lane (Some f) s2) a ≡ hold c a
removed_holds c lane f s2 a h none n unheld alike =
    let x = replied (c.lanes lane) in
    let from = Pages f.len in
    let to = Pages (length (bytes_by_id s2 f.id)) in
    let fresh = take (to - from) (free_blocks c.shape c.names.files c.places) in
    let changed = blocks_between c.places f.id to from ++ fresh in
    same_hold (hold (quick_with c lane (Some f) s2) a) (hold c a)
    (ap (λ (pages : ℕ → Page). dies_held c.shape c.meta pages c.dies a) (renewed_flashes changed c.blocks))
    (lane_other c.lanes c.calls lane x a n)
    (seen_all c.names (names_like s2 c.names) c.places (new_places c.places f.id fresh from to) (contents c.blocks) (contents (renewed_in changed c.blocks)) a c.calls
    (λ l call e.
    let k = alike l call.claim (ap claim_of e) in
    record {
      code = code_alike c.shape c.names c.places (contents c.blocks) s2 call.claim.request.call k;
      blocks = λ i w. other_place c.places f.id fresh from to call.claim.file (call.claim.reach.first + i) (other_file c l call.claim f i h (ap claim_of e) unheld w);
      contents = λ i b w at. ap content (other_stays c.shape c.names c.places c.blocks h.placed.have f.id from to (to - from) call.claim.file (call.claim.reach.first + i) b at (other_file c l call.claim f i h (ap claim_of e) unheld w));
      len = ap (len_seen call.claim) (len_alike c.shape c.names c.places (contents c.blocks) s2 call.claim k);
      readable = ap (readable_seen call.claim) (len_alike c.shape c.names c.places (contents c.blocks) s2 call.claim k);
    }))
    (owned_lane c.lanes a c.calls lane x (no_call_owned (c.lanes lane) x a lane (c.calls lane) none)) refl

without_absent : {A : Type 0} (test : A → Bool) (xs : List A) → find test xs ≡ None → without test xs ≡ xs
without_absent test [] e = refl
without_absent {A} test (x ∷ xs) e = go (test x) e (without_absent test xs)
  where
    go : (t : Bool) → (if t then Some x else find test xs) ≡ None → (find test xs ≡ None → without test xs ≡ xs) → (if t then xs else x ∷ without test xs) ≡ x ∷ xs
    go true e ih = absurd (cc)
    go false e ih = ap (λ (ys : List A). x ∷ ys) (ih e)

-- a file that isn't there, and one that is
remove_holds : (c : Core) (lane : ℕ) (name : List ℕ) (a : Actor) → Coherent c → c.calls lane ≡ None → a ≢ Lane lane → IsUnheld (claims c.calls) (file_by c.names.files (Some name)) →
    hold (quick_with c lane (file_by c.names.files (Some name)) (record (plain c) { files = without (is_file name) (plain c).files })) a ≡ hold c a
remove_holds c lane name a h none n unheld = go (file_by c.names.files (Some name)) refl unheld
  where
    go : (found : Option File) → file_by c.names.files (Some name) ≡ found → IsUnheld (claims c.calls) found → hold (quick_with c lane found (record (plain c) { files = without (is_file name) (plain c).files })) a ≡ hold c a
    go None e u =
        let same : without (is_file name) (plain c).files ≡ (plain c).files = without_absent (is_file name) (plain c).files (file_seen c.shape c.names c.places (contents c.blocks) name ∙ ap (option_map (plain_file c.places (contents c.blocks))) e) in
        named_holds c lane (record (plain c) { files = without (is_file name) (plain c).files }) a none n
        (λ l b k. record { len = λ other w. ap (λ (files : List PlainFile). plain_len (file_of other files)) same; code = λ other w. refl })
    go (Some f) e u = removed_holds c lane f (record (plain c) { files = without (is_file name) (plain c).files }) a h none n u (removed_alike c name f h e u)

-- ---- the kinds

quick_same : (c : Core) (lane : ℕ) (call : Call) (a : Actor) (e : Option Reply) → Coherent c → c.calls lane ≡ None → a ≢ Lane lane → (is_quick call ≡ true) ⊎ (is_some e ≡ true) →
    IsClear c call (answer_after e (plain c) call).reply → hold (quick_with c lane (file_for c.names.files call) (answer_after e (plain c) call).state) a ≡ hold c a
quick_same c lane call a (Some r) h none n kind clear = unchanged_holds c lane call a h none n
quick_same c lane (Create name) a None h none n kind clear =
    create_cases (plain c) name (λ (s2 : State). hold (quick_with c lane None s2) a ≡ hold c a)
    (unchanged_holds c lane (Create name) a h none n) (named_holds c lane (with_file (plain c) name) a none n (created_alike c name h))
quick_same c lane (OpenFile name) a None h none n kind clear = unchanged_holds c lane (OpenFile name) a h none n
quick_same c lane (Stat name) a None h none n kind clear = unchanged_holds c lane (Stat name) a h none n
quick_same c lane (Remove name) a None h none n kind clear = remove_holds c lane name a h none n (clear refl)
quick_same c lane (Seal name) a None h none n kind clear = seal_holds c lane name a h none n
quick_same c lane (Load name bytes) a None h none n kind clear =
    load_cases (plain c) name bytes (λ (s2 : State). hold (quick_with c lane None s2) a ≡ hold c a)
    (unchanged_holds c lane (Load name bytes) a h none n)
    (λ code. named_holds c lane (record (plain c) { functions = (plain c).functions ++ record { name = name; code = code } ∷ [] }) a none n (loaded_alike c name code h))
quick_same c lane (Unload name) a None h none n kind clear =
    named_holds c lane (record (plain c) { functions = without (is_function name) (plain c).functions }) a none n (unloaded_alike c name (clear refl))
quick_same c lane call a None h none n kind clear = absurd (⊎_elim (λ (x : false ≡ true). cc) (λ (x : false ≡ true). cc) kind)

pub quick_holds : (lane : ℕ) (request : Request) (reply : Reply) → KeepsHolds (Quick lane request reply)
quick_holds lane request reply c c2 a h s n =
    ap (λ (k : Core). hold k a) s.leaves
    ∙ quick_same c lane request.call a (early (plain c) request.call) h s.may.ready.idle.idle n s.may.kind
    (subst (λ (r : Reply). IsClear c request.call r) s.may.reply_is s.may.clear)
