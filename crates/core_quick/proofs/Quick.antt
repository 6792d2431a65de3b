-- Quick keeps a core coherent: by the call, and by what the plain machine makes of it.
use Rattle.std.proofs.Common.{◌≡◌, ℕ, ◌+◌, Bool, true, false, List, length, Option, Some, None, refl, sym, ap, ◌∙◌, subst, inl}
use Rattle.std.specs.Prelude.{◌⊎◌, nat_le, not, is_some, Result, Ok, Err}
use Rattle.std.specs.List.{Contains}
use Rattle.name_table.specs.Name.{is_name}
use Rattle.index_lists.specs.Words.{put}
use Rattle.sbpf_insn.specs.declared.insn.Insn.{Insn}
use Rattle.core_lanes.specs.Call.{Call}
use Rattle.core_lanes.specs.Call.TheVariants.{Create, OpenFile, Stat, Remove, Read, Write, Append, Trunc, Seal, Load, Unload, Readl, Writel, Sync}
use Rattle.core_lanes.specs.Reply.{Reply}
use Rattle.core_lanes.specs.Reply.TheVariants.{Id, Done, BadName, Exists, Full}
use Rattle.core_lanes.specs.Request.{Request}
use Rattle.core_lanes.specs.Lists.{without}
use Rattle.core_lanes.specs.Steps.{◌>>=◌, refuse}
use Rattle.core_lanes.specs.Plain.{State, early, answer, answer_after, or_refusal, file_of, function_of, is_file, is_full, with_file, with_sealed, accepted_code}
use Rattle.core_lanes.specs.State.{Inside, File, Core}
use Rattle.core_lanes.specs.Reach.{file_word, file_by, file_for}
use Rattle.core_lanes.specs.PlainOf.{plain, bytes_by_id}
use Rattle.core_lanes.specs.InFlight.{claims}
use Rattle.core_lanes.specs.Coherent.{Coherent}
use Rattle.core_lanes.specs.LaneEvents.{replied, is_quick, is_unsealed, IsUnheld, IsUnused, IsClear, quick, MayQuick}
use Rattle.core_lanes.specs.Resizing.{follows}
use Rattle.core_lanes.proofs.Spans.{file_in}
use Rattle.core_lanes.proofs.Idle.{idle_keeps}
use Rattle.core_quick.proofs.Renamed.{follows_is}
use Rattle.core_quick.proofs.Unchanged.{unchanged_keeps}
use Rattle.core_quick.proofs.Created.{created_keeps, loaded_keeps, unloaded_keeps}
use Rattle.core_quick.proofs.Sealed.{sealed_keeps, sealed_len}
use Rattle.core_quick.proofs.Removed.{removed_keeps}
use Rattle.core_quick.proofs.Moves.{early_stays, found_of, must_be, loaded_state, quick_moves}

-- ---- the parts of an answer

-- a file that a call found is one of the core's
there_of : (c : Core) (call : Call) (f : File) → file_for c.names.files call ≡ Some f → Contains c.names.files f
there_of c call f e = file_in c.names.files (file_word call) f e

-- an answer that leaves the state
stays : (c : Core) (call : Call) (s2 : State) → s2 ≡ plain c → Coherent c → Coherent (follows c (file_for c.names.files call) s2)
stays c call s2 e h = unchanged_keeps c (file_for c.names.files call) s2 e (there_of c call) h

-- ---- by the call

create_keeps : (c : Core) (name : List ℕ) (a b f : Bool) → is_some (file_of name (plain c).files) ≡ b →
    plain (follows c None (or_refusal (plain c) (refuse a BadName >>= (λ u. refuse b Exists >>= (λ u. refuse f Full >>= (λ u. Ok (record { reply = Id (plain c).next; state = with_file (plain c) name })))))).state)
    ≡ (or_refusal (plain c) (refuse a BadName >>= (λ u. refuse b Exists >>= (λ u. refuse f Full >>= (λ u. Ok (record { reply = Id (plain c).next; state = with_file (plain c) name })))))).state → Coherent c →
    Coherent (follows c None (or_refusal (plain c) (refuse a BadName >>= (λ u. refuse b Exists >>= (λ u. refuse f Full >>= (λ u. Ok (record { reply = Id (plain c).next; state = with_file (plain c) name })))))).state)
create_keeps c name true b f e moves h = unchanged_keeps c None (plain c) refl (λ g q. absurd (cc)) h
create_keeps c name false true f e moves h = unchanged_keeps c None (plain c) refl (λ g q. absurd (cc)) h
create_keeps c name false false true e moves h = unchanged_keeps c None (plain c) refl (λ g q. absurd (cc)) h
create_keeps c name false false false e moves h = created_keeps c name e moves h

load_keeps : (c : Core) (name : List ℕ) (a : Bool) (code : Result (List Insn) Reply) (b f : Bool) → is_some (function_of name (plain c).functions) ≡ b →
    plain (follows c None (loaded_state (plain c) name a code b f)) ≡ loaded_state (plain c) name a code b f → Coherent c → Coherent (follows c None (loaded_state (plain c) name a code b f))
load_keeps c name true code b f e moves h = unchanged_keeps c None (plain c) refl (λ g q. absurd (cc)) h
load_keeps c name false (Err r) b f e moves h = unchanged_keeps c None (plain c) refl (λ g q. absurd (cc)) h
load_keeps c name false (Ok code) true f e moves h = unchanged_keeps c None (plain c) refl (λ g q. absurd (cc)) h
load_keeps c name false (Ok code) false true e moves h = unchanged_keeps c None (plain c) refl (λ g q. absurd (cc)) h
load_keeps c name false (Ok code) false false e moves h = loaded_keeps c name code e moves h

-- a call that asks alone, or one that is refused early
asks_keep : (c : Core) (call : Call) → ((o : Option Reply) → (answer_after o (plain c) call).state ≡ plain c) → Coherent c → Coherent (follows c (file_for c.names.files call) (answer (plain c) call).state)
asks_keep c call same h = stays c call (answer (plain c) call).state (same (early (plain c) call)) h

refused_keeps : (c : Core) (call : Call) → is_some (early (plain c) call) ≡ true → Coherent c → Coherent (follows c (file_for c.names.files call) (answer (plain c) call).state)
refused_keeps c call e h = stays c call (answer (plain c) call).state (early_stays (early (plain c) call) (plain c) call e) h

remove_keeps : (c : Core) (name : List ℕ) → Coherent c → ((answer (plain c) (Remove name)).reply ≡ Done → IsUnheld (claims c.calls) (file_for c.names.files (Remove name))) →
    plain (follows c (file_for c.names.files (Remove name)) (answer (plain c) (Remove name)).state) ≡ (answer (plain c) (Remove name)).state → Coherent (follows c (file_for c.names.files (Remove name)) (answer (plain c) (Remove name)).state)
remove_keeps c name h clear moves = go (early (plain c) (Remove name)) refl clear moves
  where
    at : Option File → Option Reply → Type 0
    at found o = Coherent (follows c found (answer_after o (plain c) (Remove name)).state)

    go : (o : Option Reply) → early (plain c) (Remove name) ≡ o → ((answer_after o (plain c) (Remove name)).reply ≡ Done → IsUnheld (claims c.calls) (file_by c.names.files (Some name))) →
        plain (follows c (file_by c.names.files (Some name)) (answer_after o (plain c) (Remove name)).state) ≡ (answer_after o (plain c) (Remove name)).state → Coherent (follows c (file_by c.names.files (Some name)) (answer_after o (plain c) (Remove name)).state)
    go (Some r) e clear moves = stays c (Remove name) (plain c) refl h
    go None e clear moves =
        let f = found_of c name None e in
        let s2 = record (plain c) { files = without (is_file name) (plain c).files } in
        subst (λ (o : Option File). Coherent (follows c o s2)) (sym f.1)
        (removed_keeps c name f.0 f.1 (subst (IsUnheld (claims c.calls)) f.1 (clear refl)) (subst (λ (o : Option File). plain (follows c o s2) ≡ s2) f.1 moves) h)

seal_keeps : (c : Core) (name : List ℕ) → Coherent c → (is_unsealed (file_for c.names.files (Seal name)) ≡ true → IsUnheld (claims c.calls) (file_for c.names.files (Seal name))) →
    plain (follows c (file_for c.names.files (Seal name)) (answer (plain c) (Seal name)).state) ≡ (answer (plain c) (Seal name)).state → Coherent (follows c (file_for c.names.files (Seal name)) (answer (plain c) (Seal name)).state)
seal_keeps c name h clear moves = go (early (plain c) (Seal name)) refl moves
  where
    go : (o : Option Reply) → early (plain c) (Seal name) ≡ o →
        plain (follows c (file_by c.names.files (Some name)) (answer_after o (plain c) (Seal name)).state) ≡ (answer_after o (plain c) (Seal name)).state → Coherent (follows c (file_by c.names.files (Some name)) (answer_after o (plain c) (Seal name)).state)
    go (Some r) e moves = stays c (Seal name) (plain c) refl h
    go None e moves =
        let f = found_of c name None e in
        let s2 = record (plain c) { files = with_sealed name (plain c).files } in
        let same = follows_is c (Some f.0) s2 (λ g q. let k = some_is f.0 g q in (subst (Contains c.names.files) k (file_in c.names.files (Some name) f.0 f.1), subst (λ (w : File). length (bytes_by_id s2 w.id) ≡ w.len) k (sealed_len c name f.0 (file_in c.names.files (Some name) f.0 f.1) h))) h in
        subst (λ (o : Option File). Coherent (follows c o s2)) (sym f.1)
        (subst Coherent (sym same)
        (sealed_keeps c name f.0 f.1 (λ u. subst (IsUnheld (claims c.calls)) f.1 (clear (ap is_unsealed f.1 ∙ u)))
        (ap plain (sym same) ∙ subst (λ (o : Option File). plain (follows c o s2) ≡ s2) f.1 moves) h))
      where
        some_is : (f g : File) → Some f ≡ Some g → f ≡ g
        some_is f g q = cc

unload_keeps : (c : Core) (name : List ℕ) → Coherent c → ((answer (plain c) (Unload name)).reply ≡ Done → IsUnused (claims c.calls) name) →
    plain (follows c None (answer (plain c) (Unload name)).state) ≡ (answer (plain c) (Unload name)).state → Coherent (follows c None (answer (plain c) (Unload name)).state)
unload_keeps c name h clear moves = go (early (plain c) (Unload name)) clear moves
  where
    go : (o : Option Reply) → ((answer_after o (plain c) (Unload name)).reply ≡ Done → IsUnused (claims c.calls) name) →
        plain (follows c None (answer_after o (plain c) (Unload name)).state) ≡ (answer_after o (plain c) (Unload name)).state → Coherent (follows c None (answer_after o (plain c) (Unload name)).state)
    go (Some r) clear moves = unchanged_keeps c None (plain c) refl (λ g q. absurd (cc)) h
    go None clear moves = unloaded_keeps c name (clear refl) moves h

-- ---- Quick

quick_follows : (c : Core) (call : Call) (reply : Reply) → Coherent c → reply ≡ (answer (plain c) call).reply → (is_quick call ≡ true) ⊎ (is_some (early (plain c) call) ≡ true) → IsClear c call reply →
    plain (follows c (file_for c.names.files call) (answer (plain c) call).state) ≡ (answer (plain c) call).state → Coherent (follows c (file_for c.names.files call) (answer (plain c) call).state)
quick_follows c (Create name) reply h r kind clear moves = create_keeps c name (not (is_name name)) (is_some (file_of name (plain c).files)) (is_full (plain c)) refl moves h
quick_follows c (OpenFile name) reply h r kind clear moves = asks_keep c (OpenFile name) (λ o. open_stays o) h
  where
    open_stays : (o : Option Reply) → (answer_after o (plain c) (OpenFile name)).state ≡ plain c
    open_stays None = refl
    open_stays (Some r) = refl
quick_follows c (Stat name) reply h r kind clear moves = asks_keep c (Stat name) (λ o. stat_stays o) h
  where
    stat_stays : (o : Option Reply) → (answer_after o (plain c) (Stat name)).state ≡ plain c
    stat_stays None = refl
    stat_stays (Some r) = refl
quick_follows c (Remove name) reply h r kind clear moves = remove_keeps c name h (λ e. clear (r ∙ e)) moves
quick_follows c (Seal name) reply h r kind clear moves = seal_keeps c name h clear moves
quick_follows c (Load name bytes) reply h r kind clear moves = load_keeps c name (not (is_name name)) (accepted_code bytes) (is_some (function_of name (plain c).functions)) (nat_le 64 (length (plain c).functions)) refl moves h
quick_follows c (Unload name) reply h r kind clear moves = unload_keeps c name h (λ e. clear (r ∙ e)) moves
quick_follows c (Read name off len) reply h r kind clear moves = refused_keeps c (Read name off len) (must_be _ kind) h
quick_follows c (Write name off bytes) reply h r kind clear moves = refused_keeps c (Write name off bytes) (must_be _ kind) h
quick_follows c (Append name bytes) reply h r kind clear moves = refused_keeps c (Append name bytes) (must_be _ kind) h
quick_follows c (Trunc name len) reply h r kind clear moves = refused_keeps c (Trunc name len) (must_be _ kind) h
quick_follows c (Readl file off len function fuel cap param) reply h r kind clear moves = refused_keeps c (Readl file off len function fuel cap param) (must_be _ kind) h
quick_follows c (Writel file off len function fuel param input) reply h r kind clear moves = refused_keeps c (Writel file off len function fuel param input) (must_be _ kind) h
quick_follows c Sync reply h r kind clear moves = refused_keeps c Sync (must_be _ kind) h

-- and the lane has its reply
finish : (c : Core) (lane : ℕ) (found : Option File) (s2 : State) → c.calls lane ≡ None → (c.lanes lane).stage ≡ Inside → Coherent (follows c found s2) → Coherent (record (follows c found s2) { lanes = put c.lanes lane (replied (c.lanes lane)); last = c.last + 1 })
finish c lane None s2 none inside h = idle_keeps (follows c None s2) lane (c.last + 1) (replied (c.lanes lane)) none (λ die out e. inl inside) h
finish c lane (Some f) s2 none inside h = idle_keeps (follows c (Some f) s2) lane (c.last + 1) (replied (c.lanes lane)) none (λ die out e. inl inside) h

pub quick_keeps : (c : Core) (lane : ℕ) (request : Request) (reply : Reply) → Coherent c → MayQuick c lane request reply → Coherent (quick c lane request.call)
quick_keeps c lane request reply h may =
    finish c lane (file_for c.names.files request.call) (answer (plain c) request.call).state may.ready.idle.idle may.ready.idle.inside
    (quick_follows c request.call reply h may.reply_is may.kind may.clear (quick_moves c lane request.call h may.kind))
