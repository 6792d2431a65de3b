-- A call that is refused early, as Quick: nothing but its lane changes.
use Rattle.std.proofs.Common.{◌≡◌, ℕ, ◌+◌, Bool, true, false, List, [], ◌∷◌, Option, Some, None, refl, sym, ap, ◌∙◌, inl, inr, ⊎_elim}
use Rattle.std.specs.Prelude.{◌≢◌, ◌^◌, map, option_map, is_some, is_none, nat_lt, bytes_eq, if◌then◌else◌}
use Rattle.std.specs.List.{Contains, find}
use Rattle.std.proofs.lemmas.Slice.Eq.{bytes_eq-Decides}
use Rattle.index_lists.specs.Words.{put}
use Rattle.plain_files.specs.declared.calls.Call.{Call}
use Rattle.plain_files.specs.declared.calls.Call.TheVariants.{Create, OpenFile, Stat, Remove, Read, Write, Append, Trunc, Seal, Load, Unload, Readl, Writel, Sync}
use Rattle.plain_files.specs.declared.calls.Reply.{Reply}
use Rattle.plain_files.specs.declared.calls.Reply.TheVariants.{Done, NoFile, NoFn, TooLong, AppendOnly, TooBig}
use Rattle.plain_files.specs.declared.calls.Request.{Request}
use Rattle.plain_files.specs.Plain as plain_files
use Rattle.plain_files.specs.Plain.{State, early, answer, answer_after, is_too_long, lacks_file, lacks_function, is_append_only, end_of, has_no_file}
use Rattle.core_state.specs.Words.{EachBehind}
use Rattle.core_state.specs.State.{File, Function, Core}
use Rattle.core_state.specs.Contents.{contents}
use Rattle.core_state.specs.Reach.{file_word, file_by, file_for}
use Rattle.core_state.specs.PlainOf.{plain_file, plain_function, plain, e_in, e_or_none, function_like, names_like}
use Rattle.core_state.specs.Resizing.{follows}
use Rattle.core_state.specs.Coherent.{Coherent}
use Rattle.core_state.specs.LaneEvents.{IsReady, IsClear, MayQuick, quick, replied, is_unsealed}
use Rattle.core_lemmas.proofs.Spans.{file_in}
use Rattle.core_lemmas.proofs.Views.{file_seen}
use Rattle.core_quick.proofs.Named.{in_cases, in_here, in_there, in_none}
use Rattle.core_quick.proofs.Seen.{files_seen}
use Rattle.core_quick.proofs.Renamed.{len_by_id, follows_is}

-- ---- the names of the core's own plain state are its own

bytes_own : (xs : List ℕ) → bytes_eq xs xs ≡ true
bytes_own xs = (bytes_eq-Decides xs xs).1 refl

bytes_other : (xs ys : List ℕ) → xs ≢ ys → bytes_eq xs ys ≡ false
bytes_other xs ys d = go (bytes_eq xs ys) refl
  where
    go : (t : Bool) → bytes_eq xs ys ≡ t → t ≡ false
    go true e = absurd (d ((bytes_eq-Decides xs ys).0 e))
    go false e = refl

own_e : (all : List Function) → EachBehind (λ (f g : Function). f.name ≢ g.name) all → (x : Function) → Contains all x → e_in all x.name ≡ x.e
own_e [] h x i = absurd (in_none x i)
own_e (y ∷ ys) h x i = ⊎_elim
    (λ (s : y ≡ x). ap (λ (t : Bool). e_or_none (if t then Some y else find (λ (f : Function). bytes_eq f.name x.name) ys)) (ap (λ (z : Function). bytes_eq z.name x.name) s ∙ bytes_own x.name) ∙ ap (λ (z : Function). z.e) s)
    (λ (m : Contains ys x). ap (λ (t : Bool). e_or_none (if t then Some y else find (λ (f : Function). bytes_eq f.name x.name) ys)) (bytes_other y.name x.name (h.0 x m)) ∙ own_e ys h.1 x m)
    (in_cases y x ys i)

own_map : (old xs : List Function) → ((x : Function) → Contains xs x → e_in old x.name ≡ x.e) → map (function_like old) (map plain_function xs) ≡ xs
own_map old [] h = refl
own_map old (x ∷ xs) h =
    let e = h x (in_here x xs) in
    let r = own_map old xs (λ y i. h y (in_there x y xs i)) in
    λ i. (record x { e = e i }) ∷ r i

own_names : (c : Core) → Coherent c → names_like (plain c) c.names ≡ c.names
own_names c h =
    let a = files_seen c.places (contents c.blocks) c.names.files in
    let b = own_map c.names.functions c.names.functions (own_e c.names.functions h.placed.named.functions_apart) in
    λ i. record { files = a i; next = c.names.next; functions = b i }

-- ---- nothing follows

module _ (c : Core) (call : Call) (reply : Reply) (h : Coherent c) (e : early (plain c) call ≡ Some reply) where
  stays : (answer (plain c) call).state ≡ plain c
  stays = ap (λ (o : Option Reply). (answer_after o (plain c) call).state) e

  same : follows c (file_for c.names.files call) (answer (plain c) call).state ≡ c
  same =
      let n = own_names c h in
      ap (follows c (file_for c.names.files call)) stays
      ∙ (follows_is c (file_for c.names.files call) (plain c) (λ f k. let i = file_in c.names.files (file_word call) f k in (i, len_by_id c.shape c.names c.places (contents c.blocks) h.placed.named f i)) h
      ∙ (λ i. record c { names = n i }))

  pub refused_effect : (lane : ℕ) → record c { lanes = put c.lanes lane (replied (c.lanes lane)); last = c.last + 1 } ≡ quick c lane call
  refused_effect lane = sym (ap (λ (d : Core). record d { lanes = put c.lanes lane (replied (c.lanes lane)); last = c.last + 1 }) same)

  pub refused_reply : reply ≡ (answer (plain c) call).reply
  refused_reply = sym (ap (λ (o : Option Reply). (answer_after o (plain c) call).reply) e)

-- ---- nobody is in its way

not_done : (a b d f g : Bool) → (if a then Some TooLong else if b then Some NoFile else if d then Some NoFn else if f then Some AppendOnly else if g then Some TooBig else None) ≡ Some Done → ⊥
not_done true b d f g e = cc
not_done false true d f g e = cc
not_done false false true f g e = cc
not_done false false false true g e = cc
not_done false false false false true e = cc
not_done false false false false false e = cc

never_done : (s : State) (call : Call) (reply : Reply) → early s call ≡ Some reply → reply ≡ Done → ⊥
never_done s call reply e d = not_done (is_too_long call) (lacks_file s call) (lacks_function s call) (is_append_only s call) (nat_lt (2 ^ 28) (end_of s call)) (e ∙ ap Some d)

unsealed_not : (c : Core) (name : List ℕ) (reply : Reply) → early (plain c) (Seal name) ≡ Some reply → is_unsealed (file_by c.names.files (Some name)) ≡ true → ⊥
unsealed_not c name reply e = go (file_by c.names.files (Some name)) refl
  where
    go : (o : Option File) → file_by c.names.files (Some name) ≡ o → is_unsealed o ≡ true → ⊥
    go None q u = let z : false ≡ true = u in cc
    go (Some f) q u =
        let n = file_seen c.shape c.names c.places (contents c.blocks) name ∙ ap (option_map (plain_file c.places (contents c.blocks))) q in
        let t : has_no_file (plain c) name ≡ false = ap is_none n in
        let z : None ≡ Some reply = ap (λ (b : Bool). if b then Some NoFile else None) (sym t) ∙ e in
        cc

clear_of : (c : Core) (call : Call) (reply : Reply) → early (plain c) call ≡ Some reply → IsClear c call reply
clear_of c (Remove name) reply e = λ d. absurd (never_done (plain c) (Remove name) reply e d)
clear_of c (Unload name) reply e = λ d. absurd (never_done (plain c) (Unload name) reply e d)
clear_of c (Seal name) reply e = λ u. absurd (unsealed_not c name reply e u)
clear_of c (Create name) reply e = tt
clear_of c (OpenFile name) reply e = tt
clear_of c (Stat name) reply e = tt
clear_of c (Read name off n) reply e = tt
clear_of c (Write name off bytes) reply e = tt
clear_of c (Append name bytes) reply e = tt
clear_of c (Trunc name n) reply e = tt
clear_of c (Load name bytes) reply e = tt
clear_of c (Readl file off n function fuel cap param) reply e = tt
clear_of c (Writel file off n function fuel param input) reply e = tt
clear_of c Sync reply e = tt

pub may_refuse : (c : Core) (lane : ℕ) (request : Request) (reply : Reply) → Coherent c → IsReady c lane request → early (plain c) request.call ≡ Some reply → MayQuick c lane request reply
may_refuse c lane request reply h ready e = record {
  ready = ready;
  reply_is = refused_reply c request.call reply h e;
  kind = inr (ap is_some e);
  clear = clear_of c request.call reply e;
}
