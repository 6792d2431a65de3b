-- Who sent a die that is out.
use Rattle.std.proofs.Common.{◌≡◌, ℕ, zero, suc, ◌<◌, Bool, true, false, List, [], ◌∷◌, ◌++◌, length, arith, Option, Some, None, refl, sym, ap, ◌∙◌, subst, inl, inr, ⊎_elim}
use Rattle.std.specs.Prelude.{◌≢◌, ◌⊎◌, is_none, slice_index_or, if◌then◌else◌}
use Rattle.std.specs.List.{Contains}
use Rattle.index_lists.specs.Words.{put}
use Rattle.index_lists.proofs.Counts.{same_or_not}
use Rattle.index_lists.proofs.Puts.{put-same, put-other}
use Rattle.plain_files.specs.declared.calls.Reply.{Reply}
use Rattle.plain_files.specs.Plain.{State, answer}
use Rattle.core_state.specs.declared.event.Event.{Event}
use Rattle.core_state.specs.declared.event.Event.TheVariants.{Enter, Leave, Quick, Skip, Begin, Copy, Take, DieOut, FillIn, Submit, Fetch, Report, End, Evict, Demote, FlushOut, FlushIn, MetaIn}
use Rattle.core_state.specs.declared.event.Purpose.TheVariants.{Fill, Meta}
use Rattle.core_state.specs.State.{File, Flight, Errand, ToFill, ToFlush, ToMeta, Out, DieState, Core}
use Rattle.core_state.specs.Contents.{die_of}
use Rattle.core_state.specs.Reach.{file_for}
use Rattle.core_state.specs.PlainOf.{plain}
use Rattle.core_state.specs.Resizing.{follows}
use Rattle.core_state.specs.PageEvents.{flight_at}
use Rattle.core_state.specs.DieEvents.{sent, is_flushable, home_filled, home_written, filled_by, flushed_by, stored_by}
use Rattle.core_state.specs.EndEvent.{has_changed, ended_of, ended_storing, ended_plainly, ended_by_fault}
use Rattle.core_state.specs.Happens.{actor_of, May, after, CoreRun}
use Rattle.core_state.specs.Happens.{after_all}
use Rattle.core_lemmas.proofs.Words.{same_some}
use Rattle.core_lemmas.proofs.Finds.{found_passes}
use Rattle.core_outcomes.specs.Sent.{sent_by, brought_by, WasSent}

-- ---- one event

-- A die that is out after an event was out before it for the same and the event didn't bring it home, or the event sent it.
record StaysOut (c : Core) (e : Event) (die : ℕ) (out : Out) : Type 0 where
  was : (c.dies die).out ≡ Some out
  away : brought_by e ≢ Some die

record GoesOut (c : Core) (e : Event) (die : ℕ) (out : Out) : Type 0 where
  sends : sent_by e ≡ Some die
  holder : actor_of e ≡ out.holder
  home : (c.dies die).out ≡ None

abbrev Steps : Core → Event → ℕ → Out → Type 0
Steps c e die out = StaysOut c e die out ⊎ GoesOut c e die out

none_some : {P : Type 0} {A : Type 0} (x : A) → None ≡ Some x → P
none_some x e = absurd (cc)

-- an event that leaves all dies
still : (c : Core) (e : Event) (dies : ℕ → DieState) (die : ℕ) (out : Out) → dies ≡ c.dies → brought_by e ≡ None → (dies die).out ≡ Some out → Steps c e die out
still c e dies die out same none o = inl (record { was = ap (λ (f : ℕ → DieState). (f die).out) (sym same) ∙ o; away = λ q. none_some die (sym none ∙ q) })

-- one that sends a die
goes : (c : Core) (e : Event) (d : ℕ) (errand : Errand) (die : ℕ) (out : Out) → sent_by e ≡ Some d → brought_by e ≡ None → (c.dies d).out ≡ None → (put c.dies d (sent (c.dies d) (actor_of e) errand) die).out ≡ Some out → Steps c e die out
goes c e d errand die out sends none home o = ⊎_elim
    (λ (s : die ≡ d).
    let is : (put c.dies d (sent (c.dies d) (actor_of e) errand) die).out ≡ Some (record { holder = actor_of e; errand = errand }) = ap (λ (w : DieState). w.out) (ap (put c.dies d (sent (c.dies d) (actor_of e) errand)) s ∙ put-same c.dies d (sent (c.dies d) (actor_of e) errand)) in
    let same = same_some (put c.dies d (sent (c.dies d) (actor_of e) errand) die).out (record { holder = actor_of e; errand = errand }) out is o in
    inr (record { sends = sends ∙ ap Some (sym s); holder = ap (λ (w : Out). w.holder) same; home = ap (λ (k : ℕ). (c.dies k).out) s ∙ home }))
    (λ (n : die ≢ d). inl (record { was = ap (λ (w : DieState). w.out) (sym (put-other c.dies d (sent (c.dies d) (actor_of e) errand) die n)) ∙ o; away = λ q. none_some die (sym none ∙ q) }))
    (same_or_not die d)

-- one that brings a die home
comes : (c : Core) (e : Event) (d : ℕ) (x : DieState) (dies : ℕ → DieState) (die : ℕ) (out : Out) → dies ≡ put c.dies d x → x.out ≡ None → brought_by e ≡ Some d → (dies die).out ≡ Some out → Steps c e die out
comes c e d x dies die out same home brings o = ⊎_elim
    (λ (s : die ≡ d). none_some out (sym home ∙ (ap (λ (w : DieState). w.out) (sym (ap (put c.dies d x) s ∙ put-same c.dies d x)) ∙ now)))
    (λ (n : die ≢ d). inl (record { was = ap (λ (w : DieState). w.out) (sym (put-other c.dies d x die n)) ∙ now; away = λ q. n (same_some (brought_by e) die d q brings) }))
    (same_or_not die d)
  where
    now : (put c.dies d x die).out ≡ Some out
    now = ap (λ (f : ℕ → DieState). (f die).out) (sym same) ∙ o

followed_dies : (c : Core) (found : Option File) (s : State) → (follows c found s).dies ≡ c.dies
followed_dies c None s = refl
followed_dies c (Some f) s = refl

ended_dies : (c : Core) (lane : ℕ) (call : Flight) (reply : Reply) → (ended_of c lane call reply).dies ≡ c.dies
ended_dies c lane call reply = go (c.lanes lane).mark (has_changed call reply)
  where
    go : (t u : Bool) → (if t then ended_by_fault c lane call else (if u then ended_storing c lane call else ended_plainly c lane call)).dies ≡ c.dies
    go true u = refl
    go false true = followed_dies c (file_for c.names.files call.claim.request.call) (answer (plain c) call.claim.request.call).state
    go false false = refl

is_home_out : (o : Option Out) → is_none o ≡ true → o ≡ None
is_home_out None e = refl
is_home_out (Some x) e = absurd (cc)

step : (e : Event) (c : Core) (die : ℕ) (out : Out) → May c e → ((after c e).dies die).out ≡ Some out → Steps c e die out
step (Enter lane) c die out may o = still c (Enter lane) c.dies die out refl refl o
step (Leave lane) c die out may o = still c (Leave lane) c.dies die out refl refl o
step (Quick lane request reply) c die out may o = still c (Quick lane request reply) (follows c (file_for c.names.files request.call) (answer (plain c) request.call).state).dies die out (followed_dies c (file_for c.names.files request.call) (answer (plain c) request.call).state) refl o
step (Skip lane request fault) c die out may o = still c (Skip lane request fault) c.dies die out refl refl o
step (Begin lane request side) c die out may o = still c (Begin lane request side) c.dies die out refl refl o
step (Copy actor lane i) c die out may o = still c (Copy actor lane i) c.dies die out refl refl o
step (Take actor lane i) c die out may o = still c (Take actor lane i) c.dies die out refl refl o
step (DieOut actor d (Fill lane i)) c die out may o = goes c (DieOut actor d (Fill lane i)) d (ToFill lane i) die out refl refl may.home o
step (DieOut actor d (Meta page bytes)) c die out may o = goes c (DieOut actor d (Meta page bytes)) d (ToMeta page bytes) die out refl refl may.home o
step (FillIn actor d good) c die out may o =
    comes c (FillIn actor d good) d (home_filled (c.dies d) good) (filled_by c d good (c.dies d).out).dies die out (ap (λ (w : Option Out). (filled_by c d good w).dies) may.out) refl refl o
step (Submit lane) c die out may o = still c (Submit lane) c.dies die out refl refl o
step (Fetch worker lane) c die out may o = still c (Fetch worker lane) c.dies die out refl refl o
step (Report worker lane) c die out may o = still c (Report worker lane) c.dies die out refl refl o
step (End lane request reply) c die out may o = still c (End lane request reply) (ended_of c lane (flight_at c.calls lane) reply).dies die out (ended_dies c lane (flight_at c.calls lane) reply) refl o
step (Evict actor side block) c die out may o = still c (Evict actor side block) c.dies die out refl refl o
step (Demote actor block) c die out may o = still c (Demote actor block) c.dies die out refl refl o
step (FlushOut actor d block) c die out may o =
    goes c (FlushOut actor d block) d (ToFlush block (c.blocks block).version (Rattle.core_state.specs.Contents.content (c.blocks block))) die out refl refl
    (is_home_out (c.dies d).out (ap (λ (k : ℕ). is_none (c.dies k).out) (sym may.on_die) ∙ found_passes (is_flushable c) c.unclean block may.first)) o
step (FlushIn actor d good left) c die out may o =
    comes c (FlushIn actor d good left) d (home_written (c.dies d) good) (flushed_by c actor d good left (c.dies d).out).dies die out (ap (λ (w : Option Out). (flushed_by c actor d good left w).dies) may.out) refl refl o
step (MetaIn actor d good left) c die out may o =
    comes c (MetaIn actor d good left) d (home_written (c.dies d) good) (stored_by c actor d good left (c.dies d).out).dies die out (ap (λ (w : Option Out). (stored_by c actor d good left w).dies) may.out) refl refl o

-- ---- a run

record AllOut (c : Core) (events : List Event) (die : ℕ) (out : Out) : Type 0 where
  since : (gone left : List Event) → events ≡ gone ++ left → ((after_all c gone).dies die).out ≡ Some out
  away : (e : Event) → Contains events e → brought_by e ≢ Some die

-- in the core before an event and in all those behind it
from_first : (x : Event) (xs : List Event) (c : Core) (die : ℕ) (out : Out) → (c.dies die).out ≡ Some out → ((gone left : List Event) → xs ≡ gone ++ left → ((after_all (after c x) gone).dies die).out ≡ Some out) →
    (gone left : List Event) → x ∷ xs ≡ gone ++ left → ((after_all c gone).dies die).out ≡ Some out
from_first x xs c die out was since [] left e = was
from_first x xs c die out was since (y ∷ gone) left e =
    let same : x ≡ y = cc in
    let tail : xs ≡ gone ++ left = cc in
    ap (λ (z : Event). ((after_all (after c z) gone).dies die).out) (sym same) ∙ since gone left tail

each : (P : Event → Type 0) (x : Event) (xs : List Event) → P x → ((e : Event) → Contains xs e → P e) → (e : Event) → Contains (x ∷ xs) e → P e
each P x xs here there e k = go k.0 k.1 k.2
  where
    go : (i : ℕ) → i < length (x ∷ xs) → slice_index_or (x ∷ xs) i e ≡ e → P e
    go zero l q = subst P q here
    go (suc i) l q = there e (i, omega arith, q)

out_since : (events : List Event) (c c1 : Core) (die : ℕ) (out : Out) → CoreRun c events c1 → (c1.dies die).out ≡ Some out → AllOut c events die out ⊎ WasSent c events die out
out_since [] c c1 die out r o = inl (record { since = none; away = λ e k. absurd (in_none e k) })
  where
    none : (gone left : List Event) → [] ≡ gone ++ left → ((after_all c gone).dies die).out ≡ Some out
    none [] left e = ap (λ (k : Core). (k.dies die).out) (sym r) ∙ o
    none (y ∷ gone) left e = absurd (cc)

    in_none : (e : Event) → Contains [] e → ⊥
    in_none e k = let l = k.1 in omega arith
out_since (x ∷ xs) c c1 die out r o = ⊎_elim first later (out_since xs (after c x) c1 die out r.1 o)
  where
    later : WasSent (after c x) xs die out → AllOut c (x ∷ xs) die out ⊎ WasSent c (x ∷ xs) die out
    later w = inr (record {
      before = x ∷ w.before;
      event = w.event;
      rest = w.rest;
      split = ap (λ (es : List Event). x ∷ es) w.split;
      sends = w.sends;
      holder = w.holder;
      home = w.home;
      since = w.since;
      stays = w.stays;
    })

    first : AllOut (after c x) xs die out → AllOut c (x ∷ xs) die out ⊎ WasSent c (x ∷ xs) die out
    first a = ⊎_elim
        (λ (s : StaysOut c x die out). inl (record { since = from_first x xs c die out s.was a.since; away = each (λ (e : Event). brought_by e ≢ Some die) x xs s.away a.away }))
        (λ (g : GoesOut c x die out). inr (record {
          before = [];
          event = x;
          rest = xs;
          split = refl;
          sends = g.sends;
          holder = g.holder;
          home = g.home;
          since = a.since;
          stays = a.away;
        }))
        (step x c die out r.0.may (a.since [] xs refl))

pub run_sent : (c0 c1 : Core) (events : List Event) → ((die : ℕ) → (c0.dies die).out ≡ None) → CoreRun c0 events c1 → (die : ℕ) (out : Out) → (c1.dies die).out ≡ Some out → WasSent c0 events die out
run_sent c0 c1 events home r die out o = ⊎_elim (λ (a : AllOut c0 events die out). none_some out (sym (home die) ∙ a.since [] events refl)) (λ (w : WasSent c0 events die out). w) (out_since events c0 c1 die out r o)
