-- In the end no die is out, and the system is closing.
use Rattle.std.proofs.Common.{◌≡◌, ℕ, ◌<◌, Bool, false, cond, List, [], ◌∷◌, ◌++◌, map, Option, Some, None, refl, sym, ap, ◌∙◌, subst, inl, inr, ⊎_elim, arith, eq-eqb, suc}
use Rattle.std.specs.Prelude.{◌⊎◌}
use mathlib.Core.List.{map-append}
use Rattle.std.specs.declared.snapshot.Snapshot.{Snapshot}
use Rattle.turn_cell.specs.declared.book.Entry.{Entry}
use Rattle.turn_cell.specs.declared.view.Joined.{Joined}
use Rattle.turn_cell.specs.declared.view.View.{View}
use Rattle.turn_cell.specs.Events.{events_of}
use Rattle.turn_cell.specs.History.{entry, entries_of, Has, AllMay, MayMake}
use Rattle.turn_cell.specs.Rule.{HasJoined}
use Rattle.turn_cell.specs.Steps.{SeesAllowed}
use Rattle.turn_cell.specs.Teams.{IsWhole}
use Rattle.turn_cell.proofs.Plain.{entries_append, others_from}
use Rattle.core_state.specs.declared.actor.Actor.{Actor}
use Rattle.core_state.specs.declared.actor.Actor.TheVariants.{Lane, Worker, Flusher, Closer}
use Rattle.core_state.specs.declared.event.Event.{Event}
use Rattle.core_state.specs.State.{Inside, Gone, Stage, Flight, Out, Core}
use Rattle.core_state.specs.Happens.{HoldsNone, IsClosing, CoreRun, actor_of, after, after_all}
use Rattle.core_state.specs.Coherent.{Coherent}
use Rattle.core_state.specs.Hold.{hold}
use Rattle.core_history.proofs.Leaving.{gone_stays}
use Rattle.core_outcomes.specs.Sent.{WasSent}
use Rattle.core_outcomes.proofs.Sent.{run_sent}
use Rattle.desk_turns.specs.Making.{AreOf}
use Rattle.desk_turns.specs.Passing.{Acts, May, core_after, core_seen}
use Rattle.desk_turns.proofs.Holding.{others_hold, run_split, shapes_kept, coherent_all}
use Rattle.lane_history.specs.Closings.{ActorDone, AreActors, HaveLeft}

-- ---- lists

-- an event of a history, with its entry
pub record Stood (h : List (Entry Event)) (before rest : List Event) (event : Event) : Type 0 where
  pub front : List (Entry Event)
  pub at : Entry Event
  pub back : List (Entry Event)
  pub split : h ≡ front ++ at ∷ back
  pub is : at.event ≡ event
  pub fronts : events_of front ≡ before
  pub backs : events_of back ≡ rest

stood : (h : List (Entry Event)) (before rest : List Event) (event : Event) → events_of h ≡ before ++ event ∷ rest → Stood h before rest event
stood [] [] rest event e = absurd (cc)
stood [] (b ∷ bs) rest event e = absurd (cc)
stood (x ∷ xs) [] rest event e = record { front = []; at = x; back = xs; split = refl; is = cc; fronts = refl; backs = cc }
stood (x ∷ xs) (b ∷ bs) rest event e =
    let s = stood xs bs rest event (cc) in
    let first : x.event ≡ b = cc in
    record { front = x ∷ s.front; at = s.at; back = s.back; split = ap (λ z. x ∷ z) s.split; is = s.is; fronts = (λ i. first i ∷ s.fronts i); backs = s.backs }

-- what stands in two lists put together stands in the first, or in the second
in_either : (xs ys front back : List (Entry Event)) (at : Entry Event) → front ++ at ∷ back ≡ xs ++ ys →
    ((zs : List (Entry Event)) × (xs ≡ front ++ at ∷ zs) × (back ≡ zs ++ ys)) ⊎ ((zs : List (Entry Event)) × (ys ≡ zs ++ at ∷ back))
in_either [] ys front back at e = inr (front, sym e)
in_either (x ∷ xs) ys [] back at e = let same : at ≡ x = cc in inl (xs, (λ i. sym same i ∷ xs), cc)
in_either (x ∷ xs) ys (f ∷ fs) back at e =
    let same : f ≡ x = cc in
    ⊎_elim
    (λ (z : (zs : List (Entry Event)) × (xs ≡ fs ++ at ∷ zs) × (back ≡ zs ++ ys)). inl (z.0, (λ i. sym same i ∷ z.1 i), z.2))
    (λ (z : (zs : List (Entry Event)) × (ys ≡ zs ++ at ∷ back)). inr z)
    (in_either xs ys fs back at (cc))

has_it : (front back : List (Entry Event)) (at : Entry Event) → Has (front ++ at ∷ back) at
has_it [] back at = (0, refl)
has_it (f ∷ fs) back at = let h = has_it fs back at in (suc h.0, h.1)

may_it : (may : ℕ → Event → Type 0) (front back : List (Entry Event)) (at : Entry Event) → AllMay may (front ++ at ∷ back) → may at.number at.event
may_it may [] back at all = all.0
may_it may (f ∷ fs) back at all = may_it may fs back at all.1

-- its own pass's entries have it
own_it : (front back : List (Entry Event)) (at : Entry Event) → entries_of at.number (front ++ at ∷ back) ≡ entries_of at.number front ++ at ∷ entries_of at.number back
own_it front back at =
    entries_append at.number front (at ∷ back)
    ∙ ap (λ (b : Bool). entries_of at.number front ++ cond b (at ∷ entries_of at.number back) (entries_of at.number back)) (eq-eqb at.number at.number refl)

some_there : {A : Type 0} (xs ys : List A) (y : A) → xs ++ y ∷ ys ≡ [] → ⊥
some_there [] ys y e = absurd (cc)
some_there (x ∷ xs) ys y e = absurd (cc)

cancel : {A : Type 0} (xs ys : List A) → xs ≡ xs ++ ys → ys ≡ []
cancel [] ys e = sym e
cancel (x ∷ xs) ys e = cancel xs ys (cc)

-- an entry among those of one actor's events is the actor's
of_it : (n : ℕ) (a : Actor) (es : List Event) (front back : List (Entry Event)) (at : Entry Event) → AreOf a es → map (entry n) es ≡ front ++ at ∷ back → actor_of at.event ≡ a
of_it n a [] front back at of e = absurd (some_there front back at (sym e))
of_it n a (x ∷ xs) [] back at of e = let same : entry n x ≡ at = cc in ap (λ (z : Entry Event). actor_of z.event) (sym same) ∙ of.0
of_it n a (x ∷ xs) (f ∷ fs) back at of e = of_it n a xs fs back at of.1 (cc)

-- ---- actors

by_closer : (lanes : ℕ) (a : Actor) → Acts lanes 0 a → a ≡ Closer
by_closer lanes (Lane l) p = let z = p.0 in absurd (omega arith)
by_closer lanes (Worker w) p = absurd (omega arith)
by_closer lanes (Flusher f) p = absurd (omega arith)
by_closer lanes Closer p = refl

gone_not_inside : (s : Stage) → s ≡ Gone → s ≡ Inside → ⊥
gone_not_inside s p q = absurd (cc)

gone_run : (es : List Event) (c d : Core) (lane : ℕ) → CoreRun c es d → (c.lanes lane).stage ≡ Gone → (d.lanes lane).stage ≡ Gone
gone_run [] c d lane r g = ap (λ (k : Core). (k.lanes lane).stage) r ∙ g
gone_run (e ∷ es) c d lane r g = gone_run es (after c e) d lane r.1 (gone_stays c (after c e) e lane r.0 g)

-- ---- the end

module _ {S : Type 0} (core : S → Core) (o : Snapshot S) where
  -- the pass that made an entry of the whole history may make it
  acts_it : (v : View (Snapshot S) Event) (front back : List (Entry Event)) (at : Entry Event) → v.alone ≡ false → SeesAllowed (May core) o v → v.seen ≡ front ++ at ∷ back → Acts (core o.value).shape.lanes at.number (actor_of at.event)
  acts_it v front back at off all e = ⊎_elim (λ t. absurd (cc)) (λ p. p) (may_it (MayMake (May core) v.alone o) front back at (subst (λ h. AllMay (MayMake (May core) v.alone o) h) e all))

  -- while the closer's pass makes no entry, others alone do
  pub closer_kept : (v : View (Snapshot S) Event) → v.alone ≡ false → SeesAllowed (May core) o v → entries_of 0 v.seen ≡ [] → Coherent (core o.value) → CoreRun (core o.value) (events_of v.seen) (core_seen core o v) →
      hold (core_seen core o v) Closer ≡ hold (core o.value) Closer
  closer_kept v off all none coherent run =
      others_hold core o 0 Closer (core o.value) v.seen (core o.value) (core_seen core o v) refl (λ l f is flies. absurd (cc)) refl coherent
      (others_from (May core) v.alone o 0 v.seen all off none) run

  -- a joined pass's actor held no die when it saw the history last, and has sent none since
  not_sent : (v : View (Snapshot S) Event) (x : Joined Event) (a : Actor) (die : ℕ) (out : Out) → IsWhole v → Has v.joined x → ActorDone core o a x → (sent : WasSent (core o.value) (events_of v.seen) die out) →
      (s : Stood v.seen sent.before sent.rest sent.event) → x.number ≡ s.at.number → ⊥
  not_sent v x a die out whole has done sent s number =
      let j = whole.joined x has in
      let late = j.1.0 in
      let mine : entries_of s.at.number v.seen ≡ x.entries = ap (λ (n : ℕ). entries_of n v.seen) (sym number) ∙ j.0 in
      let among : map (entry x.number) done.events ≡ entries_of s.at.number s.front ++ s.at ∷ entries_of s.at.number s.back
      = sym done.made ∙ (sym mine ∙ (ap (entries_of s.at.number) s.split ∙ own_it s.front s.back s.at)) in
      let actor : actor_of s.at.event ≡ a = of_it x.number a done.events (entries_of s.at.number s.front) (entries_of s.at.number s.back) s.at done.of among in
      let holds : out.holder ≡ a = sym sent.holder ∙ (ap actor_of (sym s.is) ∙ actor) in
      let none : entries_of x.number late ≡ [] = cancel x.entries (entries_of x.number late)
      (sym j.0 ∙ (ap (entries_of x.number) j.1.1 ∙ (entries_append x.number x.seen late ∙ ap (λ z. z ++ entries_of x.number late) done.seen))) in
      ⊎_elim
      (λ (z : (zs : List (Entry Event)) × (x.seen ≡ s.front ++ s.at ∷ zs) × (s.back ≡ zs ++ late)).
      let left : sent.rest ≡ events_of z.0 ++ events_of late = sym s.backs ∙ (ap events_of z.2 ∙ map-append (λ (e : Entry Event). e.event) z.0 late) in
      let to : events_of x.seen ≡ sent.before ++ sent.event ∷ events_of z.0
      = ap events_of z.1 ∙ (map-append (λ (e : Entry Event). e.event) s.front (s.at ∷ z.0) ∙ (λ i. s.fronts i ++ s.is i ∷ events_of z.0)) in
      done.none die out (ap (λ (es : List Event). ((after_all (core o.value) es).dies die).out) to ∙ sent.since (events_of z.0) (events_of late) left) holds)
      (λ (z : (zs : List (Entry Event)) × (late ≡ zs ++ s.at ∷ s.back)).
      some_there (entries_of s.at.number z.0) (entries_of s.at.number s.back) s.at
      (sym (own_it z.0 s.back s.at) ∙ ((λ i. entries_of (sym number i) (sym z.1 i)) ∙ none)))
      (in_either x.seen late s.front s.back s.at (sym s.split ∙ j.1.1))

  pub all_home : (v : View (Snapshot S) Event) → v.alone ≡ false → IsWhole v → SeesAllowed (May core) o v → ((die : ℕ) → ((core o.value).dies die).out ≡ None) → CoreRun (core o.value) (events_of v.seen) (core_seen core o v) →
      AreActors core o v → HoldsNone (core_seen core o v) Closer → (die : ℕ) → ((core_seen core o v).dies die).out ≡ None
  all_home v off whole all home run actors closer die = by ((core_seen core o v).dies die).out refl
    where
      by : (out : Option Out) → ((core_seen core o v).dies die).out ≡ out → ((core_seen core o v).dies die).out ≡ None
      by None e = e
      by (Some out) e =
          let sent = run_sent (core o.value) (core_seen core o v) (events_of v.seen) home run die out e in
          let s = stood v.seen sent.before sent.rest sent.event sent.split in
          let acts = acts_it v s.front s.back s.at off all s.split in
          absurd (⊎_elim
          (λ (zero : s.at.number ≡ 0).
          let holds : actor_of s.at.event ≡ Closer = by_closer (core o.value).shape.lanes (actor_of s.at.event) (subst (λ (n : ℕ). Acts (core o.value).shape.lanes n (actor_of s.at.event)) zero acts) in
          closer die out e (sym sent.holder ∙ (ap actor_of (sym s.is) ∙ holds)))
          (λ (j : HasJoined v s.at.number). let a = actors j.0 j.1 in not_sent v j.0 a.0 die out whole j.1 a.1 sent s j.2)
          (whole.made s.at (subst (λ h. Has h s.at) (sym s.split) (has_it s.front s.back s.at))))

  pub closes : (v : View (Snapshot S) Event) → IsWhole v → Coherent (core o.value) → CoreRun (core o.value) (events_of v.seen) (core_seen core o v) → HaveLeft core o v → IsClosing (core_seen core o v)
  closes v whole coherent run left =
      let shape = shapes_kept (events_of v.seen) (core o.value) in
      let gone : (lane : ℕ) → lane < (core_seen core o v).shape.lanes → ((core_seen core o v).lanes lane).stage ≡ Gone
      = λ lane within.
      let l = left lane (subst (λ s. lane < s.lanes) shape within) in
      let j = whole.joined l.0 l.1 in
      let events : events_of v.seen ≡ events_of l.0.seen ++ events_of j.1.0 = ap events_of j.1.1 ∙ map-append (λ (e : Entry Event). e.event) l.0.seen j.1.0 in
      let both = run_split (events_of l.0.seen) (events_of j.1.0) (core o.value) (core_seen core o v) (subst (λ es. CoreRun (core o.value) es (core_seen core o v)) events run) in
      gone_run (events_of j.1.0) (core_after core o l.0.seen) (core_seen core o v) lane both.1 l.2 in
      let end = coherent_all (events_of v.seen) (core o.value) (core_seen core o v) coherent run in
      record {
        left = gone;
        none = λ lane. no_call (core_seen core o v) lane end gone ((core_seen core o v).calls lane) refl;
      }
    where
      no_call : (c : Core) (lane : ℕ) → Coherent c → ((l : ℕ) → l < c.shape.lanes → (c.lanes l).stage ≡ Gone) → (call : Option Flight) → c.calls lane ≡ call → c.calls lane ≡ None
      no_call c lane h gone None e = e
      no_call c lane h gone (Some call) e = let t = h.dies.in_turn lane call e in absurd (gone_not_inside (c.lanes lane).stage (gone lane t.0) t.1)
