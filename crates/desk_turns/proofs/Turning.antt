-- From a take, an event method and a give to one turn.
use Rattle.std.proofs.Common.{◌≡◌, ℕ, Bool, true, false, List, [], ◌∷◌, ◌++◌, map, cond, refl, sym, ap, ◌∙◌, subst, inl, inr, ⊎_elim, eq-eqb, append-nil}
use mathlib.Core.List.{map-append}
use Rattle.std.specs.declared.snapshot.Snapshot.{Snapshot}
use Rattle.turn_cell.specs.declared.book.Entry.{Entry}
use Rattle.turn_cell.specs.declared.view.View.{View}
use Rattle.turn_cell.specs.Events.{events_of}
use Rattle.turn_cell.specs.History.{entry, entries_of}
use Rattle.turn_cell.specs.Steps.{Sees, Others, Adds, Extends, seeing}
use Rattle.turn_cell.proofs.Plain.{entries_append}
use Rattle.turn_cell.proofs.Clients.{gives_none, gives_one}
use Rattle.core_state.specs.declared.actor.Actor.{Actor}
use Rattle.core_state.specs.declared.event.Event.{Event}
use Rattle.core_state.specs.State.{Core}
use Rattle.core_state.specs.Hold.{hold}
use Rattle.core_state.specs.Happens.{CoreRun, actor_of}
use Rattle.core_state.specs.Coherent.{Coherent}
use Rattle.core_state.proofs.Runs.{leads_to}
use Rattle.desk_turns.specs.Passing.{Acts, IsItsOwn, May, ActsFor, core_after, core_seen, Turn}
use Rattle.desk_turns.specs.Making.{AreFew, AreOf}
use Rattle.desk_turns.proofs.Holding.{others_hold, shapes_kept, run_split, coherent_all}

cancel : {A : Type 0} (xs ys : List A) → xs ++ ys ≡ xs → ys ≡ []
cancel [] ys e = e
cancel (x ∷ xs) ys e = cancel xs ys (cc)

events_entries : (n : ℕ) (es : List Event) → events_of (map (entry n) es) ≡ es
events_entries n [] = refl
events_entries n (e ∷ es) = ap (λ z. e ∷ z) (events_entries n es)

entries_all : (n : ℕ) (es : List Event) → entries_of n (map (entry n) es) ≡ map (entry n) es
entries_all n [] = refl
entries_all n (e ∷ es) = ap (λ (b : Bool). cond b (entry n e ∷ entries_of n (map (entry n) es)) (entries_of n (map (entry n) es))) (eq-eqb n n refl) ∙ ap (λ z. entry n e ∷ z) (entries_all n es)

pub events_more : (h : List (Entry Event)) (n : ℕ) (es : List Event) → events_of (h ++ map (entry n) es) ≡ events_of h ++ es
events_more h n es = map-append (λ (z : Entry Event). z.event) h (map (entry n) es) ∙ ap (λ z. events_of h ++ z) (events_entries n es)

module _ {S : Type 0} (core : S → Core) (stands : S → S → List (Entry Event) → Type 0) (runs_to : (s o : S) (h : List (Entry Event)) → stands s o h → CoreRun (core o) (events_of h) (core s)) (starts_well : (s o : S) (h : List (Entry Event)) → stands s o h → Coherent (core o)) where
  -- the core of the book that was taken
  pub is_after : (s : S) (o : Snapshot S) (h : List (Entry Event)) → stands s o.value h → core s ≡ core_after core o h
  is_after s o h st = leads_to (events_of h) (core o.value) (core s) (runs_to s o.value h st)

  -- the run since the pass saw the history last
  pub since : (s : S) (o : Snapshot S) (v u : View (Snapshot S) Event) (rest : List (Entry Event)) → stands s o.value u.seen → u.seen ≡ v.seen ++ rest → Coherent (core_seen core o v) × CoreRun (core_seen core o v) (events_of rest) (core s)
  since s o v u rest st is =
      let events : events_of u.seen ≡ events_of v.seen ++ events_of rest = ap events_of is ∙ map-append (λ (z : Entry Event). z.event) v.seen rest in
      let r = run_split (events_of v.seen) (events_of rest) (core o.value) (core s) (subst (λ (z : List Event). CoreRun (core o.value) z (core s)) events (runs_to s o.value u.seen st)) in
      (coherent_all (events_of v.seen) (core o.value) (core_seen core o v) (starts_well s o.value u.seen st) r.0, r.1)

  hold_found : (s : S) (o : Snapshot S) (v u : View (Snapshot S) Event) (a : Actor) → stands s o.value u.seen → Sees v u → Others (May core) o v u → (v.alone ≡ true → u.seen ≡ v.seen) →
      ActsFor core o v a → IsItsOwn (core_seen core o v) a → hold (core s) a ≡ hold (core_seen core o v) a
  hold_found s o v u a st sees others alone acts own = by v.alone refl
    where
      by : (t : Bool) → v.alone ≡ t → hold (core s) a ≡ hold (core_seen core o v) a
      by true e = ap (λ (z : Core). hold z a) (is_after s o u.seen st ∙ ap (core_after core o) (alone e))
      by false e =
          let rest = sees.0.1.0 in
          let r = since s o v u rest st sees.0.1.1 in
          others_hold core o v.number a (core_seen core o v) rest (core_seen core o v) (core s) (⊎_elim (λ f. absurd (cc)) (λ p. p) acts) own refl r.0 (others rest sees.0.1.1 e) r.1

  -- what a pass finds again in the book that it took
  pub found : (s : S) (p q : Snapshot S) (v u : View (Snapshot S) Event) (a : Actor) → p ≡ q → stands s p.value u.seen → Sees v u → Others (May core) q v u → (v.alone ≡ true → u.seen ≡ v.seen) →
      ActsFor core q v a → IsItsOwn (core_seen core q v) a → (hold (core s) a ≡ hold (core_seen core q v) a) × ((core s).shape ≡ (core_seen core q v).shape) × Coherent (core s)
  found s p q v u a same st sees others alone acts own =
      let st' : stands s q.value u.seen = subst (λ (z : Snapshot S). stands s z.value u.seen) same st in
      let r = since s q v u sees.0.1.0 st' sees.0.1.1 in (
        hold_found s q v u a st' sees others alone acts own,
        ap (λ (z : Core). z.shape) (leads_to (events_of sees.0.1.0) (core_seen core q v) (core s) r.1) ∙ shapes_kept (events_of sees.0.1.0) (core_seen core q v),
        coherent_all (events_of sees.0.1.0) (core_seen core q v) (core s) r.0 r.1,
      )

  -- what `give` asks
  pub gives : (t : S) (o : Snapshot S) (v u : View (Snapshot S) Event) (a : Actor) (es : List Event) → AreFew es → AreOf a es → ActsFor core o v a → Sees v u → stands t o.value (u.seen ++ map (entry u.number) es) →
      (h : List (Entry Event)) × stands t o.value h × Adds (May core) o u h
  gives t o v u a es few of acts sees is = ⊎_elim
      (λ (z : es ≡ []). gives_none (λ (b : S) (x : Snapshot S) (h : List (Entry Event)). stands b x.value h) (May core) t o u
      (subst (λ (h : List (Entry Event)). stands t o.value h) (ap (λ (x : List Event). u.seen ++ map (entry u.number) x) z ∙ append-nil u.seen) is))
      (λ (z : (e : Event) × (es ≡ e ∷ [])). gives_one (λ (b : S) (x : Snapshot S) (h : List (Entry Event)). stands b x.value h) (May core) t o v u z.0 sees
      (subst (λ (h : List (Entry Event)). stands t o.value h) (ap (λ (x : List Event). u.seen ++ map (entry u.number) x) z.1) is)
      (let mine : actor_of z.0 ≡ a = (subst (AreOf a) z.1 of).0 in ⊎_elim (λ e. inl e) (λ p. inr (subst (Acts (core o.value).shape.lanes v.number) (sym mine) p)) acts)) few

  extends : (u : View (Snapshot S) Event) (es : List Event) → AreFew es → Extends u (u.seen ++ map (entry u.number) es)
  extends u es few = ⊎_elim
      (λ (z : es ≡ []). inl (ap (λ (x : List Event). u.seen ++ map (entry u.number) x) z ∙ append-nil u.seen))
      (λ (z : (e : Event) × (es ≡ e ∷ [])). inr (z.0, ap (λ (x : List Event). u.seen ++ map (entry u.number) x) z.1)) few

  -- one turn
  pub turned : (s t : S) (o : Snapshot S) (v u w : View (Snapshot S) Event) (es : List Event) (P : Core → List Event → Type 0) → stands s o.value u.seen → AreFew es → stands t o.value (u.seen ++ map (entry u.number) es) →
      Sees v u → Others (May core) o v u → (v.alone ≡ true → u.seen ≡ v.seen) →
      ((h : List (Entry Event)) → stands t o.value h → Extends u h → w ≡ seeing u false h (entries_of u.number h)) → P (core s) es → Turn core o v w P
  turned s t o v u w es P st few made sees others alone give p =
      let between = sees.0.1.0 in
      let is = sees.0.1.1 in
      let n : u.number ≡ v.number = ap (λ (z : View (Snapshot S) Event). z.number) sees.0.0 in
      let end = u.seen ++ map (entry u.number) es in
      let vis : w ≡ seeing u false end (entries_of u.number end) = give end made (extends u es few) in
      let own : entries_of u.number end ≡ v.own ++ map (entry v.number) es
      = entries_append u.number u.seen (map (entry u.number) es)
      ∙ (λ i. (sees.1 ∙ ap (λ (z : View (Snapshot S) Event). z.own) sees.0.0) i ++ (entries_all u.number es ∙ ap (λ k. map (entry k) es) n) i) in
      let seen : w.seen ≡ (v.seen ++ between) ++ map (entry v.number) es = ap (λ (z : View (Snapshot S) Event). z.seen) vis ∙ (λ i. is i ++ map (entry (n i)) es) in
      let at : core s ≡ core_after core o (v.seen ++ between) = is_after s o u.seen st ∙ ap (core_after core o) is in
      let later : core t ≡ core_seen core o w = is_after t o end made ∙ ap (λ (z : View (Snapshot S) Event). core_after core o z.seen) (sym vis) in
      let r = since s o v u between st is in
      let both = run_split (events_of u.seen) es (core o.value) (core t) (subst (λ (z : List Event). CoreRun (core o.value) z (core t)) (events_more u.seen u.number es) (runs_to t o.value end made)) in
      record {
        between = between;
        events = es;
        seen = seen;
        own = ap (λ (z : View (Snapshot S) Event). z.own) vis ∙ own;
        settled = ap (λ k. entries_of k w.seen) (sym n) ∙ (ap (λ (z : View (Snapshot S) Event). entries_of u.number z.seen) vis ∙ sym (ap (λ (z : View (Snapshot S) Event). z.own) vis));
        pass = vis ∙ (ap (λ (z : View (Snapshot S) Event). seeing z false end (entries_of u.number end)) sees.0.0
            ∙ (λ i. seeing v false (ap (λ (z : View (Snapshot S) Event). z.seen) (sym vis) i) (ap (λ (z : View (Snapshot S) Event). z.own) (sym vis) i)));
        alone = λ e. cancel v.seen between (sym is ∙ alone e);
        begins = subst (λ (h : List (Entry Event)). CoreRun (core o.value) (events_of h) (core_after core o (v.seen ++ between))) is
            (subst (λ (c : Core). CoreRun (core o.value) (events_of u.seen) c) at (runs_to s o.value u.seen st));
        run = subst (λ (c : Core). CoreRun (core_after core o (v.seen ++ between)) es c) later
            (subst (λ (c : Core). CoreRun c es (core t)) (ap (core_after core o) is) both.1);
        coherent = subst Coherent at (coherent_all (events_of between) (core_seen core o v) (core s) r.0 r.1);
        kept = λ a acts own. ap (λ (c : Core). hold c a) (sym at) ∙ hold_found s o v u a st sees others alone acts own;
        says = subst (λ (c : Core). P c es) at p;
      }

  -- the same, where the opening is that before the take
  pub turned_at : (s t : S) (p q : Snapshot S) (v u w : View (Snapshot S) Event) (es : List Event) (P : Core → List Event → Type 0) → p ≡ q → stands s p.value u.seen → AreFew es → stands t p.value (u.seen ++ map (entry u.number) es) →
      Sees v u → Others (May core) q v u → (v.alone ≡ true → u.seen ≡ v.seen) →
      ((h : List (Entry Event)) → stands t p.value h → Extends u h → w ≡ seeing u false h (entries_of u.number h)) → P (core s) es → Turn core q v w P
  turned_at s t p q v u w es P same st few made sees others alone give says =
      turned s t q v u w es P (subst (λ (z : Snapshot S). stands s z.value u.seen) same st) few (subst (λ (z : Snapshot S). stands t z.value (u.seen ++ map (entry u.number) es)) same made) sees others alone
      (λ h is. give h (subst (λ (z : Snapshot S). stands t z.value h) (sym same) is)) says

  pub gives_at : (t : S) (p q : Snapshot S) (v u : View (Snapshot S) Event) (a : Actor) (es : List Event) → p ≡ q → AreFew es → AreOf a es → ActsFor core q v a → Sees v u → stands t p.value (u.seen ++ map (entry u.number) es) →
      (h : List (Entry Event)) × stands t p.value h × Adds (May core) p u h
  gives_at t p q v u a es same few of acts sees is = gives t p v u a es few of (subst (λ (z : Snapshot S). ActsFor core z v a) (sym same) acts) sees is

  -- the core that the pass has seen in the end is that of the book
  pub seen_core : (s t : S) (p q : Snapshot S) (v u w : View (Snapshot S) Event) (es : List Event) → p ≡ q → AreFew es → stands t p.value (u.seen ++ map (entry u.number) es) →
      ((h : List (Entry Event)) → stands t p.value h → Extends u h → w ≡ seeing u false h (entries_of u.number h)) → core t ≡ core_seen core q w
  seen_core s t p q v u w es same few made give =
      is_after t p (u.seen ++ map (entry u.number) es) made
      ∙ ((λ i. core_after core (same i) (u.seen ++ map (entry u.number) es))
      ∙ ap (λ (z : View (Snapshot S) Event). core_after core q z.seen) (sym (give (u.seen ++ map (entry u.number) es) made (extends u es few))))

  -- the same of the core that was seen, where no book was handed out: some book stands for the history at every moment
  pub worn_found : (s : S) (p q : Snapshot S) (v u : View (Snapshot S) Event) (a : Actor) → p ≡ q → stands s p.value u.seen → Sees v u → Others (May core) q v u → (v.alone ≡ true → u.seen ≡ v.seen) →
      ActsFor core q v a → IsItsOwn (core_seen core q v) a → (hold (core_seen core q u) a ≡ hold (core_seen core q v) a) × ((core_seen core q u).shape ≡ (core_seen core q v).shape) × Coherent (core_seen core q u)
  worn_found s p q v u a same st sees others alone acts own =
      let at : core s ≡ core_seen core q u = is_after s q u.seen (subst (λ (z : Snapshot S). stands s z.value u.seen) same st) in
      subst (λ (c : Core). (hold c a ≡ hold (core_seen core q v) a) × (c.shape ≡ (core_seen core q v).shape) × Coherent c) at (found s p q v u a same st sees others alone acts own)
