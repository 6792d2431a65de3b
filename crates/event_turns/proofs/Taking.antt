-- What is known of a book that was taken, and one turn of the system from it.
use Rattle.std.proofs.Common.{◌≡◌, true, false, List, [], ◌∷◌, ◌++◌, map, refl, sym, ap, ◌∙◌, subst, inl, inr, append-nil}
use Rattle.std.specs.Prelude.{Result, IfErr}
use mathlib.Core.List.{map-append}
use Rattle.std.specs.declared.snapshot.Snapshot.{Snapshot}
use Rattle.turn_cell.specs.declared.book.Entry.{Entry}
use Rattle.turn_cell.specs.declared.view.View.{View}
use Rattle.turn_cell.specs.declared.pass.Worn.{Worn}
use Rattle.turn_cell.specs.Events.{events_of}
use Rattle.turn_cell.specs.History.{entry, entries_of}
use Rattle.turn_cell.specs.Steps.{Sees, Others, Adds, Extends, seeing, IsStood}
use Rattle.turn_cell.proofs.Clients.{gives_none}
use Rattle.flash_die.specs.Dies.{DieView}
use Rattle.core_state.specs.declared.actor.Actor.{Actor}
use Rattle.core_state.specs.declared.event.Event.{Event}
use Rattle.core_state.specs.State.{Core}
use Rattle.core_state.specs.Happens.{CoreRun, actor_of}
use Rattle.core_state.specs.Coherent.{Coherent}
use Rattle.core_state.specs.Hold.{hold}
use Rattle.system_state.specs.Jobs.{JobView}
use Rattle.system_state.specs.Cores.{core_of}
use Rattle.system_state.specs.Stands.{Stands}
use Rattle.system_state.specs.declared.state.State.{State}
use Rattle.desk_turns.specs.Making.{AreFew, AreOf}
use Rattle.desk_turns.specs.Passing.{IsItsOwn, May, ActsFor, core_seen, Turn}
use Rattle.desk_turns.proofs.Holding.{run_split, coherent_all}
use Rattle.desk_turns.proofs.Turning.{found, since, gives_at, turned_at, worn_found}
use Rattle.desk_turns.proofs.Went.{if_err}
use Rattle.flushes.specs.SystemOf.{System}
use Rattle.event_turns.specs.Words.{StillHolds}

module _ {D J : Type 0} (seen : D → DieView) (suits : J → JobView → Type 0) where
  abbrev pub Known : State D J → State D J → List (Entry Event) → Type 0
  Known s o h = Stands seen suits s o h

  abbrev pub O : Type 0
  O = Snapshot (State D J)

  abbrev pub V : Type 0
  V = View O Event

  abbrev pub C : State D J → Core
  C = core_of seen

  -- what `take` tells of the book that it hands out, and that the pass may act for the actor
  abbrev pub Found : State D J → O → O → V → V → Actor → Type 0
  Found s p q v u a = (p ≡ q) × Known s p.value u.seen × Sees v u × Others (May C) q v u × (v.alone ≡ true → u.seen ≡ v.seen) × ActsFor C q v a

  pub stood : (s : State D J) (p q : O) (v u : V) (a : Actor) → Found s p q v u a → Known s q.value u.seen
  stood s p q v u a f = subst (λ (z : O). Known s z.value u.seen) f.0 f.1

  -- the core before, and the events of others that led from it
  pub coherent_seen : (s : State D J) (p q : O) (v u : V) (a : Actor) → Found s p q v u a → Coherent (core_seen C q v)
  coherent_seen s p q v u a f = (since C (Stands seen suits) (λ s o h k. k.run) (λ s o h k. k.coherent) s q v u f.2.0.1.0 (stood s p q v u a f) f.2.0.1.1).0

  pub more : (s : State D J) (p q : O) (v u : V) (a : Actor) → (f : Found s p q v u a) → CoreRun (core_seen C q v) (events_of f.2.0.1.0) (C s)
  more s p q v u a f = (since C (Stands seen suits) (λ s o h k. k.run) (λ s o h k. k.coherent) s q v u f.2.0.1.0 (stood s p q v u a f) f.2.0.1.1).1

  -- the run to what was seen
  pub begun : (s : State D J) (p q : O) (v u : V) (a : Actor) → Found s p q v u a → CoreRun (C q.value) (events_of v.seen) (core_seen C q v)
  begun s p q v u a f =
      let k = stood s p q v u a f in
      let rest = f.2.0.1.0 in
      let events : events_of u.seen ≡ events_of v.seen ++ events_of rest = ap events_of f.2.0.1.1 ∙ map-append (λ (z : Entry Event). z.event) v.seen rest in
      (run_split (events_of v.seen) (events_of rest) (C q.value) (C s) (subst (λ (z : List Event). CoreRun (C q.value) z (C s)) events k.run)).0

  -- what the actor holds is found again
  pub found_at : (s : State D J) (p q : O) (v u : V) (a : Actor) → Found s p q v u a → IsItsOwn (core_seen C q v) a → (hold (C s) a ≡ hold (core_seen C q v) a) × ((C s).shape ≡ (core_seen C q v).shape) × Coherent (C s)
  found_at s p q v u a f own = found C (Stands seen suits) (λ s o h k. k.run) (λ s o h k. k.coherent) s p q v u a f.0 f.1 f.2 f.3 f.4 f.5 own

  -- ---- a turn

  -- In the turn the actor's events, none or one, led from the book that was taken to the book that is given, and P holds of them.
  pub record DidAt (a : Actor) (t : State D J) (p : O) (u : V) (P : List Event → Type 0) : Type 0 where
    pub events : List Event
    pub few : AreFew events
    pub mine : AreOf a events
    pub made : Known t p.value (u.seen ++ map (entry u.number) events)
    pub says : P events

  pub one_at : (a : Actor) (t : State D J) (p : O) (u : V) (e : Event) (P : List Event → Type 0) → actor_of e ≡ a → Known t p.value (u.seen ++ entry u.number e ∷ []) → P (e ∷ []) → DidAt a t p u P
  one_at a t p u e P mine made says = record { events = e ∷ []; few = inr (e, refl); mine = (mine, tt); made = made; says = says }

  pub none_at : (a : Actor) (s t : State D J) (p : O) (u : V) (P : List Event → Type 0) → Known s p.value u.seen → t ≡ s → P [] → DidAt a t p u P
  none_at a s t p u P known same says =
      record {
        events = [];
        few = inl refl;
        mine = tt;
        made = subst (λ (z : State D J). Known z p.value (u.seen ++ [])) (sym same) (subst (λ (z : List (Entry Event)). Known s p.value z) (sym (append-nil u.seen)) known);
        says = says;
      }

  -- what `give` asks
  pub gave : (s t : State D J) (p q : O) (v u : V) (a : Actor) (P : List Event → Type 0) → Found s p q v u a → DidAt a t p u P → (h : List (Entry Event)) × Known t p.value h × Adds (May C) p u h
  gave s t p q v u a P f d = gives_at C (Stands seen suits) (λ s o h k. k.run) (λ s o h k. k.coherent) t p q v u a d.events f.0 d.few d.mine f.5 f.2 d.made

  -- the turn
  pub turned : (s t : State D J) (p q : O) (v u w : V) (a : Actor) (P : Core → List Event → Type 0) → Found s p q v u a → DidAt a t p u (P (C s)) →
      ((h : List (Entry Event)) → Known t p.value h → Extends u h → w ≡ seeing u false h (entries_of u.number h)) → Turn C q v w P
  turned s t p q v u w a P f d give =
      turned_at C (Stands seen suits) (λ s o h k. k.run) (λ s o h k. k.coherent) s t p q v u w d.events P f.0 f.1 d.few d.made f.2 f.3 f.4 give d.says

  -- ---- a turn without an event, by nobody

  pub gave_back : (s : State D J) (p : O) (u : V) → Known s p.value u.seen → (h : List (Entry Event)) × Known s p.value h × Adds (May C) p u h
  gave_back s p u known = gives_none (λ (b : State D J) (x : O) (h : List (Entry Event)). Known b x.value h) (May C) s p u known

  pub turned_back : (s : State D J) (p q : O) (v u w : V) (P : Core → List Event → Type 0) → p ≡ q → Known s p.value u.seen → Sees v u → Others (May C) q v u → (v.alone ≡ true → u.seen ≡ v.seen) →
      ((h : List (Entry Event)) → Known s p.value h → Extends u h → w ≡ seeing u false h (entries_of u.number h)) → P (C s) [] → Turn C q v w P
  turned_back s p q v u w P same known sees others alone give says =
      turned_at C (Stands seen suits) (λ s o h k. k.run) (λ s o h k. k.coherent) s s p q v u w [] P same known (inl refl) (subst (λ (z : List (Entry Event)). Known s p.value z) (sym (append-nil u.seen)) known) sees others alone give says

  pub coherent_back : (s : State D J) (p : O) (u : V) → Known s p.value u.seen → Coherent (C s)
  coherent_back s p u known = coherent_all (events_of u.seen) (C p.value) (C s) known.coherent known.run

  -- ---- where the turn is worn

  pub worn_coherent : (p q : O) (v u : V) → p ≡ q → IsStood (λ (b : System D J) (o : O) (h : List (Entry Event)). Known b.state o.value h) p u → Sees v u → Coherent (core_seen C q v)
  worn_coherent p q v u same stood sees =
      (since C (Stands seen suits) (λ s o h k. k.run) (λ s o h k. k.coherent) stood.0.state q v u sees.0.1.0 (subst (λ (z : O). Known stood.0.state z.value u.seen) same stood.1) sees.0.1.1).0

  pub worn_holds : {A : Type 0} → (r : Result A Worn) (p q : O) (v u : V) (a : Actor) → p ≡ q → IsStood (λ (b : System D J) (o : O) (h : List (Entry Event)). Known b.state o.value h) p u → Sees v u → Others (May C) q v u → (v.alone ≡ true → u.seen ≡ v.seen) →
      ActsFor C q v a → IsItsOwn (core_seen C q v) a → IfErr r (λ _. StillHolds C q v u a)
  worn_holds r p q v u a same stood sees others alone acts own =
      let k = worn_found C (Stands seen suits) (λ s o h k. k.run) (λ s o h k. k.coherent) stood.0.state p q v u a same stood.1 sees others alone acts own in
      if_err r (k.0, k.2)

  -- of whatever actor the pass acts for
  pub worn_all : {A : Type 0} → (r : Result A Worn) (p q : O) (v u : V) → p ≡ q → IsStood (λ (b : System D J) (o : O) (h : List (Entry Event)). Known b.state o.value h) p u → Sees v u → Others (May C) q v u → (v.alone ≡ true → u.seen ≡ v.seen) →
      IfErr r (λ _. (a : Actor) → ActsFor C q v a → IsItsOwn (core_seen C q v) a → StillHolds C q v u a)
  worn_all r p q v u same stood sees others alone =
      if_err r (λ a acts own. let k = worn_found C (Stands seen suits) (λ s o h k. k.run) (λ s o h k. k.coherent) stood.0.state p q v u a same stood.1 sees others alone acts own in (k.0, k.2))
