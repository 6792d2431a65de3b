-- What an actor holds stays under the events of others.
use Rattle.std.proofs.Common.{◌≡◌, ℕ, Bool, List, [], ◌∷◌, ◌++◌, Option, Some, None, refl, sym, ap, ◌∙◌, subst}
use Rattle.std.specs.Prelude.{◌≢◌, if◌then◌else◌, is_some}
use Rattle.std.specs.declared.snapshot.Snapshot.{Snapshot}
use Rattle.turn_cell.specs.declared.book.Entry.{Entry}
use Rattle.turn_cell.specs.Events.{events_of}
use Rattle.turn_cell.specs.History.{AreOthers}
use Rattle.core_state.specs.declared.actor.Actor.{Actor}
use Rattle.core_state.specs.declared.actor.Actor.TheVariants.{Lane, Worker, Flusher, Closer}
use Rattle.core_state.specs.declared.event.Event.{Event}
use Rattle.core_state.specs.declared.event.Event.TheVariants.{Report}
use Rattle.core_state.specs.State.{LaneState, Phase, Running, Flight, Core}
use Rattle.core_state.specs.Dies.{owner}
use Rattle.core_state.specs.LaneEvents.{MayReport}
use Rattle.core_hold.proofs.Actors.{is_itself}
use Rattle.core_state.specs.Hold.{Hold, HeldLane, hold, lane_alone, is_some_actor, is_owner, owned_call, call_owned}
use Rattle.core_state.specs.Happens.{CoreRun, May as MayHappen, actor_of, after}
use Rattle.core_state.specs.Coherent.{Coherent}
use Rattle.core_state.specs.Happens.{after_all}
use Rattle.desk_turns.specs.Passing.{Acts, IsItsOwn, May}
use Rattle.desk_turns.proofs.Shapes.{holds_kept, coherent_after, shape_kept}

-- two actors of one pass number; another number is another actor
pub acts_other : (lanes n m : ℕ) (a b : Actor) → Acts lanes n a → Acts lanes m b → n ≢ m → a ≢ b
acts_other lanes n m a b p q ne = λ e. ne (go a b e p q)
  where
    go : (a b : Actor) → a ≡ b → Acts lanes n a → Acts lanes m b → n ≡ m
    go a b e p q = same a (p, subst (Acts lanes m) (sym e) q)
      where
        same : (a : Actor) → Acts lanes n a × Acts lanes m a → n ≡ m
        same (Lane l) x = x.0.0 ∙ sym x.1.0
        same (Worker l) x = x.0 ∙ sym x.1
        same (Flusher l) x = x.0 ∙ sym x.1
        same Closer x = x.0 ∙ sym x.1

pub own_some : (l : ℕ) (x : LaneState) (f : Flight) → owner l f.phase ≡ Some (Lane l) → call_owned x (Lane l) l (Some f) ≡ Some (owned_call x f)
own_some l x f e = ap (λ (t : Bool). if t then Some (owned_call x f) else None) (ap (is_some_actor (Lane l)) e ∙ is_itself (Lane l))

own_none : (l w : ℕ) (x : LaneState) (f : Flight) → f.phase ≡ Running w → call_owned x (Lane l) l (Some f) ≡ None
own_none l w x f e = ap (λ (p : Phase). if is_owner (Lane l) l p then Some (owned_call x f) else None) e

not_both : (l w : ℕ) (x y : LaneState) (o p : Option Flight) (f : Flight) → p ≡ Some f → f.phase ≡ Running w → call_owned y (Lane l) l p ≡ call_owned x (Lane l) l o → is_some p ≡ is_some o →
    ((g : Flight) → o ≡ Some g → owner l g.phase ≡ Some (Lane l)) → ⊥
not_both l w x y None p f e r same alike own = let t = ap is_some e in absurd (cc)
not_both l w x y (Some g) p f e r same alike own =
    let s = own_some l x g (own g refl) in
    let n : call_owned y (Lane l) l p ≡ None = ap (call_owned y (Lane l) l) e ∙ own_none l w y f r in
    absurd (cc)

flying : (a b : HeldLane) → Some a ≡ Some b → a.in_flight ≡ b.in_flight
flying a b e = let z : a ≡ b = cc in ap (λ (x : HeldLane). x.in_flight) z

-- a lane whose call is in its own hands is not reported to
not_reported : (c0 c : Core) (a : Actor) (w l : ℕ) → hold c a ≡ hold c0 a → IsItsOwn c0 a → MayReport c w l → a ≢ Lane l
not_reported c0 c a w l h own may = λ e.
    let k : hold c (Lane l) ≡ hold c0 (Lane l) = subst (λ (z : Actor). hold c z ≡ hold c0 z) e h in
    not_both l w (c0.lanes l) (c.lanes l) (c0.calls l) (c.calls l) may.call may.flies may.runs (ap (λ (z : Hold). z.owned l) k)
    (flying (lane_alone (c.lanes l) (c.calls l)) (lane_alone (c0.lanes l) (c0.calls l)) (ap (λ (z : Hold). z.lane) k)) (λ g f. own l g e f)

reports : (c : Core) (e : Event) (w l : ℕ) → MayHappen c e → e ≡ Report w l → MayReport c w l
reports c e w l m f = subst (MayHappen c) f m

module _ {S : Type 0} (core : S → Core) where
  -- what was made by others leaves what the actor holds
  pub others_hold : (o : Snapshot S) (n : ℕ) (a : Actor) (c0 : Core) (rest : List (Entry Event)) (c c2 : Core) → Acts (core o.value).shape.lanes n a → IsItsOwn c0 a → hold c a ≡ hold c0 a →
      Coherent c → AreOthers (May core) o n rest → CoreRun c (events_of rest) c2 → hold c2 a ≡ hold c0 a
  others_hold o n a c0 [] c c2 acts own same h r s = ap (λ (z : Core). hold z a) s ∙ same
  others_hold o n a c0 (x ∷ xs) c c2 acts own same h r s =
      others_hold o n a c0 xs (after c x.event) c2 acts own
      (holds_kept x.event c (after c x.event) a h s.0 (acts_other (core o.value).shape.lanes n x.number a (actor_of x.event) acts r.1 (λ e. r.0 (sym e)))
      (λ w l e. not_reported c0 c a w l same own (reports c x.event w l s.0.may e)) ∙ same)
      (coherent_after x.event c (after c x.event) h s.0) r.2 s.1

pub shapes_kept : (es : List Event) (c : Core) → (after_all c es).shape ≡ c.shape
shapes_kept [] c = refl
shapes_kept (e ∷ es) c = shapes_kept es (after c e) ∙ shape_kept c e

pub run_split : (h k : List Event) (c0 c : Core) → CoreRun c0 (h ++ k) c → CoreRun c0 h (after_all c0 h) × CoreRun (after_all c0 h) k c
run_split [] k c0 c r = (refl, r)
run_split (x ∷ xs) k c0 c r = let z = run_split xs k (after c0 x) c r.1 in ((r.0, z.0), z.1)

pub coherent_all : (es : List Event) (c d : Core) → Coherent c → CoreRun c es d → Coherent d
coherent_all [] c d h r = subst Coherent (sym r) h
coherent_all (e ∷ es) c d h r = coherent_all es (after c e) d (coherent_after e c (after c e) h r.0) r.1
