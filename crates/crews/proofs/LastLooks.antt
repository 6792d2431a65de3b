-- A turn without an event tells its pass that it has seen all that it made.
use Rattle.std.proofs.Common.{◌≡◌, Bool, true, false, List, [], ◌++◌, map, refl, sym, ap, ◌∙◌, subst, append-nil}
use Rattle.std.specs.declared.snapshot.Snapshot.{Snapshot}
use Rattle.turn_cell.specs.declared.book.Entry.{Entry}
use Rattle.turn_cell.specs.declared.view.View.{View}
use Rattle.turn_cell.specs.Events.{events_of}
use Rattle.turn_cell.specs.History.{entry, entries_of}
use Rattle.turn_cell.specs.Steps.{Sees, SeesAllowed, Others, IsStood, seeing}
use Rattle.flash_die.specs.Dies.{DieView}
use Rattle.core_state.specs.declared.actor.Actor.{Actor}
use Rattle.core_state.specs.declared.event.Event.{Event}
use Rattle.core_state.specs.State.{Core}
use Rattle.core_state.specs.Coherent.{Coherent}
use Rattle.core_state.specs.Hold.{hold}
use Rattle.core_state.specs.Happens.{CoreRun, IsClosing}
use Rattle.system_state.specs.Jobs.{JobView}
use Rattle.system_state.specs.Cores.{core_of}
use Rattle.system_state.specs.Stands.{Stands}
use Rattle.system_state.specs.declared.state.State.{State}
use Rattle.desk_turns.specs.Passing.{ActsFor, IsItsOwn, May, Turn, Went, core_after, core_seen}
use Rattle.desk_turns.proofs.Turning.{worn_found}
use Rattle.desk_turns.proofs.Went.{went_turn}
use Rattle.page_steps.specs.LaneTurns.{ClosingSays}
use Rattle.page_steps.specs.SystemOf.{System}
use Rattle.page_steps.specs.Words.{StillHolds}

module _ {S : Type 0} where
  pub looked_settled : (u w : View (Snapshot S) Event) → w ≡ seeing u false u.seen (entries_of u.number u.seen) → entries_of w.number w.seen ≡ w.own
  looked_settled u w is = subst (λ (z : View (Snapshot S) Event). entries_of z.number z.seen ≡ z.own) (sym is) refl

module _ {S : Type 0} (core : S → Core) where
  pub looked_went : (o : Snapshot S) (v w : View (Snapshot S) Event) (b : Bool) → Turn core o v w (ClosingSays b) → Went v w []
  looked_went o v w b t = subst (Went v w) t.says.are (went_turn core o v w (ClosingSays b) t)

  still : (o : Snapshot S) (v w : View (Snapshot S) Event) (b : Bool) → (t : Turn core o v w (ClosingSays b)) → core_seen core o w ≡ core_after core o (v.seen ++ t.between)
  still o v w b t = subst (λ (es : List Event). CoreRun (core_after core o (v.seen ++ t.between)) es (core_seen core o w)) t.says.are t.run

  pub looked_closing : (o : Snapshot S) (v w : View (Snapshot S) Event) (b : Bool) → Turn core o v w (ClosingSays b) → b ≡ true → IsClosing (core_seen core o w)
  looked_closing o v w b t is = subst IsClosing (sym (still o v w b t)) (t.says.closes is)

  pub looked_run : (o : Snapshot S) (v w : View (Snapshot S) Event) (b : Bool) → Turn core o v w (ClosingSays b) → CoreRun (core o.value) (events_of w.seen) (core_seen core o w)
  looked_run o v w b t =
      let same : w.seen ≡ v.seen ++ t.between = t.seen ∙ (ap (λ (es : List Event). (v.seen ++ t.between) ++ map (entry v.number) es) t.says.are ∙ append-nil (v.seen ++ t.between)) in
      subst (λ (h : List (Entry Event)). CoreRun (core o.value) (events_of h) (core_after core o h)) (sym same) t.begins

  pub looked_kept : (o : Snapshot S) (v w : View (Snapshot S) Event) (b : Bool) → Turn core o v w (ClosingSays b) → (a : Actor) → ActsFor core o v a → IsItsOwn (core_seen core o v) a → StillHolds core o v w a
  looked_kept o v w b t a acts own =
      subst (λ (c : Core). (hold c a ≡ hold (core_seen core o v) a) × Coherent c) (sym (still o v w b t)) (t.kept a acts own, t.coherent)

  pub looked_allowed : (o : Snapshot S) (u w : View (Snapshot S) Event) → w ≡ seeing u false u.seen (entries_of u.number u.seen) → SeesAllowed (May core) o u → SeesAllowed (May core) o w
  looked_allowed o u w is all = subst (λ (z : View (Snapshot S) Event). SeesAllowed (May core) o z) (sym is) all

module _ {D J : Type 0} (seen : D → DieView) (suits : J → JobView → Type 0) where
  pub worn_kept : (p q : Snapshot (State D J)) (v u : View (Snapshot (State D J)) Event) → p ≡ q → IsStood (λ (b : System D J) (o : Snapshot (State D J)) (h : List (Entry Event)). Stands seen suits b.state o.value h) p u → Sees v u →
      Others (May (core_of seen)) q v u → (v.alone ≡ true → u.seen ≡ v.seen) → (a : Actor) → ActsFor (core_of seen) q v a → IsItsOwn (core_seen (core_of seen) q v) a → StillHolds (core_of seen) q v u a
  worn_kept p q v u same stood sees others alone a acts own =
      let k = worn_found (core_of seen) (Stands seen suits) (λ s o h k. k.run) (λ s o h k. k.coherent) stood.0.state p q v u a same stood.1 sees others alone acts own in (k.0, k.2)
