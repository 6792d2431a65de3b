-- One step of a flusher: whether the system is closing, and a flush.
use Rattle.std.proofs.Common.{◌≡◌, ℕ, Bool, true, false, List, [], ◌∷◌, ◌++◌, Some, None, refl, sym, ap, ◌∙◌, subst, inl, inr, ⊎_elim, append-nil}
use Rattle.std.specs.Prelude.{Result, Ok, Err}
use Rattle.std.specs.Result.{IsErr}
use mathlib.Core.List.{map-append}
use Rattle.std.specs.declared.snapshot.Snapshot.{Snapshot}
use Rattle.turn_cell.specs.declared.book.Entry.{Entry}
use Rattle.turn_cell.specs.declared.view.View.{View}
use Rattle.turn_cell.specs.declared.pass.Worn.{Worn}
use Rattle.flash_die.specs.Dies.{DieView}
use Rattle.core_state.specs.declared.actor.Actor.TheVariants.{Lane, Flusher, Closer}
use Rattle.core_state.specs.declared.event.Event.{Event}
use Rattle.core_state.specs.declared.event.Event.TheVariants.{FlushOut, FlushIn}
use Rattle.core_state.specs.State.{Core}
use Rattle.core_state.specs.Happens.{HoldsNone, IsClosing, CoreRun}
use Rattle.system_state.specs.Cores.{core_of}
use Rattle.system_state.specs.declared.state.State.{State}
use Rattle.desk_turns.specs.Making.{AreOf}
use Rattle.desk_turns.specs.Passing.{ActsFor, IsItsOwn, core_after, core_seen, Turn, Went, Does}
use Rattle.desk_turns.proofs.Later.{none_kept}
use Rattle.desk_turns.proofs.Went.{of_on, went_on, went_none, went_turn}
use Rattle.event_turns.specs.Flushing.{MayFlushNow, IsClean, IsBusy, IsCutShort, FlushedOnce, FlushSays}
use Rattle.event_turns.proofs.FlushSteps.{shape_at}
use Rattle.event_turns.specs.FlushedAnswer.{Flushed}
use Rattle.event_turns.specs.FlushedAnswer.TheVariants.{Wrote, Failed, Nothing, Busy}
use Rattle.event_turns.specs.LaneTurns.{ClosingSays}
use Rattle.flusher.specs.Flusher.{HasFlushed, StepSays, LoopSays, IsIdle, flushed_step}
use Rattle.flusher.specs.declared.step.FlusherStep.{FlusherStep}
use Rattle.flusher.specs.declared.step.FlusherStep.TheVariants.{On, Waits, Closing}

own_flusher : (c : Core) (f : ℕ) → IsItsOwn c (Flusher f)
own_flusher c f = λ l x is flies. absurd (cc)

pub flusher_may : (c : Core) (f : ℕ) → HoldsNone c (Flusher f) → MayFlushNow c (Flusher f)
flusher_may c f none = record { none = none; flushes = record { acts = tt; own = own_flusher c f; closing = λ e. absurd (cc) } }

cut_of : (f : ℕ) (es : List Event) → IsCutShort (Flusher f) es → AreOf (Flusher f) es
cut_of f es p = ⊎_elim (λ (e : es ≡ []). subst (AreOf (Flusher f)) (sym e) tt)
    (λ (z : (die : ℕ) × (block : ℕ) × (es ≡ FlushOut (Flusher f) die block ∷ [])). subst (AreOf (Flusher f)) (sym z.2) (refl, tt)) p

module _ {D J : Type 0} (seen : D → DieView) where
  abbrev C : State D J → Core
  C = core_of seen

  -- a turn without an event
  still : (o : Snapshot (State D J)) (v u : View (Snapshot (State D J)) Event) (P : Core → List Event → Type 0) → (t : Turn C o v u P) → t.events ≡ [] → core_seen C o u ≡ core_after C o (v.seen ++ t.between)
  still o v u P t is = subst (λ (es : List Event). CoreRun (core_after C o (v.seen ++ t.between)) es (core_seen C o u)) is t.run

  pub none_then : (o : Snapshot (State D J)) (v u : View (Snapshot (State D J)) Event) (f : ℕ) (closing : Bool) → ActsFor C o v (Flusher f) → HoldsNone (core_seen C o v) (Flusher f) → Turn C o v u (ClosingSays closing) → HoldsNone (core_seen C o u) (Flusher f)
  none_then o v u f closing acts none t =
      let c = core_after C o (v.seen ++ t.between) in
      subst (λ (d : Core). HoldsNone d (Flusher f)) (sym (still o v u (ClosingSays closing) t t.says.are))
      (none_kept (core_seen C o v) c (Flusher f) t.coherent (t.kept (Flusher f) acts (own_flusher (core_seen C o v) f)) (shape_at seen o (v.seen ++ t.between) v.seen) none)

  pub acts_then : (o : Snapshot (State D J)) (v u : View (Snapshot (State D J)) Event) (f : ℕ) (es : List Event) → Went v u es → ActsFor C o v (Flusher f) → ActsFor C o u (Flusher f)
  acts_then o v u f es w acts = subst (λ (z : View (Snapshot (State D J)) Event). ActsFor C o z (Flusher f)) (sym w.pass) acts

  -- the system is closing
  pub closing_step : (o : Snapshot (State D J)) (v u : View (Snapshot (State D J)) Event) (f : ℕ) (closes : Bool) → closes ≡ true → ActsFor C o v (Flusher f) → HoldsNone (core_seen C o v) (Flusher f) → Turn C o v u (ClosingSays closes) → Does v u (StepSays seen o v u f (Ok Closing))
  closing_step o v u f closes shut acts none t =
      record {
        events = t.events;
        went = went_turn C o v u (ClosingSays closes) t;
        says = (
          t.says.are,
          record {
            of = subst (AreOf (Flusher f)) (sym t.says.are) tt;
            none = none_then o v u f closes acts none t;
            says = subst IsClosing (sym (still o v u (ClosingSays closes) t t.says.are)) (t.says.closes shut);
          },
        );
      }

  once_of : (o : Snapshot (State D J)) (v w : View (Snapshot (State D J)) Event) (f : ℕ) (good : Bool) (block : ℕ) (es : List Event) → FlushedOnce seen o v w (Flusher f) good block es → HasFlushed seen o w f (λ c. Unit {0}) es
  once_of o v w f good block es p = record { of = subst (AreOf (Flusher f)) (sym p.are) (refl, (refl, tt)); none = p.after.none; says = tt }

  flushed_says : (o : Snapshot (State D J)) (v u w : View (Snapshot (State D J)) Event) (f : ℕ) (x : Flushed) (es : List Event) → FlushSays seen o u w (Flusher f) (Ok x) es → StepSays seen o v w f (Ok (flushed_step x)) es
  flushed_says o v u w f (Wrote block) es p = once_of o u w f true block es p
  flushed_says o v u w f (Failed block) es p = once_of o u w f false block es p
  flushed_says o v u w f Nothing es p = (p.are, record { of = subst (AreOf (Flusher f)) (sym p.are) tt; none = p.after.none; says = inl p.because })
  flushed_says o v u w f (Busy die) es p = (p.are, record { of = subst (AreOf (Flusher f)) (sym p.are) tt; none = p.after.none; says = inr (die, p.because) })

  -- a turn without an event, and a flush
  pub flushed_on : (o q : Snapshot (State D J)) (v u w : View (Snapshot (State D J)) Event) (f : ℕ) (closes : Bool) (x : Flushed) → q ≡ o → Turn C o v u (ClosingSays closes) → Does u w (FlushSays seen q u w (Flusher f) (Ok x)) → Does v w (StepSays seen o v w f (Ok (flushed_step x)))
  flushed_on o q v u w f closes x same t p =
      let says = subst (λ (z : Snapshot (State D J)). FlushSays seen z u w (Flusher f) (Ok x) p.events) same p.says in
      record {
        events = t.events ++ p.events;
        went = went_on v u w t.events p.events (went_turn C o v u (ClosingSays closes) t) p.went;
        says = subst (StepSays seen o v w f (Ok (flushed_step x))) (sym (ap (λ (es : List Event). es ++ p.events) t.says.are)) (flushed_says o v u w f x p.events says);
      }

  pub step_worn : (o : Snapshot (State D J)) (v w : View (Snapshot (State D J)) Event) (f : ℕ) (r : Result FlusherStep Worn) → IsErr r → Went v w [] → Does v w (StepSays seen o v w f r)
  step_worn o v w f (Ok x) e went = absurd (cc)
  step_worn o v w f (Err y) e went = record { events = []; went = went; says = tt }

  pub flush_worn : (o q : Snapshot (State D J)) (v u w : View (Snapshot (State D J)) Event) (f : ℕ) (closes : Bool) (x : Worn) (r : Result FlusherStep Worn) → IsErr r → Turn C o v u (ClosingSays closes) → Does u w (FlushSays seen q u w (Flusher f) (Err x)) → Does v w (StepSays seen o v w f r)
  flush_worn o q v u w f closes x (Ok y) e t p = absurd (cc)
  flush_worn o q v u w f closes x (Err y) e t p =
      record {
        events = t.events ++ p.events;
        went = went_on v u w t.events p.events (went_turn C o v u (ClosingSays closes) t) p.went;
        says = subst (AreOf (Flusher f)) (sym (ap (λ (es : List Event). es ++ p.events) t.says.are)) (cut_of f p.events p.says);
      }

  -- ---- the loop

  -- so far
  abbrev pub Going : Snapshot (State D J) → View (Snapshot (State D J)) Event → View (Snapshot (State D J)) Event → ℕ → Type 0
  Going o v w f = Does v w (HasFlushed seen o w f (λ c. Unit {0}))

  pub going_none : (o : Snapshot (State D J)) (v : View (Snapshot (State D J)) Event) (f : ℕ) → HoldsNone (core_seen C o v) (Flusher f) → Going o v v f
  going_none o v f none = record { events = []; went = went_none v; says = record { of = tt; none = none; says = tt } }

  both : (o : Snapshot (State D J)) (w : View (Snapshot (State D J)) Event) (f : ℕ) (P : Core → Type 0) (es fs : List Event) → AreOf (Flusher f) es → HasFlushed seen o w f P fs → HasFlushed seen o w f P (es ++ fs)
  both o w f P es fs of p = record { of = of_on (Flusher f) es fs of p.of; none = p.none; says = p.says }

  pub on_step : (o q : Snapshot (State D J)) (v u w : View (Snapshot (State D J)) Event) (f : ℕ) (r : FlusherStep) → q ≡ o → r ≡ On → Going o v u f → Does u w (StepSays seen q u w f (Ok r)) → Going o v w f
  on_step o q v u w f r same is p n =
      let k = subst (λ (z : Snapshot (State D J) × FlusherStep). StepSays seen z.0 u w f (Ok z.1) n.events) (λ i. (same i, is i)) n.says in
      record { events = p.events ++ n.events; went = went_on v u w p.events n.events p.went n.went; says = both o w f (λ c. Unit {0}) p.events n.events p.says.of k }

  pub waits_step : (o q : Snapshot (State D J)) (v u w : View (Snapshot (State D J)) Event) (f : ℕ) (r : FlusherStep) → q ≡ o → r ≡ Waits → Going o v u f → Does u w (StepSays seen q u w f (Ok r)) → Going o v w f
  waits_step o q v u w f r same is p n =
      let k = subst (λ (z : Snapshot (State D J) × FlusherStep). StepSays seen z.0 u w f (Ok z.1) n.events) (λ i. (same i, is i)) n.says in
      record { events = p.events ++ n.events; went = went_on v u w p.events n.events p.went n.went; says = both o w f (λ c. Unit {0}) p.events n.events p.says.of (record { of = k.1.of; none = k.1.none; says = tt }) }

  pub closing_on : (o q : Snapshot (State D J)) (v u w : View (Snapshot (State D J)) Event) (f : ℕ) (r : FlusherStep) → q ≡ o → r ≡ Closing → Going o v u f → Does u w (StepSays seen q u w f (Ok r)) → Does v w (LoopSays seen o w f (Ok tt))
  closing_on o q v u w f r same is p n =
      let k = subst (λ (z : Snapshot (State D J) × FlusherStep). StepSays seen z.0 u w f (Ok z.1) n.events) (λ i. (same i, is i)) n.says in
      record { events = p.events ++ n.events; went = went_on v u w p.events n.events p.went n.went; says = both o w f IsClosing p.events n.events p.says.of k.1 }

  pub worn_on : (o q : Snapshot (State D J)) (v u w : View (Snapshot (State D J)) Event) (f : ℕ) (x : Worn) (r : Result (Unit {0}) Worn) → IsErr r → Going o v u f → Does u w (StepSays seen q u w f (Err x)) → Does v w (LoopSays seen o w f r)
  worn_on o q v u w f x (Ok y) e p n = absurd (cc)
  worn_on o q v u w f x (Err y) e p n =
      record { events = p.events ++ n.events; went = went_on v u w p.events n.events p.went n.went; says = of_on (Flusher f) p.events n.events p.says.of n.says }
