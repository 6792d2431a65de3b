-- A history that a system stands for fails as the plans of its dies say, and as seldom as their bounds.
use Rattle.std.proofs.Common.{◌≡◌, ℕ, ◌+◌, ◌<◌, ◌≤◌, Bool, true, false, List, [], ◌∷◌, Option, Some, None, refl, sym, ap, ◌∙◌, subst, ⊎_elim, arith}
use Rattle.std.specs.Prelude.{is_some, not, ◌==◌, ◌||◌, if◌then◌else◌}
use Rattle.std.proofs.lemmas.Bool.{cases_lt}
use Rattle.std.proofs.lemmas.Bool.Decides.{nat_tests}
use Rattle.index_lists.specs.Words.{one_if}
use Rattle.flash_die.specs.Dies.{PlanView, DieView}
use Rattle.turn_cell.specs.declared.book.Entry.{Entry}
use Rattle.turn_cell.specs.Events.{events_of}
use Rattle.core_state.specs.declared.event.Event.{Event}
use Rattle.core_state.specs.declared.event.Event.TheVariants.{FillIn, FlushIn, MetaIn}
use Rattle.core_state.specs.State.{Shape, Core}
use Rattle.core_state.specs.Coherent.{Coherent}
use Rattle.core_state.specs.Happens.{May, CoreRun, after}
use Rattle.core_state.specs.History.{read_of, write_of, DiePlan, IsListed, IsPlannedFrom, is_failure, failures}
use Rattle.core_state.specs.Words.{sum_to}
use Rattle.core_stores.proofs.Folds.{run_keeps}
use Rattle.core_solo.proofs.Goes.{out_low}
use Rattle.core_solo.proofs.Rests.{shape_all}
use Rattle.system_state.specs.Jobs.{JobView}
use Rattle.system_state.specs.Slots.{die_at}
use Rattle.system_state.specs.Stands.{count_such, has_failed, tally, failing, IsByPlan, Stands}
use Rattle.system_state.specs.declared.state.State.{State}
use Rattle.core_plans.specs.Failing.{FailAsPlanned, FailAtMost, TellPlans, BoundFailures}
use Rattle.core_plans.proofs.Plans.{is_itself}
use Rattle.core_plans.proofs.Sums.{sum_both, sum_below, sum_has}

-- ---- no die past the last one comes home

none_at : (t good : Bool) → t ≡ false → (if t then Some good else None) ≡ None
none_at true good e = absurd (cc)
none_at false good e = refl

other : (die d n : ℕ) → die < n → n ≤ d → (die == d) ≡ false
other die d n l m = let differ : die < d = omega arith in grind (arith, nat_tests)

-- of neither kind
pub record IsNotOf (d : ℕ) (e : Event) : Type 0 where
  pub read : read_of d e ≡ None
  pub write : write_of d e ≡ None

past : (c : Core) (e : Event) (d : ℕ) → Coherent c → May c e → c.shape.dies ≤ d → IsNotOf d e
past c (FillIn actor die good) d h m l = record { read = none_at (die == d) good (other die d c.shape.dies (out_low c h die _ m.out) l); write = refl }
past c (FlushIn actor die good left) d h m l = record { read = refl; write = none_at (die == d) good (other die d c.shape.dies (out_low c h die _ m.out) l) }
past c (MetaIn actor die good left) d h m l = record { read = refl; write = none_at (die == d) good (other die d c.shape.dies (out_low c h die _ m.out) l) }
past c _ d h m l = record { read = refl; write = refl }

pub past_planned : (es : List Event) (c c1 : Core) (d : ℕ) (plan : DiePlan) (reads writes : ℕ) → Coherent c → CoreRun c es c1 → c.shape.dies ≤ d → IsPlannedFrom d plan reads writes es
past_planned [] c c1 d plan reads writes h run l = tt
past_planned (e ∷ es) c c1 d plan reads writes h run l =
    let k = past c e d h run.0.may l in
    let shape : (after c e).shape ≡ c.shape = shape_all (e ∷ []) c in (
      subst (λ (o : Option Bool). IsListed o (reads + 1) plan.reads) (sym k.read) tt,
      subst (λ (o : Option Bool). IsListed o (writes + 1) plan.writes) (sym k.write) tt,
      past_planned es (after c e) c1 d plan (reads + one_if (is_some (read_of d e))) (writes + one_if (is_some (write_of d e))) (run_keeps c (after c e) (e ∷ []) h (run.0, refl)) run.1
          (subst (λ (w : Shape). w.dies ≤ d) (sym shape) l),
    )

-- ---- failures are the dies'

fails_at : (t good : Bool) → t ≡ true → one_if (not good) ≡ one_if (has_failed (if t then Some good else None))
fails_at true good e = refl
fails_at false good e = absurd (cc)

abbrev failed_at : Event → ℕ → ℕ
failed_at e d = one_if (has_failed (read_of d e) || has_failed (write_of d e))

or_false : (t : Bool) → (t || false) ≡ t
or_false true = refl
or_false false = refl

one_within : (c : Core) (e : Event) → Coherent c → May c e → one_if (is_failure e) ≤ sum_to c.shape.dies (failed_at e)
one_within c (FillIn actor die good) h m =
    let a = sum_has c.shape.dies die (failed_at (FillIn actor die good)) (out_low c h die _ m.out) in
    let b : one_if (not good) ≡ failed_at (FillIn actor die good) die = fails_at (die == die) good (is_itself die) ∙ ap one_if (sym (or_false (has_failed (if die == die then Some good else None)))) in
    omega arith
one_within c (FlushIn actor die good left) h m =
    let a = sum_has c.shape.dies die (failed_at (FlushIn actor die good left)) (out_low c h die _ m.out) in
    let b : one_if (not good) ≡ failed_at (FlushIn actor die good left) die = fails_at (die == die) good (is_itself die) in
    omega arith
one_within c (MetaIn actor die good left) h m =
    let a = sum_has c.shape.dies die (failed_at (MetaIn actor die good left)) (out_low c h die _ m.out) in
    let b : one_if (not good) ≡ failed_at (MetaIn actor die good left) die = fails_at (die == die) good (is_itself die) in
    omega arith
one_within c e h m = omega arith

pub all_within : (es : List Event) (c c1 : Core) → Coherent c → CoreRun c es c1 → failures es ≤ sum_to c.shape.dies (λ d. (tally d es).failed)
unfolding count_such
all_within [] c c1 h run = omega arith
all_within (e ∷ es) c c1 h run =
    let shape : (after c e).shape ≡ c.shape = shape_all (e ∷ []) c in
    let first = one_within c e h run.0.may in
    let rest = subst (λ (w : Shape). failures es ≤ sum_to w.dies (λ d. (tally d es).failed)) shape (all_within es (after c e) c1 (run_keeps c (after c e) (e ∷ []) h (run.0, refl)) run.1) in
    let both = sum_both c.shape.dies (failed_at e) (λ d. (tally d es).failed) in
    omega arith

few : (old most n calls : ℕ) → old + n ≤ most → most ≤ old + calls → n ≤ calls
few old most n calls a b = omega arith

-- ---- a system stands for them

module _ {D J : Type 0} (seen : D → DieView) (suits : J → JobView → Type 0) where
  pub stands_planned : (s o : State D J) (h : List (Entry Event)) (plans : ℕ → PlanView) → Stands seen suits s o h → TellPlans seen o plans → FailAsPlanned plans (events_of h)
  stands_planned s o h plans k tell d = ⊎_elim
      (λ (l : d < o.sizes.dies).
      let w : d < s.sizes.dies = (let z = ap (λ z. z.dies) k.sizes in omega arith) in
      subst (λ (p : Option PlanView). IsByPlan d p (events_of h)) (tell d l) (k.planned d w))
      (λ (l : o.sizes.dies ≤ d). past_planned (events_of h) _ _ d (failing (plans d)) (plans d).reads (plans d).writes k.coherent k.run l)
      (cases_lt d o.sizes.dies)

  pub stands_bounded : (s o : State D J) (h : List (Entry Event)) (calls : ℕ → ℕ) → Stands seen suits s o h → BoundFailures seen o calls → FailAtMost (sum_to o.sizes.dies calls) (events_of h)
  stands_bounded s o h calls k bound =
      let a = all_within (events_of h) _ _ k.coherent k.run in
      let b = sum_below o.sizes.dies (λ d. (tally d (events_of h)).failed) calls (λ d l.
      let w : d < s.sizes.dies = (let z = ap (λ z. z.dies) k.sizes in omega arith) in
      let m = bound d l in
      few (die_at seen o.rack.slots.items d).faults m.most (tally d (events_of h)).failed (calls d) ((k.dies d w).within m.most m.told) m.few) in
      omega arith
