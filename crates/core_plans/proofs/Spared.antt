-- Where the plans list no write, no write fails, and nothing is left by one that failed.
use Rattle.std.proofs.Common.{◌≡◌, ℕ, ◌+◌, Bool, true, false, List, [], ◌∷◌, length, Some, None, ap, ◌∙◌}
use Rattle.std.specs.Prelude.{is_some, IfSome, not, ◌==◌, ◌&&◌, if◌then◌else◌}
use Rattle.edge_io.specs.Memory.{is_listed}
use Rattle.index_lists.specs.Words.{one_if}
use Rattle.flash_die.specs.Dies.{PlanView}
use Rattle.core_state.specs.declared.event.Event.{Event}
use Rattle.core_state.specs.declared.event.Event.TheVariants.{FlushIn, MetaIn}
use Rattle.core_state.specs.State.{Page, Core}
use Rattle.core_state.specs.Coherent.{Coherent}
use Rattle.core_state.specs.History.{read_of, write_of, DiePlan, IsListed, IsPlannedFrom}
use Rattle.core_solo.specs.Solo.{Script, SoloRun}
use Rattle.core_solo.specs.Alone.{OpeningFrames}
use Rattle.core_solo.specs.Settling.{IsFresh}
use Rattle.core_solo.specs.Served.{starved_of}
use Rattle.system_state.specs.Stands.{failing}
use Rattle.core_plans.specs.Failing.{FailAsPlanned, LeavesFrom, spoilt_by}
use Rattle.core_plans.proofs.Plans.{same_by_plan}

none_spoilt : (t good : Bool) (page want : Page) (number : ℕ) (listed : List ℕ) → listed ≡ [] → IsListed (if t then Some good else None) number listed → IfSome (if t && not good then Some page else None) (λ p. p ≡ want)
none_spoilt true true page want number listed none k = tt
none_spoilt true false page want number listed none k = absurd (let e : false ≡ true = k ∙ ap (λ (xs : List ℕ). not (is_listed number xs)) none in cc)
none_spoilt false good page want number listed none k = tt

spares : (d : ℕ) (e : Event) (want : Page) (number : ℕ) (listed : List ℕ) → listed ≡ [] → IsListed (write_of d e) number listed → IfSome (spoilt_by d e) (λ p. p ≡ want)
spares d (FlushIn actor die good left) want number listed none k = none_spoilt (die == d) good left want number listed none k
spares d (MetaIn actor die good left) want number listed none k = none_spoilt (die == d) good left want number listed none k
spares d e want number listed none k = tt

leaves_none : (d : ℕ) (left : ℕ → Page) (plan : DiePlan) (es : List Event) (reads writes : ℕ) → plan.writes ≡ [] → IsPlannedFrom d plan reads writes es → LeavesFrom d left writes es
leaves_none d left plan [] reads writes none k = tt
leaves_none d left plan (e ∷ es) reads writes none k = (
  spares d e (left (writes + 1)) (writes + 1) plan.writes none k.1,
  leaves_none d left plan es (reads + one_if (is_some (read_of d e))) (writes + one_if (is_some (write_of d e))) none k.2,
)

pub same_by_reads : (encode : Core → ℕ → Page) (plans : ℕ → PlanView) (c0 c1 c2 : Core) (script : Script) (last : Bool) (es fs : List Event) → OpeningFrames c0.shape → length script.lanes ≡ c0.shape.lanes → Coherent c0 → IsFresh c0 →
    ((d : ℕ) → (plans d).failing_writes ≡ []) → SoloRun encode c0 script last es c1 → FailAsPlanned plans es → SoloRun encode c0 script last fs c2 → FailAsPlanned plans fs → starved_of es ≡ starved_of fs → es ≡ fs
same_by_reads encode plans c0 c1 c2 script last es fs f wide h fresh none a pa b pb same =
    let left : ℕ → ℕ → Page = λ d n. [] in
    same_by_plan plans left encode c0 c1 c2 script last es fs f wide h fresh
    a pa (λ d. leaves_none d (left d) (failing (plans d)) es (plans d).reads (plans d).writes (none d) (pa d))
    b pb (λ d. leaves_none d (left d) (failing (plans d)) fs (plans d).reads (plans d).writes (none d) (pb d)) same
