-- No more die events fail than the plans list numbers.
use Rattle.std.proofs.Common.{◌≡◌, ℕ, suc, ◌+◌, ◌≤◌, Bool, true, false, List, [], ◌∷◌, Option, Some, None, refl, ap, ◌∙◌, subst, arith}
use Rattle.std.specs.Prelude.{is_some, not, ◌||◌, if◌then◌else◌}
use Rattle.edge_io.specs.Memory.{is_listed}
use Rattle.index_lists.specs.Words.{one_if}
use Rattle.flash_die.specs.Failures.{failed_of}
use Rattle.flash_die.specs.Laws.{failed_of-within}
use Rattle.script_words.specs.declared.script.FaultLine.{FaultLine}
use Rattle.command_words.specs.declared.options.DieKind.{DieKind}
use Rattle.command_words.specs.declared.options.DieKind.TheVariants.{Mem, Ftl, Mirror}
use Rattle.core_state.specs.declared.event.Event.{Event}
use Rattle.core_state.specs.State.{Core}
use Rattle.core_state.specs.Coherent.{Coherent}
use Rattle.core_state.specs.Happens.{CoreRun}
use Rattle.core_state.specs.History.{read_of, write_of, DiePlan, IsListed, IsPlannedFrom, Planned, faults, calls_of}
use Rattle.core_history.proofs.Faults.{run_faults}
use Rattle.system_state.specs.Stands.{count_such, has_failed, tally}
use Rattle.core_plans.specs.Failing.{FailAtMost}
use Rattle.fault_lines.specs.Lines.{distinct_lines}
use Rattle.core_plans.specs.Lines.{plan_of, listed_in, listed_for, FailAsTold}
use Rattle.core_plans.proofs.Dies.{all_within}
use Rattle.core_plans.proofs.Lines.{sum_lines}
use Rattle.core_plans.proofs.Sums.{sum_below}

twice : (x : ℕ) (t : Bool) → x + one_if (not (not t)) ≡ x + (if t then 1 else 0)
twice x true = refl
twice x false = refl

next_failed : (n : ℕ) (good : Bool) (listed : List ℕ) → good ≡ not (is_listed (suc n) listed) → failed_of n listed + one_if (not good) ≡ failed_of (suc n) listed
unfolding failed_of
next_failed n good listed k = ap (λ (b : Bool). failed_of n listed + one_if (not b)) k ∙ twice (failed_of n listed) (is_listed (suc n) listed)

-- one call more of a kind, if the event is one
one_more : (o : Option Bool) (n : ℕ) (listed : List ℕ) → IsListed o (n + 1) listed → failed_of n listed + one_if (has_failed o) ≡ failed_of (n + one_if (is_some o)) listed
one_more None n listed k = let e : n + 0 ≡ n = omega arith in let f = ap (λ (m : ℕ). failed_of m listed) e in omega arith
one_more (Some good) n listed k =
    let e : n + 1 ≡ suc n = omega arith in
    let f = ap (λ (m : ℕ). failed_of m listed) e in
    let g = next_failed n good listed (subst (λ (m : ℕ). good ≡ not (is_listed m listed)) e k) in
    omega arith

either : (a b : Bool) → one_if (a || b) ≤ one_if a + one_if b
either true b = omega arith
either false b = omega arith

-- how many calls of the die had failed, by a plan
abbrev failed : DiePlan → ℕ → ℕ → ℕ
failed plan reads writes = failed_of reads plan.reads + failed_of writes plan.writes

failed_few : (d : ℕ) (plan : DiePlan) (es : List Event) (reads writes : ℕ) → IsPlannedFrom d plan reads writes es → failed plan reads writes + (tally d es).failed ≤ listed_in plan
unfolding count_such
failed_few d plan [] reads writes k =
    let a = failed_of-within reads plan.reads in
    let b = failed_of-within writes plan.writes in
    omega arith
failed_few d plan (e ∷ es) reads writes k =
    let a = one_more (read_of d e) reads plan.reads k.0 in
    let b = one_more (write_of d e) writes plan.writes k.1 in
    let c = either (has_failed (read_of d e)) (has_failed (write_of d e)) in
    let rest = failed_few d plan es (reads + one_if (is_some (read_of d e))) (writes + one_if (is_some (write_of d e))) k.2 in
    omega arith

planned_few : (c c1 : Core) (lines : List FaultLine) (es : List Event) → Coherent c → CoreRun c es c1 → Planned es (plan_of lines false) → FailAtMost (distinct_lines lines) es
planned_few c c1 lines es h run p =
    let a = all_within es c c1 h run in
    let b = sum_below c.shape.dies (λ d. (tally d es).failed) (listed_for lines) (λ d l. let k = failed_few d (plan_of lines false d) es 0 0 (p d) in omega arith) in
    let s = sum_lines c.shape.dies lines in
    omega arith

pub told_few : (c c1 : Core) (kind : DieKind) (lines : List FaultLine) (es : List Event) → Coherent c → CoreRun c es c1 → FailAsTold kind lines es → FailAtMost (distinct_lines lines) es
told_few c c1 Mem lines es h run p = planned_few c c1 lines es h run p
told_few c c1 Ftl lines es h run p = p
told_few c c1 Mirror lines es h run p = p

-- so no more calls are answered `fault`
pub faults_few : (c c1 : Core) (kind : DieKind) (lines : List FaultLine) (es : List Event) → Coherent c → ((lane : ℕ) → (c.lanes lane).mark ≡ false) → CoreRun c es c1 → FailAsTold kind lines es →
    faults (calls_of es) ≤ distinct_lines lines
faults_few c c1 kind lines es h marks run p = let a = told_few c c1 kind lines es h run p in let b = run_faults c c1 es marks run in omega arith
