use Rattle.std.proofs.Common.{◌≡◌, ◌≤◌, ℕ, List, [], map, Option, Some, ap, sym, subst, ◌∙◌, arith}
use Rattle.flash_die.specs.Dies.{AreWhole}
use Rattle.flash_raw.specs.Calls.{RawPlan, first_calls, faults_of, most_of}
use Rattle.flash_raw.specs.Memory.{plan_of}
use Rattle.flash_raw.specs.Laws.{sound_raw}
use Rattle.flash_raw.proofs.Counting.{failed_of-first}
use Rattle.ftl_die.specs.Stored.{content}
use Rattle.ftl_die.proofs.ftl_die.FtlDie+RawMem.loaded.Goals as goal

pub invariant_of-die-clause-each_whole : goal.invariant_of-die-clause-each_whole
invariant_of-die-clause-each_whole c =
    let die = c.load_pages.new.die in
    subst (λ (p : List (Option (List ℕ))). AreWhole (map (content p die.slots.items) die.layout.places.items)) (sym c.arm.ensures.pages) die.each_whole

pub returns-clause-plan : goal.returns-clause-plan
returns-clause-plan c =
    let raw = c.load_pages.new.die.raw in
    let told : ℕ → List ℕ → List ℕ → List ℕ → RawPlan = λ e r p x. record { earlier = e; reads = first_calls r; programs = first_calls p; erases = first_calls x } in
    let most : Some (most_of (plan_of raw)) ≡ Some 0 = c.load_pages.ensures.sure in
    let none : most_of (plan_of raw) ≡ 0 = cc in
    let bounded : faults_of (plan_of raw) ≤ most_of (plan_of raw) = (sound_raw raw).bounded in
    let never : faults_of (plan_of raw) ≡ 0 = omega (arith, none, bounded) in
    c.arm.ensures.plan
    ∙ ap (λ (n : ℕ). told n c.into_vec.result.items c.into_vec-2.result.items c.new-6.result.items) never
    ∙ ap (λ (xs : List ℕ). told 0 xs c.into_vec-2.result.items c.new-6.result.items) c.into_vec.ensures
    ∙ ap (λ (xs : List ℕ). told 0 c.args.plan.reads xs c.new-6.result.items) c.into_vec-2.ensures
    ∙ ap (λ (xs : List ℕ). told 0 c.args.plan.reads c.args.plan.writes xs) c.new-6.ensures.items

pub returns-clause-faults : goal.returns-clause-faults
returns-clause-faults c =
    let plan = returns-clause-plan c in
    let reads = failed_of-first c.args.plan.reads in
    let programs = failed_of-first c.args.plan.writes in
    let erases = failed_of-first [] in
    ap faults_of plan ∙ omega (arith, reads, programs, erases)

pub returns-clause-most : goal.returns-clause-most
returns-clause-most c = ap (λ (p : RawPlan). Some (most_of p)) (returns-clause-plan c) ∙ ap Some (omega arith)
