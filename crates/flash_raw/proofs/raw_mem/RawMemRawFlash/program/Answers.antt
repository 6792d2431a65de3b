use Rattle.std.proofs.Common.{◌≡◌, ◌+◌, true, false, set, List, Option, ℕ, refl, ap, ◌∙◌, arith}
use Rattle.std.proofs.lemmas.List.{map-set}
use Rattle.flash_die.specs.Failures.{spoilt_page}
use Rattle.flash_raw.specs.Calls.{RawPlan, faults_of, most_of}
use Rattle.flash_raw.specs.Memory.{calls_of, pages_of, plan_of, shown}
use Rattle.flash_raw.proofs.Went.{program_went}
use Rattle.flash_raw.proofs.raw_mem.RawMemRawFlash.program.Goals as goal

pub returns-then-next_fails-clause-err : goal.returns-then-next_fails-clause-err
returns-then-next_fails-clause-err c =
    let raw = c.args.self.now in
    map-set shown raw.pages.items c.args.page c.spoil.new.self ∙ ap (λ (p : Option (List ℕ)). set (pages_of raw) c.args.page p) c.spoil.ensures

pub returns-then-next_fails-clause-went : goal.returns-then-next_fails-clause-went
returns-then-next_fails-clause-went c =
    let raw = c.args.self.now in
    let later : RawPlan = record (plan_of raw) { programs = calls_of c.next_fails.new.self } in
    let faults : faults_of later ≡ faults_of (plan_of raw) + 1 = grind arith in
    let most : most_of later ≡ most_of (plan_of raw) = grind arith in
    program_went (pages_of raw) _ raw.blocks (plan_of raw) later c.args.page false c.args.from.now spoilt_page faults most (map-set shown raw.pages.items c.args.page c.spoil.new.self ∙ ap (λ (p : Option (List ℕ)). set (pages_of raw) c.args.page p) c.spoil.ensures) (λ e. absurd (cc))

pub returns-clause-ok : goal.returns-clause-ok
returns-clause-ok c =
    let raw = c.args.self.now in
    map-set shown raw.pages.items c.args.page c.program.new.self ∙ ap (λ (p : Option (List ℕ)). set (pages_of raw) c.args.page p) c.program.ensures

pub returns-clause-went : goal.returns-clause-went
returns-clause-went c =
    let raw = c.args.self.now in
    let later : RawPlan = record (plan_of raw) { programs = calls_of c.next_fails.new.self } in
    let faults : faults_of later ≡ faults_of (plan_of raw) + 0 = grind arith in
    let most : most_of later ≡ most_of (plan_of raw) = grind arith in
    program_went (pages_of raw) _ raw.blocks (plan_of raw) later c.args.page true c.args.from.now c.args.from.now faults most (map-set shown raw.pages.items c.args.page c.program.new.self ∙ ap (λ (p : Option (List ℕ)). set (pages_of raw) c.args.page p) c.program.ensures) (λ _. refl)
