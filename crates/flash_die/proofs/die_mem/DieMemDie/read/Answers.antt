use Rattle.std.proofs.Common.{◌≡◌, true, false, not, ap, ◌∙◌, ◌<◌, length, [], arith}
use Rattle.std.proofs.lemmas.List.{get_or_read}
use Rattle.flash_die.specs.Memory.{pages_of, plan_of}
use Rattle.flash_die.specs.Dies.{read_fails}
use Rattle.flash_die.proofs.Went.{read_went, is_plan}
use Rattle.flash_die.proofs.die_mem.DieMemDie.read.Goals as goal

pub returns-then-is_listed-clause-went : goal.returns-then-is_listed-clause-went
returns-then-is_listed-clause-went c =
    let die = c.args.self.now in
    let fails : false ≡ not (read_fails (plan_of die)) = grind arith in
    read_went (pages_of die) (plan_of die) _ c.args.page false _ _ (is_plan die) (ap (λ n. record (plan_of die) { reads = n }) c.next_number-self.ensures) fails (λ e. absurd (cc)) (λ _. grind arith)

pub returns-clause-went : goal.returns-clause-went
returns-clause-went c =
    let die = c.args.self.now in
    let within : c.args.page < length (pages_of die) = grind arith in
    let fails : true ≡ not (read_fails (plan_of die)) = grind arith in
    read_went (pages_of die) (plan_of die) _ c.args.page true _ _ (is_plan die) (ap (λ n. record (plan_of die) { reads = n }) c.next_number-self.ensures) fails (λ _. c.copy_from.ensures.value ∙ get_or_read (pages_of die) c.args.page _ within c.index.ensures []) (λ e. absurd (cc))
