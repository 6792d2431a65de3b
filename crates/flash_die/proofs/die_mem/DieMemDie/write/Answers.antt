use Rattle.std.proofs.Common.{◌≡◌, true, false, not, ap, refl, arith}
use Rattle.flash_die.specs.Memory.{pages_of, plan_of}
use Rattle.flash_die.specs.Dies.{write_fails}
use Rattle.flash_die.proofs.Went.{write_went, is_plan}
use Rattle.flash_die.proofs.die_mem.DieMemDie.write.Goals as goal

pub returns-then-is_listed-clause-went : goal.returns-then-is_listed-clause-went
returns-then-is_listed-clause-went c =
    let die = c.args.self.now in
    let fails : false ≡ not (write_fails (plan_of die)) = grind arith in
    write_went (pages_of die) _ (plan_of die) _ c.args.page false _ _ (is_plan die) (ap (λ n. record (plan_of die) { writes = n }) c.next_number-self.ensures) fails refl (λ e. absurd (cc))

pub returns-clause-went : goal.returns-clause-went
returns-clause-went c =
    let die = c.args.self.now in
    let fails : true ≡ not (write_fails (plan_of die)) = grind arith in
    write_went (pages_of die) _ (plan_of die) _ c.args.page true _ _ (is_plan die) (ap (λ n. record (plan_of die) { writes = n }) c.next_number-self.ensures) fails refl (λ _. grind arith)
