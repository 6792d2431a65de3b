use Rattle.std.proofs.Common.{◌++◌, ◌∷◌, [], ◌∙◌, sym, ap, arith, map, List}
use Rattle.std.specs.List.{range_with_len}
use Rattle.std.proofs.lemmas.List.FromFn.{map-range_with_len_more}
use Rattle.flash_die.specs.declared.plan.Plan.{Plan}
use Rattle.fault_lines.specs.Lines.{plan_for}
use Rattle.fault_lines.proofs.planning.plans.Goals as goal

pub loop-die-preserved : goal.loop-die-preserved
loop-die-preserved c =
    c.in_ok-push.ensures.items
    ∙ (ap (λ (xs : List Plan). xs ++ c.in_ok-plan.plan ∷ []) c.loop-die.invariant
    ∙ (ap (λ (x : Plan). map (plan_for c.args.lines.now c.args.copy) (range_with_len 0 c.loop-die.die) ++ x ∷ []) c.in_ok-plan.ensures
    ∙ sym (map-range_with_len_more (plan_for c.args.lines.now c.args.copy) 0 c.loop-die.die c.loop-die.die (omega arith))))
