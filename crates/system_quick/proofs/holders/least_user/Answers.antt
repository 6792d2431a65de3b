use Rattle.std.proofs.Common.{◌<◌, ℕ, Bool, Some, None, length, get_or, ap, ◌∙◌, arith}
use Rattle.std.specs.Prelude.{if◌then◌else◌}
use Rattle.std.proofs.lemmas.List.{get_or_default}
use Rattle.core_state.specs.Words.{or_else}
use Rattle.system_quick.specs.Rows.{row_uses}
use Rattle.system_quick.proofs.InTheWay.{first-none, first-more}
use Rattle.system_quick.proofs.holders.least_user.Goals as goal

pub loop-lane-init : goal.loop-lane-init
loop-lane-init c = first-none (λ (j : ℕ). row_uses c.args.name.now (get_or c.args.calls.now j None))

pub loop-lane-preserved : goal.loop-lane-preserved
loop-lane-preserved c =
    let low : c.loop-lane.lane < length c.args.calls.now = omega arith in
    first-more (λ (j : ℕ). row_uses c.args.name.now (get_or c.args.calls.now j None)) c.loop-lane.lane c.loop-lane.least c.or_such-least.result c.loop-lane.invariant
    (c.or_such-least.ensures ∙ ap (λ (t : Bool). or_else c.loop-lane.least (if t then Some c.loop-lane.lane else None)) (c.uses.ensures ∙ ap (row_uses c.args.name.now) (c.index-calls-lane.is ∙ get_or_default c.args.calls.now c.loop-lane.lane c.index-calls-lane.result None low)))
