use Rattle.std.proofs.Common.{[], ◌∷◌, ◌++◌, Option, IfSome, sym, subst}
use Rattle.turn_cell.specs.History.{entry}
use Rattle.system_state.specs.Stands.{Stands}
use Rattle.system_state.specs.declared.errand.Errand.{Errand}
use Rattle.system_pages.specs.Events.{take_event}
use Rattle.lambda_system.specs.Events.{HasTold}
use Rattle.lambda_system.proofs.system.System.try_take.Goals as goal

pub returns-clause-stands : goal.returns-clause-stands
returns-clause-stands g c = λ o h n k.
    subst (λ (z : Option (Errand g.row.D.Denot)). Stands g.D.Die.seen g.J.CallJob.suits c.try_take.new.state o (h ++ entry n (take_event c.args.actor c.args.lane c.args.i z) ∷ []) × IfSome z (HasTold g.D.Die.seen o h)) (sym c.step_of.ensures)
    (c.in_ok-errand.ensures.stands o h n k)
