use Rattle.predicates.proofs.FieldLaws.{fit_if_none}
use Rattle.predicates.proofs.fields.field_fault.Goals as goal

pub returns-clause-fit : goal.returns-clause-fit
returns-clause-fit c = fit_if_none c.args.pred.now c.args.width c.fault_from.result c.fault_from.ensures
