use Rattle.plain_run.proofs.Ordered.{answer_keeps}
use Rattle.plain_run.proofs.laws.ids_rise.Goals as goal

pub returns : goal.returns
returns c = answer_keeps
