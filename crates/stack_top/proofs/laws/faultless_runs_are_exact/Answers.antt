use Rattle.stack_top.proofs.Faultless.{faultless_runs_are_exact}
use Rattle.stack_top.proofs.laws.faultless_runs_are_exact.Goals as goal

pub returns : goal.returns
returns c = faultless_runs_are_exact
