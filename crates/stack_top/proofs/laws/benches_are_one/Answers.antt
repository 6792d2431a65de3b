use Rattle.stack_top.proofs.BenchPlans.{benches_are_one}
use Rattle.stack_top.proofs.laws.benches_are_one.Goals as goal

pub returns : goal.returns
returns c = benches_are_one
