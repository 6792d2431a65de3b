use Rattle.bench_runs.proofs.Benched.{one_text}
use Rattle.bench_runs.proofs.laws.bench_is_one.Goals as goal

pub returns : goal.returns
returns c = one_text
