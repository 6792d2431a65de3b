use Rattle.bench_runs.proofs.Drawn.{no_faults}
use Rattle.bench_runs.proofs.laws.drawn_scripts_have_no_faults.Goals as goal

pub returns : goal.returns
returns c = no_faults
