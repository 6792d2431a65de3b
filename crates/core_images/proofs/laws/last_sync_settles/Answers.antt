use Rattle.core_images.proofs.Runs.{sync_settles, run_settles}
use Rattle.core_images.proofs.laws.last_sync_settles.Goals as goal

pub returns-clause-sync : goal.returns-clause-sync
returns-clause-sync c = sync_settles

pub returns-clause-run : goal.returns-clause-run
returns-clause-run c = run_settles
