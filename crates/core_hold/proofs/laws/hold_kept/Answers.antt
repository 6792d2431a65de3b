use Rattle.core_history.proofs.Leaving.{gone_stays}
use Rattle.core_hold.proofs.All.{each_holds}
use Rattle.core_hold.proofs.laws.hold_kept.Goals as goal

pub returns : goal.returns
returns k = record { holds = each_holds; gone = gone_stays }
