use Rattle.core_lanes.proofs.Outward.{die_out_keeps}
use Rattle.core_lanes.proofs.laws.die_out_kept.Goals as goal

pub returns : goal.returns
returns k = die_out_keeps
