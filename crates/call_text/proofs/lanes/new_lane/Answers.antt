use Rattle.call_text.proofs.LaneText.{IsUtf8-lane}
use Rattle.call_text.proofs.lanes.new_lane.Goals as goal

pub unreachable-requires : goal.unreachable-requires
unreachable-requires c = c.in_default.ensures.cases.0 (IsUtf8-lane c.args.name.now c.requires)
