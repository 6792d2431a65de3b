use Rattle.crews.specs.Seats.{view_at, opening_at}
use Rattle.crew_calls.proofs.Lanes.{quick_says, skip_says}
use Rattle.crew_calls.proofs.calls.quick_answer.Goals as goal

pub skip_call-requires-clause-hands : goal.skip_call-requires-clause-hands
skip_call-requires-clause-hands g c = c.requires.lane.none

pub skip_call-requires-clause-idle : goal.skip_call-requires-clause-idle
skip_call-requires-clause-idle g c = c.requires.lane.idle

pub returns-in-Ok-clause-did : goal.returns-in-Ok-clause-did
returns-in-Ok-clause-did g c =
    quick_says g.D.Die.seen (opening_at c.args.desk.now) (view_at c.args.desk.now) (view_at c.quick_call.new.desk) c.args.lane c.args.request.now c.quick_call.result c.quick_call.ensures.did

pub returns-in-Err-clause-did : goal.returns-in-Err-clause-did
returns-in-Err-clause-did g c =
    skip_says g.D.Die.seen (opening_at c.args.desk.now) (view_at c.args.desk.now) (view_at c.skip_call.new.desk) c.args.lane c.args.request.now c.skip_call.result c.skip_call.ensures.did
