use Rattle.crews.specs.Seats.{view_at, opening_at}
use Rattle.crew_calls.proofs.Lanes.{sync_says}
use Rattle.crew_calls.proofs.calls.sync_answer.Goals as goal

pub returns-clause-did : goal.returns-clause-did
returns-clause-did g c =
    sync_says g.D.Die.seen (opening_at c.args.desk.now) (view_at c.args.desk.now) (view_at c.sync_call.new.desk) c.args.lane c.args.request.now c.sync_call.result c.sync_call.ensures.did
