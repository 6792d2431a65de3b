use Rattle.crews.specs.Seats.{view_at, opening_at}
use Rattle.crew_calls.proofs.Lanes.{work_says}
use Rattle.crew_calls.proofs.hands.CallHandsHandsJob.work.Goals as goal

pub returns-clause-did : goal.returns-clause-did
returns-clause-did g c =
    work_says g.D.Die.seen (opening_at c.args.desk.now) (view_at c.args.desk.now) (view_at c.worker_loop.new.desk) c.args.worker c.worker_loop.result c.worker_loop.ensures.did
