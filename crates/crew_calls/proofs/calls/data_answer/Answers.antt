use Rattle.crews.specs.Seats.{view_at, opening_at}
use Rattle.crew_calls.proofs.Lanes.{data_says}
use Rattle.crew_calls.proofs.calls.data_answer.Goals as goal

pub returns-in-Read-clause-did : goal.returns-in-Read-clause-did
returns-in-Read-clause-did g c =
    data_says g.D.Die.seen (opening_at c.args.desk.now) (view_at c.args.desk.now) (view_at c.read_call.new.desk) c.args.lane c.args.request.now c.read_call.result c.read_call.ensures.did

pub returns-in-Write-clause-did : goal.returns-in-Write-clause-did
returns-in-Write-clause-did g c =
    data_says g.D.Die.seen (opening_at c.args.desk.now) (view_at c.args.desk.now) (view_at c.write_call.new.desk) c.args.lane c.args.request.now c.write_call.result c.write_call.ensures.did

pub returns-in-Append-clause-did : goal.returns-in-Append-clause-did
returns-in-Append-clause-did g c =
    data_says g.D.Die.seen (opening_at c.args.desk.now) (view_at c.args.desk.now) (view_at c.append_call.new.desk) c.args.lane c.args.request.now c.append_call.result c.append_call.ensures.did

pub returns-in-Trunc-clause-did : goal.returns-in-Trunc-clause-did
returns-in-Trunc-clause-did g c =
    data_says g.D.Die.seen (opening_at c.args.desk.now) (view_at c.args.desk.now) (view_at c.trunc_call.new.desk) c.args.lane c.args.request.now c.trunc_call.result c.trunc_call.ensures.did
