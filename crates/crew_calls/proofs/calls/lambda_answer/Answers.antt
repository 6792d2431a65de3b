use Rattle.crews.specs.Seats.{view_at, opening_at}
use Rattle.crew_calls.proofs.Lanes.{lambda_says}
use Rattle.crew_calls.proofs.calls.lambda_answer.Goals as goal

pub returns-in-Readl-clause-did : goal.returns-in-Readl-clause-did
returns-in-Readl-clause-did g c =
    lambda_says g.D.Die.seen (opening_at c.args.desk.now) (view_at c.args.desk.now) (view_at c.read_lambda.new.desk) c.args.lane c.args.request.now c.read_lambda.result c.read_lambda.ensures.did

pub returns-in-Writel-clause-did : goal.returns-in-Writel-clause-did
returns-in-Writel-clause-did g c =
    lambda_says g.D.Die.seen (opening_at c.args.desk.now) (view_at c.args.desk.now) (view_at c.write_lambda.new.desk) c.args.lane c.args.request.now c.write_lambda.result c.write_lambda.ensures.did
