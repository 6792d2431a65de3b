use Rattle.lambda_finishes.proofs.Asking.{asked_ok, asked_not}
use Rattle.lambda_finishes.proofs.waiting.ask.Goals as goal

pub returns-in-Ok-clause-did : goal.returns-in-Ok-clause-did
returns-in-Ok-clause-did g c =
    asked_ok g.D.Die.seen (g.K.Desk.opening c.args.desk.now) (g.K.Desk.view c.args.desk.now) (g.K.Desk.view c.turn_collect_job.new.desk) c.args.lane c.in_ok-answer.answer _ c.in-Ok.is c.requires.out c.in_ok-answer.ensures.did

pub returns-in-Err-clause-did : goal.returns-in-Err-clause-did
returns-in-Err-clause-did g c =
    asked_not g.D.Die.seen (g.K.Desk.opening c.args.desk.now) (g.K.Desk.view c.args.desk.now) (g.K.Desk.view c.turn_collect_job.new.desk) c.args.lane c.in_ok-answer.answer _ c.in-Err.is c.requires.out c.in_ok-answer.ensures.did
