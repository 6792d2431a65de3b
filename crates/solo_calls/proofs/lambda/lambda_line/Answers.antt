use Rattle.turn_cell.specs.Desks.{view_alone, opening_alone}
use Rattle.system_state.specs.Cores.{core_of}
use Rattle.desk_turns.specs.Passing.{core_seen}
use Rattle.lambda_calls.specs.Books.{opening_in}
use Rattle.lambda_calls.specs.Finishing.{AreOfCall}
use Rattle.solo_calls.proofs.Lines.{free_of, alone_of, frames_of, lambda_says}
use Rattle.solo_calls.proofs.lambda.lambda_line.Goals as goal

pub read_lambda_alone-requires-clause-lane : goal.read_lambda_alone-requires-clause-lane
read_lambda_alone-requires-clause-lane g c =
    free_of (core_seen (core_of g.D.Die.seen) (opening_alone opening_in c.args.alone.now) (view_alone c.args.alone.now)) c.args.lane c.args.request.now c.requires.may

pub read_lambda_alone-requires-clause-alone : goal.read_lambda_alone-requires-clause-alone
read_lambda_alone-requires-clause-alone g c =
    alone_of (core_seen (core_of g.D.Die.seen) (opening_alone opening_in c.args.alone.now) (view_alone c.args.alone.now)) c.args.lane c.args.request.now c.requires.may

pub read_lambda_alone-requires-clause-frames : goal.read_lambda_alone-requires-clause-frames
read_lambda_alone-requires-clause-frames g c =
    frames_of g.D.Die.seen (opening_alone opening_in c.args.alone.now) (view_alone c.args.alone.now) c.args.lane c.args.request.now c.requires.may

pub returns-in-Readl-clause-did : goal.returns-in-Readl-clause-did
returns-in-Readl-clause-did g c =
    lambda_says g.D.Die.seen (AreOfCall c.args.lane) (opening_alone opening_in c.args.alone.now) (view_alone c.args.alone.now) (view_alone c.read_lambda_alone.new.alone) c.args.lane c.args.request.now c.read_lambda_alone.result c.requires.free.2.0 c.requires.may c.read_lambda_alone.ensures.did

pub write_lambda_alone-requires-clause-lane : goal.write_lambda_alone-requires-clause-lane
write_lambda_alone-requires-clause-lane g c =
    free_of (core_seen (core_of g.D.Die.seen) (opening_alone opening_in c.args.alone.now) (view_alone c.args.alone.now)) c.args.lane c.args.request.now c.requires.may

pub write_lambda_alone-requires-clause-alone : goal.write_lambda_alone-requires-clause-alone
write_lambda_alone-requires-clause-alone g c =
    alone_of (core_seen (core_of g.D.Die.seen) (opening_alone opening_in c.args.alone.now) (view_alone c.args.alone.now)) c.args.lane c.args.request.now c.requires.may

pub write_lambda_alone-requires-clause-frames : goal.write_lambda_alone-requires-clause-frames
write_lambda_alone-requires-clause-frames g c =
    frames_of g.D.Die.seen (opening_alone opening_in c.args.alone.now) (view_alone c.args.alone.now) c.args.lane c.args.request.now c.requires.may

pub returns-in-Writel-clause-did : goal.returns-in-Writel-clause-did
returns-in-Writel-clause-did g c =
    lambda_says g.D.Die.seen (AreOfCall c.args.lane) (opening_alone opening_in c.args.alone.now) (view_alone c.args.alone.now) (view_alone c.write_lambda_alone.new.alone) c.args.lane c.args.request.now c.write_lambda_alone.result c.requires.free.2.0 c.requires.may c.write_lambda_alone.ensures.did
