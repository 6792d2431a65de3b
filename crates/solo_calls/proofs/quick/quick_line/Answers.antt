use Rattle.turn_cell.specs.Desks.{view_alone, opening_alone}
use Rattle.system_state.specs.Cores.{core_of}
use Rattle.desk_turns.specs.Passing.{core_seen}
use Rattle.lambda_calls.specs.Books.{opening_in}
use Rattle.solo_calls.proofs.Lines.{free_of, alone_of, quick_says, skip_says}
use Rattle.solo_calls.proofs.quick.quick_line.Goals as goal

pub quick_call_alone-requires-clause-lane : goal.quick_call_alone-requires-clause-lane
quick_call_alone-requires-clause-lane g c =
    free_of (core_seen (core_of g.D.Die.seen) (opening_alone opening_in c.args.alone.now) (view_alone c.args.alone.now)) c.args.lane c.args.request.now c.requires.may

pub quick_call_alone-requires-clause-alone : goal.quick_call_alone-requires-clause-alone
quick_call_alone-requires-clause-alone g c =
    alone_of (core_seen (core_of g.D.Die.seen) (opening_alone opening_in c.args.alone.now) (view_alone c.args.alone.now)) c.args.lane c.args.request.now c.requires.may

pub skip_call_alone-requires-clause-hands : goal.skip_call_alone-requires-clause-hands
skip_call_alone-requires-clause-hands g c =
    (free_of (core_seen (core_of g.D.Die.seen) (opening_alone opening_in c.args.alone.now) (view_alone c.args.alone.now)) c.args.lane c.args.request.now c.requires.may).none

pub skip_call_alone-requires-clause-idle : goal.skip_call_alone-requires-clause-idle
skip_call_alone-requires-clause-idle g c =
    (free_of (core_seen (core_of g.D.Die.seen) (opening_alone opening_in c.args.alone.now) (view_alone c.args.alone.now)) c.args.lane c.args.request.now c.requires.may).idle

pub skip_call_alone-requires-clause-awaited : goal.skip_call_alone-requires-clause-awaited
skip_call_alone-requires-clause-awaited g c =
    c.requires.may.awaited

pub returns-in-Ok-clause-did : goal.returns-in-Ok-clause-did
returns-in-Ok-clause-did g c =
    quick_says g.D.Die.seen (opening_alone opening_in c.args.alone.now) (view_alone c.args.alone.now) (view_alone c.quick_call_alone.new.alone) c.args.lane c.args.request.now c.quick_call_alone.result c.requires.free.2.0 c.quick_call_alone.ensures.did

pub returns-in-Err-clause-did : goal.returns-in-Err-clause-did
returns-in-Err-clause-did g c =
    skip_says g.D.Die.seen (opening_alone opening_in c.args.alone.now) (view_alone c.args.alone.now) (view_alone c.skip_call_alone.new.alone) c.args.lane c.args.request.now c.skip_call_alone.result c.requires.free.2.0 c.skip_call_alone.ensures.did
