use Rattle.turn_cell.specs.Desks.{view_alone, opening_alone}
use Rattle.system_state.specs.Cores.{core_of}
use Rattle.desk_turns.specs.Passing.{core_seen}
use Rattle.lambda_calls.specs.Books.{opening_in}
use Rattle.solo_calls.proofs.Lines.{free_of, alone_of, sync_says}
use Rattle.solo_calls.proofs.sync.sync_line.Goals as goal

pub sync_call_alone-requires-clause-lane : goal.sync_call_alone-requires-clause-lane
sync_call_alone-requires-clause-lane g c =
    free_of (core_seen (core_of g.D.Die.seen) (opening_alone opening_in c.args.alone.now) (view_alone c.args.alone.now)) c.args.lane c.args.request.now c.requires.may

pub sync_call_alone-requires-clause-alone : goal.sync_call_alone-requires-clause-alone
sync_call_alone-requires-clause-alone g c =
    alone_of (core_seen (core_of g.D.Die.seen) (opening_alone opening_in c.args.alone.now) (view_alone c.args.alone.now)) c.args.lane c.args.request.now c.requires.may

pub returns-clause-did : goal.returns-clause-did
returns-clause-did g c =
    sync_says g.D.Die.seen (opening_alone opening_in c.args.alone.now) (view_alone c.args.alone.now) (view_alone c.sync_call_alone.new.alone) c.args.lane c.args.request.now c.sync_call_alone.result c.requires.free.2.0 c.requires.may c.sync_call_alone.ensures.did
