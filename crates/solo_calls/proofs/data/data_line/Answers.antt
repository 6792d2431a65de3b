use Rattle.turn_cell.specs.Desks.{view_alone, opening_alone}
use Rattle.system_state.specs.Cores.{core_of}
use Rattle.desk_turns.specs.Passing.{core_seen}
use Rattle.lambda_calls.specs.Books.{opening_in}
use Rattle.solo_calls.proofs.Lines.{free_of, alone_of, frames_of, data_says}
use Rattle.solo_calls.proofs.data.data_line.Goals as goal

pub read_call_alone-requires-clause-lane : goal.read_call_alone-requires-clause-lane
read_call_alone-requires-clause-lane g c =
    free_of (core_seen (core_of g.D.Die.seen) (opening_alone opening_in c.args.alone.now) (view_alone c.args.alone.now)) c.args.lane c.args.request.now c.requires.may

pub read_call_alone-requires-clause-alone : goal.read_call_alone-requires-clause-alone
read_call_alone-requires-clause-alone g c =
    alone_of (core_seen (core_of g.D.Die.seen) (opening_alone opening_in c.args.alone.now) (view_alone c.args.alone.now)) c.args.lane c.args.request.now c.requires.may

pub read_call_alone-requires-clause-frames : goal.read_call_alone-requires-clause-frames
read_call_alone-requires-clause-frames g c =
    frames_of g.D.Die.seen (opening_alone opening_in c.args.alone.now) (view_alone c.args.alone.now) c.args.lane c.args.request.now c.requires.may

pub returns-in-Read-clause-did : goal.returns-in-Read-clause-did
returns-in-Read-clause-did g c =
    data_says g.D.Die.seen (opening_alone opening_in c.args.alone.now) (view_alone c.args.alone.now) (view_alone c.read_call_alone.new.alone) c.args.lane c.args.request.now c.read_call_alone.result c.requires.free.2.0 c.requires.may c.read_call_alone.ensures.did

pub write_call_alone-requires-clause-lane : goal.write_call_alone-requires-clause-lane
write_call_alone-requires-clause-lane g c =
    free_of (core_seen (core_of g.D.Die.seen) (opening_alone opening_in c.args.alone.now) (view_alone c.args.alone.now)) c.args.lane c.args.request.now c.requires.may

pub write_call_alone-requires-clause-alone : goal.write_call_alone-requires-clause-alone
write_call_alone-requires-clause-alone g c =
    alone_of (core_seen (core_of g.D.Die.seen) (opening_alone opening_in c.args.alone.now) (view_alone c.args.alone.now)) c.args.lane c.args.request.now c.requires.may

pub write_call_alone-requires-clause-frames : goal.write_call_alone-requires-clause-frames
write_call_alone-requires-clause-frames g c =
    frames_of g.D.Die.seen (opening_alone opening_in c.args.alone.now) (view_alone c.args.alone.now) c.args.lane c.args.request.now c.requires.may

pub returns-in-Write-clause-did : goal.returns-in-Write-clause-did
returns-in-Write-clause-did g c =
    data_says g.D.Die.seen (opening_alone opening_in c.args.alone.now) (view_alone c.args.alone.now) (view_alone c.write_call_alone.new.alone) c.args.lane c.args.request.now c.write_call_alone.result c.requires.free.2.0 c.requires.may c.write_call_alone.ensures.did

pub append_call_alone-requires-clause-lane : goal.append_call_alone-requires-clause-lane
append_call_alone-requires-clause-lane g c =
    free_of (core_seen (core_of g.D.Die.seen) (opening_alone opening_in c.args.alone.now) (view_alone c.args.alone.now)) c.args.lane c.args.request.now c.requires.may

pub append_call_alone-requires-clause-alone : goal.append_call_alone-requires-clause-alone
append_call_alone-requires-clause-alone g c =
    alone_of (core_seen (core_of g.D.Die.seen) (opening_alone opening_in c.args.alone.now) (view_alone c.args.alone.now)) c.args.lane c.args.request.now c.requires.may

pub append_call_alone-requires-clause-frames : goal.append_call_alone-requires-clause-frames
append_call_alone-requires-clause-frames g c =
    frames_of g.D.Die.seen (opening_alone opening_in c.args.alone.now) (view_alone c.args.alone.now) c.args.lane c.args.request.now c.requires.may

pub returns-in-Append-clause-did : goal.returns-in-Append-clause-did
returns-in-Append-clause-did g c =
    data_says g.D.Die.seen (opening_alone opening_in c.args.alone.now) (view_alone c.args.alone.now) (view_alone c.append_call_alone.new.alone) c.args.lane c.args.request.now c.append_call_alone.result c.requires.free.2.0 c.requires.may c.append_call_alone.ensures.did

pub trunc_call_alone-requires-clause-lane : goal.trunc_call_alone-requires-clause-lane
trunc_call_alone-requires-clause-lane g c =
    free_of (core_seen (core_of g.D.Die.seen) (opening_alone opening_in c.args.alone.now) (view_alone c.args.alone.now)) c.args.lane c.args.request.now c.requires.may

pub trunc_call_alone-requires-clause-alone : goal.trunc_call_alone-requires-clause-alone
trunc_call_alone-requires-clause-alone g c =
    alone_of (core_seen (core_of g.D.Die.seen) (opening_alone opening_in c.args.alone.now) (view_alone c.args.alone.now)) c.args.lane c.args.request.now c.requires.may

pub trunc_call_alone-requires-clause-frames : goal.trunc_call_alone-requires-clause-frames
trunc_call_alone-requires-clause-frames g c =
    frames_of g.D.Die.seen (opening_alone opening_in c.args.alone.now) (view_alone c.args.alone.now) c.args.lane c.args.request.now c.requires.may

pub returns-in-Trunc-clause-did : goal.returns-in-Trunc-clause-did
returns-in-Trunc-clause-did g c =
    data_says g.D.Die.seen (opening_alone opening_in c.args.alone.now) (view_alone c.args.alone.now) (view_alone c.trunc_call_alone.new.alone) c.args.lane c.args.request.now c.trunc_call_alone.result c.requires.free.2.0 c.requires.may c.trunc_call_alone.ensures.did
