use Rattle.system_state.specs.Cores.{core_of}
use Rattle.desk_turns.specs.Passing.{core_seen}
use Rattle.sync_calls.proofs.InSync.{ends_sync}
use Rattle.sync_calls.proofs.Stepping.{end_says}
use Rattle.sync_calls.proofs.end.finish.Goals as goal

pub turn_end_sync-requires-clause-hands : goal.turn_end_sync-requires-clause-hands
turn_end_sync-requires-clause-hands g c = c.requires.at.none

pub turn_end_sync-requires-clause-ends : goal.turn_end_sync-requires-clause-ends
turn_end_sync-requires-clause-ends g c =
    let at = c.requires.at in
    ends_sync c.args.fault (core_seen (core_of g.D.Die.seen) (g.K.Desk.opening c.args.desk.now) (g.K.Desk.view c.args.desk.now)) c.args.lane c.args.request.now at.number at.call at.all

pub returns-clause-did : goal.returns-clause-did
returns-clause-did g c =
    end_says g.D.Die.seen (g.K.Desk.opening c.args.desk.now) (g.K.Desk.view c.args.desk.now) (g.K.Desk.view c.turn_end_sync.new.desk) c.args.lane c.args.request.now c.args.fault c.turn_end_sync.result c.requires.acts c.requires.at c.turn_end_sync.ensures.went c.turn_end_sync.ensures.did
