use Rattle.std.proofs.Common.{◌≤◌, length, refl, arith}
use Rattle.std.specs.Prelude.{vec_capacity}
use Rattle.plain_files.specs.History.{requests_of}
use Rattle.lane_logs.specs.declared.logs.LaneLog.{LaneLog}
use Rattle.lane_logs.proofs.Logging.{noted, room_in, each_again}
use Rattle.lane_logs.proofs.logs.note.Goals as goal

pub returns-clause-logs : goal.returns-clause-logs
returns-clause-logs c = λ lanes last calls call count are.
    let new : LaneLog = record { lane = c.index_mut.result.now.lane; entries = c.push_reserved.new.self } in
    noted c.args.logs.now.items c.args.lane c.index_mut.result.now new lanes last c.args.number calls (record { lane = c.args.lane; call = call; reply = c.args.reply })
    c.requires.lane c.index_mut.ensures.value refl c.push_reserved.ensures.items count refl are

pub returns-clause-room : goal.returns-clause-room
returns-clause-room c = λ requests have.
    let new : LaneLog = record { lane = c.index_mut.result.now.lane; entries = c.push_reserved.new.self } in
    let old = c.index_mut.result.now in
    let room = have c.args.lane old (room_in c.args.logs.now.items c.args.lane old c.requires.lane c.index_mut.ensures.value) in
    let same = c.push_reserved.ensures.capacity in
    each_again (λ l log. length (requests_of requests l) ≤ vec_capacity log.entries) c.args.logs.now.items c.args.lane new c.requires.lane (omega arith) have
