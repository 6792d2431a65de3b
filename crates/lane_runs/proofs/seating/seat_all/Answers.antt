use Rattle.std.proofs.Common.{Vec, Global, map, arith}
use Rattle.plain_files.specs.declared.calls.Request.{Request}
use Rattle.lane_runs.proofs.Seats.{mapped_long}
use Rattle.lane_runs.proofs.seating.seat_all.Goals as goal

pub returns-clause-new : goal.returns-clause-new
returns-clause-new g c =
    let lanes = map (λ (v : Vec Request Global). v.items) c.args.lanes.now in
    let long = mapped_long (λ (v : Vec Request Global). v.items) c.args.lanes.now in
    let one = c.in_ok-seat_lanes.ensures.count in
    let two = c.in_ok-seat_workers.ensures.count in
    c.in_ok-seat_flushers.ensures.new lanes (omega arith) (c.in_ok-seat_workers.ensures.new lanes (omega arith) c.in_ok-seat_lanes.ensures.new)
