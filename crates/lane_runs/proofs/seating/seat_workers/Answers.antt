use Rattle.std.proofs.Common.{arith}
use Rattle.lane_runs.proofs.seating.seat_workers.Goals as goal

pub loop-worker-preserved : goal.loop-worker-preserved
loop-worker-preserved g c =
    let i = c.loop-worker.invariant in
    let s = c.in_ok-seat.ensures in
    let more = s.more in
    let long = i.1 in
    (s.root, omega arith, λ lanes few all. s.new lanes (omega arith) (i.2 lanes few all))
