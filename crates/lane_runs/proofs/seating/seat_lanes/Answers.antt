use Rattle.std.proofs.Common.{◌<◌, ◌^◌, Vec, Global, length, map, sym, ◌∙◌, subst, arith}
use Rattle.std.specs.Prelude.{slice_index_or}
use Rattle.plain_files.specs.declared.calls.Request.{Request}
use Rattle.lane_runs.proofs.Seats.{placed_lane, untouched_on, at_first}
use Rattle.lane_runs.proofs.seating.seat_lanes.Goals as goal

pub loop-requests-preserved : goal.loop-requests-preserved
loop-requests-preserved g c =
    let i = c.loop-requests.invariant in
    let s = c.in_ok-seat.ensures in
    let k = c.loop-requests.requests-index in
    let olds = c.args.lanes.now in
    let xs = c.loop-requests.lanes in
    let it = c.requests-item.result in
    let item = slice_index_or xs k it in
    let low : k < length olds = c.loop-requests-test.true in
    let within : k < length xs = omega arith in
    let first = at_first olds xs k it low within i.3 in
    let more = s.more in
    let here = i.1 in
    let same = i.2 in (
      s.root,
      omega arith,
      omega arith,
      untouched_on olds xs k c.moved_out.new.requests i.3,
      s.new (map (λ v. v.items) olds) (placed_lane (λ (v : Vec Request Global). v.items) olds k c.loop-requests.lane (length c.loop-requests.posts.items) item c.moved_out.result low (first item) c.moved_out.ensures i.1 i.2) i.4,
    )

pub seat-requires-clause-few : goal.seat-requires-clause-few
seat-requires-clause-few g c =
    let k = c.loop-requests.requests-index in
    let olds = c.args.lanes.now in
    let xs = c.loop-requests.lanes in
    let it = c.requests-item.result in
    let item = slice_index_or xs k it in
    let low : k < length olds = c.loop-requests-test.true in
    let within : k < length xs = omega arith in
    let first = at_first olds xs k it low within c.loop-requests.invariant.3 in
    subst (λ (v : Vec Request Global). length v.items < 2 ^ 32) (first item ∙ sym c.moved_out.ensures) (c.requires.short k item low)
