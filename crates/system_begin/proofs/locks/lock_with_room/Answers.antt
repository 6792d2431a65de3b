use Rattle.std.proofs.Common.{◌≡◌, ◌+◌, ◌<◌, arith}
use Rattle.range_locks.specs.Held.{least_conflict}
use Rattle.system_begin.specs.Begun.{range_at}
use Rattle.system_begin.proofs.Locking.{found_none, waits_room, given_back}
use Rattle.system_begin.proofs.locks.lock_with_room.Goals as goal

pub returns-then-from-clause-not_yet : goal.returns-then-from-clause-not_yet
returns-then-from-clause-not_yet c =
    let r = range_at c.args.names.now.files c.args.file c.args.reach.now in
    let t = c.if-from.true in
    let u = c.from.ensures in
    let n = c.from-2.ensures in
    let f = c.from-3.ensures in
    let over : c.args.room.frames < c.args.room.used + c.args.room.need = omega arith in (
      waits_room _ c.args.room.used c.args.room.need c.args.room.frames (found_none c.args.locks (least_conflict r c.args.ranges.now) c.in_default.ensures.ok.0) over,
      given_back c.args.locks c.args.ranges.now c.lock_pages.new.ranges c.unlock_pages.new.ranges c.args.lane r c.in_default.ensures.ok.1 c.unlock_pages.ensures c.requires.free c.requires.lane,
    )
