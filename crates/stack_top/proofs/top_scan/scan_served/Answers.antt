use Rattle.std.proofs.Common.{None}
use Rattle.stack_top.specs.Commands.{serves}
use Rattle.stack_top.specs.Scanning.{scan_work}
use Rattle.stack_top.specs.Moments.{edge}
use Rattle.stack_top.proofs.Causes.{decided_cause}
use Rattle.stack_top.proofs.Keeping.{decided_kept}
use Rattle.stack_top.proofs.Plans.{any_plans, scan_plans}
use Rattle.stack_top.proofs.top_scan.scan_served.Goals as goal

pub returns-clause-cause : goal.returns-clause-cause
returns-clause-cause g c =
    decided_cause None (scan_work c.args.asked.now) c.scan-plan.result (g.R.Room.faults c.scan-plan.new.room) (g.R.Room.names c.scan-plan.new.room)
    (edge (g.R.Room.names c.args.room.now) (g.R.Room.faults c.args.room.now) (g.O.Sink.written c.args.out.now) (g.O.Sink.faults c.args.out.now))
    (edge (g.R.Room.names c.conclude.new.room) (g.R.Room.faults c.conclude.new.room) (g.O.Sink.written c.conclude.new.out) (g.O.Sink.faults c.conclude.new.out))
    c.conclude.result (any_plans (g.R.Room.names c.args.room.now) None (serves (scan_work c.args.asked.now)) (scan_plans (g.R.Room.names c.args.room.now) c.args.asked.now)) c.scan-plan.ensures.decided c.scan-plan.ensures.same c.scan-plan.ensures.later c.conclude.ensures.concluded

pub returns-clause-same : goal.returns-clause-same
returns-clause-same g c =
    decided_kept None (scan_work c.args.asked.now) c.scan-plan.result (g.R.Room.faults c.scan-plan.new.room) (g.R.Room.names c.scan-plan.new.room)
    (edge (g.R.Room.names c.args.room.now) (g.R.Room.faults c.args.room.now) (g.O.Sink.written c.args.out.now) (g.O.Sink.faults c.args.out.now))
    (edge (g.R.Room.names c.conclude.new.room) (g.R.Room.faults c.conclude.new.room) (g.O.Sink.written c.conclude.new.out) (g.O.Sink.faults c.conclude.new.out))
    c.conclude.result (any_plans (g.R.Room.names c.args.room.now) None (serves (scan_work c.args.asked.now)) (scan_plans (g.R.Room.names c.args.room.now) c.args.asked.now)) c.scan-plan.ensures.decided c.scan-plan.ensures.same c.scan-plan.ensures.later c.conclude.ensures.concluded
