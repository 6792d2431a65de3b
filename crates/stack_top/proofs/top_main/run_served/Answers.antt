use Rattle.stack_top.specs.Acts.{name_of}
use Rattle.stack_top.specs.Scripts.{run_work}
use Rattle.stack_top.specs.Moments.{edge}
use Rattle.stack_top.proofs.Causes.{decided_cause}
use Rattle.stack_top.proofs.Keeping.{decided_kept}
use Rattle.stack_top.proofs.Plans.{run_plans}
use Rattle.stack_top.proofs.top_main.run_served.Goals as goal

pub returns-clause-cause : goal.returns-clause-cause
returns-clause-cause g c =
    decided_cause (name_of c.args.asked.now.out) (run_work c.args.asked.now) c.run_at_once-plan.result (g.R.Room.faults c.run_at_once-plan.new.room) (g.R.Room.names c.run_at_once-plan.new.room)
    (edge (g.R.Room.names c.args.room.now) (g.R.Room.faults c.args.room.now) (g.O.Sink.written c.args.out.now) (g.O.Sink.faults c.args.out.now))
    (edge (g.R.Room.names c.conclude.new.room) (g.R.Room.faults c.conclude.new.room) (g.O.Sink.written c.conclude.new.out) (g.O.Sink.faults c.conclude.new.out))
    c.conclude.result (run_plans (g.R.Room.names c.args.room.now) c.args.asked.now) c.run_at_once-plan.ensures.decided c.run_at_once-plan.ensures.same c.run_at_once-plan.ensures.later c.conclude.ensures.concluded

pub returns-clause-same : goal.returns-clause-same
returns-clause-same g c =
    decided_kept (name_of c.args.asked.now.out) (run_work c.args.asked.now) c.run_at_once-plan.result (g.R.Room.faults c.run_at_once-plan.new.room) (g.R.Room.names c.run_at_once-plan.new.room)
    (edge (g.R.Room.names c.args.room.now) (g.R.Room.faults c.args.room.now) (g.O.Sink.written c.args.out.now) (g.O.Sink.faults c.args.out.now))
    (edge (g.R.Room.names c.conclude.new.room) (g.R.Room.faults c.conclude.new.room) (g.O.Sink.written c.conclude.new.out) (g.O.Sink.faults c.conclude.new.out))
    c.conclude.result (run_plans (g.R.Room.names c.args.room.now) c.args.asked.now) c.run_at_once-plan.ensures.decided c.run_at_once-plan.ensures.same c.run_at_once-plan.ensures.later c.conclude.ensures.concluded
