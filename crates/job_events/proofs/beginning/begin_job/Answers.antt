use Rattle.call_turns.specs.Ways.{begin_event}
use Rattle.job_events.proofs.Begins.{standing_after, has_begun}
use Rattle.job_events.proofs.beginning.begin_job.Goals as goal

pub arm_if-requires-clause-standing : goal.arm_if-requires-clause-standing
arm_if-requires-clause-standing g c = standing_after g.D.Die.seen c.args.state.now c.try_begin.new.state (begin_event c.args.lane c.args.prepared.now.job.request c.in-Ok.begun) c.requires.standing c.in-Ok.ensures.stands

pub arm_if-requires-clause-begun : goal.arm_if-requires-clause-begun
arm_if-requires-clause-begun g c = λ side span is.
    has_begun g.D.Die.seen c.args.state.now c.try_begin.new.state c.args.lane c.args.prepared.now.job.request c.in-Ok.begun side span c.args.prepared.now.job c.requires.prepared c.in-Ok.ensures.made is
