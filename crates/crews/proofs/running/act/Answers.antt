use Rattle.std.proofs.Common.{subst}
use Rattle.core_state.specs.declared.actor.Actor.{Actor}
use Rattle.system_state.specs.Cores.{core_of}
use Rattle.desk_turns.specs.Passing.{ActsFor}
use Rattle.crews.specs.Seats.{view_at, opening_at}
use Rattle.crews.proofs.PostRuns.{outside_at, unbusy_at, flusher_acted}
use Rattle.crews.proofs.running.act.Goals as goal

pub run_lane-requires-clause-acts : goal.run_lane-requires-clause-acts
run_lane-requires-clause-acts g c κs within = subst (λ (a : Actor). ActsFor (core_of g.D.Die.seen) (opening_at c.args.desk.now) (view_at c.args.desk.now) a) c.in-Lane.is c.requires.acts

pub run_lane-requires-clause-lane : goal.run_lane-requires-clause-lane
run_lane-requires-clause-lane g c κs within =
    outside_at (core_of g.D.Die.seen) (opening_at c.args.desk.now).value.last (opening_at c.args.desk.now) (view_at c.args.desk.now) c.args.post.now.actor c.in-Lane.lane c.in-Lane.is c.requires.free.2 c.requires.saw c.requires.untouched c.requires.acts

pub returns-in-Flusher-clause-did : goal.returns-in-Flusher-clause-did
returns-in-Flusher-clause-did g c =
    flusher_acted g.D.Die.seen (opening_at c.args.desk.now) (view_at c.args.desk.now) (view_at c.flusher_loop.new.desk) c.args.post.now.actor c.in-Flusher.flusher c.args.post.now.requests.items c.args.post.now.log.items c.flusher_loop.result c.in-Flusher.is c.flusher_loop.ensures.did

pub work-requires-clause-unbusy : goal.work-requires-clause-unbusy
work-requires-clause-unbusy g c =
    unbusy_at (core_of g.D.Die.seen) (opening_at c.args.desk.now).value.last (opening_at c.args.desk.now) (view_at c.args.desk.now) c.in-Worker.worker c.requires.saw c.requires.untouched
