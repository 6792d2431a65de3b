use Rattle.std.proofs.Common.{Ok, sym, subst}
use Rattle.turn_cell.specs.Events.{events_of}
use Rattle.core_state.specs.History.{calls_of}
use Rattle.system_state.specs.Cores.{core_of}
use Rattle.desk_turns.specs.Passing.{core_seen, Turn, Does}
use Rattle.quick_calls.specs.Beginning.{BeginSays}
use Rattle.quick_calls.specs.Making.{IsFree}
use Rattle.job_turns.specs.Starting.{StartSays}
use Rattle.call_begins.specs.Steps.{StepSays, JobSays}
use Rattle.call_begins.specs.declared.step.Stage.TheVariants.{Idle}
use Rattle.call_begins.specs.declared.step.BeginStep.TheVariants.{Waits}
use Rattle.call_begins.proofs.Stepping.{began_step, job_begun, waits_step, room_step, still_free, refused_told, begins_at}
use Rattle.call_begins.proofs.step.step_idle.Goals as goal

pub step_room-requires-clause-lane : goal.step_room-requires-clause-lane
step_room-requires-clause-lane g c =
    let o = g.K.Desk.opening c.args.desk.now in
    let v = g.K.Desk.view c.args.desk.now in
    let u = g.K.Desk.view c.turn_begin_job.new.desk in
    let request = c.args.prepared.now.job.request in
    let picked = c.turn_begin_job.new.prepared.picked in
    let t = subst (λ r. Turn (core_of g.D.Die.seen) o v u (BeginSays c.args.lane request picked r)) c.in-Err.is c.in_ok-answer.ensures.did in
    subst (λ z. IsFree (core_seen (core_of g.D.Die.seen) z u) c.args.lane) (sym c.turn_begin_job.ensures.turn.1)
    (still_free g.D.Die.seen o v u c.args.lane request picked c.in-Err.why c.requires.acts c.requires.lane t)

pub returns-in-Ok-clause-did : goal.returns-in-Ok-clause-did
returns-in-Ok-clause-did g c =
    let o = g.K.Desk.opening c.args.desk.now in
    let v = g.K.Desk.view c.args.desk.now in
    let u = g.K.Desk.view c.turn_begin_job.new.desk in
    let request = c.args.prepared.now.job.request in
    let picked = c.turn_begin_job.new.prepared.picked in
    let t = subst (λ r. Turn (core_of g.D.Die.seen) o v u (BeginSays c.args.lane request picked r)) c.in-Ok.is c.in_ok-answer.ensures.did in
    subst (λ s. Does v u (StepSays g.D.Die.seen o v u c.args.lane request Idle (Ok s))) (sym c.began.ensures)
    (began_step g.D.Die.seen o v u c.args.lane request picked c.in-Ok.begun c.requires.acts c.requires.lane t)

pub returns-in-Ok-clause-numbered : goal.returns-in-Ok-clause-numbered
returns-in-Ok-clause-numbered g c = λ n is.
    c.in_ok-answer.ensures.numbered n (refused_told c.in_ok-answer.answer c.in-Ok.begun c.began.result n c.in-Ok.is c.began.ensures is)

pub returns-then-lacks_room-clause-did : goal.returns-then-lacks_room-clause-did
returns-then-lacks_room-clause-did g c =
    let o = g.K.Desk.opening c.args.desk.now in
    let v = g.K.Desk.view c.args.desk.now in
    let u = g.K.Desk.view c.turn_begin_job.new.desk in
    let w = g.K.Desk.view c.step_room.new.desk in
    let request = c.args.prepared.now.job.request in
    let picked = c.turn_begin_job.new.prepared.picked in
    let t = subst (λ r. Turn (core_of g.D.Die.seen) o v u (BeginSays c.args.lane request picked r)) c.in-Err.is c.in_ok-answer.ensures.did in
    room_step g.D.Die.seen o (g.K.Desk.opening c.turn_begin_job.new.desk) v u w c.args.lane request picked c.in-Err.why c.step_room.result c.turn_begin_job.ensures.turn.1 c.requires.acts c.requires.lane (cc) t c.step_room.ensures.did

pub returns-else-lacks_room-clause-did : goal.returns-else-lacks_room-clause-did
returns-else-lacks_room-clause-did g c =
    let o = g.K.Desk.opening c.args.desk.now in
    let v = g.K.Desk.view c.args.desk.now in
    let u = g.K.Desk.view c.turn_begin_job.new.desk in
    let request = c.args.prepared.now.job.request in
    let picked = c.turn_begin_job.new.prepared.picked in
    let t = subst (λ r. Turn (core_of g.D.Die.seen) o v u (BeginSays c.args.lane request picked r)) c.in-Err.is c.in_ok-answer.ensures.did in
    waits_step g.D.Die.seen o v u c.args.lane request picked c.in-Err.why c.requires.acts c.requires.lane (cc) t

pub returns-in-Ok-clause-job : goal.returns-in-Ok-clause-job
returns-in-Ok-clause-job g c =
    let o = g.K.Desk.opening c.args.desk.now in
    let u = g.K.Desk.view c.turn_begin_job.new.desk in
    let old = c.args.prepared.now.job in
    let new = c.turn_begin_job.new.prepared.job in
    let says = subst (λ r. StartSays (core_seen (core_of g.D.Die.seen) o u) c.args.lane old new r) c.in-Ok.is c.in_ok-answer.ensures.job in
    subst (λ s. JobSays (core_seen (core_of g.D.Die.seen) o u) c.args.lane old new (Ok s)) (sym c.began.ensures) (job_begun (core_seen (core_of g.D.Die.seen) o u) c.args.lane old new c.in-Ok.begun says)

pub returns-in-Ok-clause-begins : goal.returns-in-Ok-clause-begins
returns-in-Ok-clause-begins g c =
    let o = g.K.Desk.opening c.args.desk.now in
    let v = g.K.Desk.view c.args.desk.now in
    let u = g.K.Desk.view c.turn_begin_job.new.desk in
    let request = c.args.prepared.now.job.request in
    let picked = c.turn_begin_job.new.prepared.picked in
    begins_at g.D.Die.seen o v u (BeginSays c.args.lane request picked c.in_ok-answer.answer) (Ok c.began.result) c.in_ok-answer.ensures.did

pub returns-then-lacks_room-clause-begins : goal.returns-then-lacks_room-clause-begins
returns-then-lacks_room-clause-begins g c =
    let o = g.K.Desk.opening c.args.desk.now in
    let v = g.K.Desk.view c.args.desk.now in
    let u = g.K.Desk.view c.turn_begin_job.new.desk in
    let request = c.args.prepared.now.job.request in
    let picked = c.turn_begin_job.new.prepared.picked in
    begins_at g.D.Die.seen o v u (BeginSays c.args.lane request picked c.in_ok-answer.answer) c.step_room.result c.in_ok-answer.ensures.did

pub returns-else-lacks_room-clause-begins : goal.returns-else-lacks_room-clause-begins
returns-else-lacks_room-clause-begins g c =
    let o = g.K.Desk.opening c.args.desk.now in
    let v = g.K.Desk.view c.args.desk.now in
    let u = g.K.Desk.view c.turn_begin_job.new.desk in
    let request = c.args.prepared.now.job.request in
    let picked = c.turn_begin_job.new.prepared.picked in
    begins_at g.D.Die.seen o v u (BeginSays c.args.lane request picked c.in_ok-answer.answer) (Ok Waits) c.in_ok-answer.ensures.did
