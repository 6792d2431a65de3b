use Rattle.std.proofs.Common.{subst, ◌∙◌, Ok, arith}
use Rattle.core_state.specs.declared.actor.Actor.TheVariants.{Lane}
use Rattle.system_state.specs.Cores.{core_of}
use Rattle.desk_turns.specs.Passing.{core_seen}
use Rattle.desk_turns.proofs.Later.{none_kept, own_idle}
use Rattle.desk_turns.proofs.Went.{worn_went, if_err}
use Rattle.job_events.proofs.Taking.{Found, stood, found_at, gave, turned, worn_holds}
use Rattle.job_events.proofs.Keeping.{idle_kept}
use Rattle.job_events.proofs.Numbering.{last_fits, begun_fit}
use Rattle.std.specs.Result.{IsErr}
use Rattle.job_events.specs.Beginning.{BeginSays}
use Rattle.job_events.proofs.TurnBegins.{begin_did, begin_numbered}
use Rattle.core_state.specs.State.{Core}
use Rattle.call_job.specs.Suits.{Suits}
use Rattle.job_turns.specs.Starting.{StartSays}
use Rattle.job_turns.proofs.Starts.{given_core, same_state, same_request, starts}
use Rattle.job_turns.proofs.beginning.turn_begin_job.Goals as goal

pub begin_job-answer-requires-clause-hands : goal.begin_job-answer-requires-clause-hands
begin_job-answer-requires-clause-hands g c =
    let a = c.in_ok-system.ensures in
    let s = c.in_ok-system.system.state in
    let p = g.K.Desk.opening c.take.new.self in
    let q = g.K.Desk.opening c.args.desk.now in
    let v = g.K.Desk.view c.args.desk.now in
    let u = g.K.Desk.view c.take.new.self in
    let f : Found g.D.Die.seen Suits s p q v u (Lane c.args.lane) = (a.turn.1, a.ok.1, a.seen, a.between, a.alone, c.requires.acts) in
    let own = own_idle (core_seen (core_of g.D.Die.seen) q v) c.args.lane c.requires.idle.idle in
    let k = found_at g.D.Die.seen Suits s p q v u (Lane c.args.lane) f own in
    none_kept (core_seen (core_of g.D.Die.seen) q v) (core_of g.D.Die.seen s) (Lane c.args.lane) k.2 k.0 k.1 c.requires.hands

pub begin_job-answer-requires-clause-idle : goal.begin_job-answer-requires-clause-idle
begin_job-answer-requires-clause-idle g c =
    let a = c.in_ok-system.ensures in
    let s = c.in_ok-system.system.state in
    let p = g.K.Desk.opening c.take.new.self in
    let q = g.K.Desk.opening c.args.desk.now in
    let v = g.K.Desk.view c.args.desk.now in
    let u = g.K.Desk.view c.take.new.self in
    let f : Found g.D.Die.seen Suits s p q v u (Lane c.args.lane) = (a.turn.1, a.ok.1, a.seen, a.between, a.alone, c.requires.acts) in
    let own = own_idle (core_seen (core_of g.D.Die.seen) q v) c.args.lane c.requires.idle.idle in
    let k = found_at g.D.Die.seen Suits s p q v u (Lane c.args.lane) f own in
    (idle_kept (core_seen (core_of g.D.Die.seen) q v) (core_of g.D.Die.seen s) c.args.lane k.0 k.1 c.requires.idle).0

pub begin_job-answer-requires-clause-unmarked : goal.begin_job-answer-requires-clause-unmarked
begin_job-answer-requires-clause-unmarked g c =
    let a = c.in_ok-system.ensures in
    let s = c.in_ok-system.system.state in
    let p = g.K.Desk.opening c.take.new.self in
    let q = g.K.Desk.opening c.args.desk.now in
    let v = g.K.Desk.view c.args.desk.now in
    let u = g.K.Desk.view c.take.new.self in
    let f : Found g.D.Die.seen Suits s p q v u (Lane c.args.lane) = (a.turn.1, a.ok.1, a.seen, a.between, a.alone, c.requires.acts) in
    let own = own_idle (core_seen (core_of g.D.Die.seen) q v) c.args.lane c.requires.idle.idle in
    let k = found_at g.D.Die.seen Suits s p q v u (Lane c.args.lane) f own in
    (idle_kept (core_seen (core_of g.D.Die.seen) q v) (core_of g.D.Die.seen s) c.args.lane k.0 k.1 c.requires.idle).1 ∙ c.requires.unmarked

pub begin_job-answer-requires-clause-last : goal.begin_job-answer-requires-clause-last
begin_job-answer-requires-clause-last g c =
    let a = c.in_ok-system.ensures in
    let s = c.in_ok-system.system.state in
    let p = g.K.Desk.opening c.take.new.self in
    let q = g.K.Desk.opening c.args.desk.now in
    let v = g.K.Desk.view c.args.desk.now in
    let u = g.K.Desk.view c.take.new.self in
    let f : Found g.D.Die.seen Suits s p q v u (Lane c.args.lane) = (a.turn.1, a.ok.1, a.seen, a.between, a.alone, c.requires.acts) in
    let l = a.room in
    last_fits g.D.Die.seen Suits s q.value u.seen (stood g.D.Die.seen Suits s p q v u (Lane c.args.lane) f) c.requires.small.last (omega arith)

pub begin_job-answer-requires-clause-host : goal.begin_job-answer-requires-clause-host
begin_job-answer-requires-clause-host g c =
    let a = c.in_ok-system.ensures in
    let s = c.in_ok-system.system.state in
    let p = g.K.Desk.opening c.take.new.self in
    let q = g.K.Desk.opening c.args.desk.now in
    let v = g.K.Desk.view c.args.desk.now in
    let u = g.K.Desk.view c.take.new.self in
    let f : Found g.D.Die.seen Suits s p q v u (Lane c.args.lane) = (a.turn.1, a.ok.1, a.seen, a.between, a.alone, c.requires.acts) in
    let l = a.room in
    (begun_fit g.D.Die.seen Suits s q.value u.seen (stood g.D.Die.seen Suits s p q v u (Lane c.args.lane) f) c.requires.small.host c.requires.small.drive (omega arith)).0

pub begin_job-answer-requires-clause-drive : goal.begin_job-answer-requires-clause-drive
begin_job-answer-requires-clause-drive g c =
    let a = c.in_ok-system.ensures in
    let s = c.in_ok-system.system.state in
    let p = g.K.Desk.opening c.take.new.self in
    let q = g.K.Desk.opening c.args.desk.now in
    let v = g.K.Desk.view c.args.desk.now in
    let u = g.K.Desk.view c.take.new.self in
    let f : Found g.D.Die.seen Suits s p q v u (Lane c.args.lane) = (a.turn.1, a.ok.1, a.seen, a.between, a.alone, c.requires.acts) in
    let l = a.room in
    (begun_fit g.D.Die.seen Suits s q.value u.seen (stood g.D.Die.seen Suits s p q v u (Lane c.args.lane) f) c.requires.small.host c.requires.small.drive (omega arith)).1

pub give-requires-clause-stands : goal.give-requires-clause-stands
give-requires-clause-stands g c =
    let a = c.in_ok-system.ensures in
    let s = c.in_ok-system.system.state in
    let p = g.K.Desk.opening c.take.new.self in
    let q = g.K.Desk.opening c.args.desk.now in
    let v = g.K.Desk.view c.args.desk.now in
    let u = g.K.Desk.view c.take.new.self in
    let f : Found g.D.Die.seen Suits s p q v u (Lane c.args.lane) = (a.turn.1, a.ok.1, a.seen, a.between, a.alone, c.requires.acts) in
    let d = begin_did g.D.Die.seen Suits c.args.lane c.args.prepared.now.job.request c.begin_job-answer.new.prepared.picked s c.begin_job-answer.new.state p u c.begin_job-answer.result a.ok.1 c.begin_job-answer.ensures.way c.begin_job-answer.ensures.number c.begin_job-answer.ensures.stands c.begin_job-answer.ensures.picked (same_state s c.begin_job-answer.new.state c.args.prepared.now.job c.begin_job-answer.new.prepared.job c.begin_job-answer.result c.begin_job-answer.ensures.same) in
    gave g.D.Die.seen Suits s c.begin_job-answer.new.state p q v u (Lane c.args.lane) ((BeginSays c.args.lane c.args.prepared.now.job.request c.begin_job-answer.new.prepared.picked c.begin_job-answer.result) (core_of g.D.Die.seen s)) f d

pub returns-clause-did : goal.returns-clause-did
returns-clause-did g c =
    let a = c.in_ok-system.ensures in
    let s = c.in_ok-system.system.state in
    let p = g.K.Desk.opening c.take.new.self in
    let q = g.K.Desk.opening c.args.desk.now in
    let v = g.K.Desk.view c.args.desk.now in
    let u = g.K.Desk.view c.take.new.self in
    let f : Found g.D.Die.seen Suits s p q v u (Lane c.args.lane) = (a.turn.1, a.ok.1, a.seen, a.between, a.alone, c.requires.acts) in
    let d = begin_did g.D.Die.seen Suits c.args.lane c.args.prepared.now.job.request c.begin_job-answer.new.prepared.picked s c.begin_job-answer.new.state p u c.begin_job-answer.result a.ok.1 c.begin_job-answer.ensures.way c.begin_job-answer.ensures.number c.begin_job-answer.ensures.stands c.begin_job-answer.ensures.picked (same_state s c.begin_job-answer.new.state c.args.prepared.now.job c.begin_job-answer.new.prepared.job c.begin_job-answer.result c.begin_job-answer.ensures.same) in
    turned g.D.Die.seen Suits s c.begin_job-answer.new.state p q v u (g.K.Desk.view c.give.new.self) (Lane c.args.lane) (BeginSays c.args.lane c.args.prepared.now.job.request c.begin_job-answer.new.prepared.picked c.begin_job-answer.result) f d c.give.ensures.seen

pub returns-clause-job : goal.returns-clause-job
returns-clause-job g c =
    let a = c.in_ok-system.ensures in
    let s = c.in_ok-system.system.state in
    let p = g.K.Desk.opening c.take.new.self in
    let q = g.K.Desk.opening c.args.desk.now in
    let v = g.K.Desk.view c.args.desk.now in
    let u = g.K.Desk.view c.take.new.self in
    let f : Found g.D.Die.seen Suits s p q v u (Lane c.args.lane) = (a.turn.1, a.ok.1, a.seen, a.between, a.alone, c.requires.acts) in
    let d = begin_did g.D.Die.seen Suits c.args.lane c.args.prepared.now.job.request c.begin_job-answer.new.prepared.picked s c.begin_job-answer.new.state p u c.begin_job-answer.result a.ok.1 c.begin_job-answer.ensures.way c.begin_job-answer.ensures.number c.begin_job-answer.ensures.stands c.begin_job-answer.ensures.picked (same_state s c.begin_job-answer.new.state c.args.prepared.now.job c.begin_job-answer.new.prepared.job c.begin_job-answer.result c.begin_job-answer.ensures.same) in
    let own = own_idle (core_seen (core_of g.D.Die.seen) q v) c.args.lane c.requires.idle.idle in
    let k = found_at g.D.Die.seen Suits s p q v u (Lane c.args.lane) f own in
    let unmarked = (idle_kept (core_seen (core_of g.D.Die.seen) q v) (core_of g.D.Die.seen s) c.args.lane k.0 k.1 c.requires.idle).1 ∙ c.requires.unmarked in
    let at = given_core g.D.Die.seen Suits s c.begin_job-answer.new.state p q v u (g.K.Desk.view c.give.new.self) (Lane c.args.lane) ((BeginSays c.args.lane c.args.prepared.now.job.request c.begin_job-answer.new.prepared.picked c.begin_job-answer.result) (core_of g.D.Die.seen s)) f.0 d c.give.ensures.seen in
    subst (λ (z : Core). StartSays z c.args.lane c.args.prepared.now.job c.begin_job-answer.new.prepared.job c.begin_job-answer.result) at
    (starts g.D.Die.seen s c.begin_job-answer.new.state c.args.lane c.args.prepared.now.job.request c.args.prepared.now.job c.begin_job-answer.new.prepared.job c.begin_job-answer.result unmarked c.begin_job-answer.ensures.made c.begin_job-answer.ensures.armed c.begin_job-answer.ensures.same)

pub returns-clause-request : goal.returns-clause-request
returns-clause-request g c =
    let s = c.in_ok-system.system.state in
    let b = c.begin_job-answer in
    same_request g.D.Die.seen s b.new.state c.args.lane c.args.prepared.now.job b.new.prepared.job b.result b.ensures.made b.ensures.armed b.ensures.same

pub returns-clause-numbered : goal.returns-clause-numbered
returns-clause-numbered g c =
    let a = c.in_ok-system.ensures in
    let s = c.in_ok-system.system.state in
    let p = g.K.Desk.opening c.take.new.self in
    let q = g.K.Desk.opening c.args.desk.now in
    let v = g.K.Desk.view c.args.desk.now in
    let u = g.K.Desk.view c.take.new.self in
    let f : Found g.D.Die.seen Suits s p q v u (Lane c.args.lane) = (a.turn.1, a.ok.1, a.seen, a.between, a.alone, c.requires.acts) in
    let d = begin_did g.D.Die.seen Suits c.args.lane c.args.prepared.now.job.request c.begin_job-answer.new.prepared.picked s c.begin_job-answer.new.state p u c.begin_job-answer.result a.ok.1 c.begin_job-answer.ensures.way c.begin_job-answer.ensures.number c.begin_job-answer.ensures.stands c.begin_job-answer.ensures.picked (same_state s c.begin_job-answer.new.state c.args.prepared.now.job c.begin_job-answer.new.prepared.job c.begin_job-answer.result c.begin_job-answer.ensures.same) in
    let t = turned g.D.Die.seen Suits s c.begin_job-answer.new.state p q v u (g.K.Desk.view c.give.new.self) (Lane c.args.lane) (BeginSays c.args.lane c.args.prepared.now.job.request c.begin_job-answer.new.prepared.picked c.begin_job-answer.result) f d c.give.ensures.seen in
    λ n is. begin_numbered g.D.Die.seen Suits c.args.lane c.args.prepared.now.job.request c.begin_job-answer.new.prepared.picked q v (g.K.Desk.view c.give.new.self) (Ok c.begin_job-answer.result) n is t

pub returns-in_err-system-clause-numbered : goal.returns-in_err-system-clause-numbered
returns-in_err-system-clause-numbered g c =
    λ n is. let e = c.from_residual.ensures.0 in let z = subst IsErr is e in absurd (cc)

pub returns-in_err-system-clause-went : goal.returns-in_err-system-clause-went
returns-in_err-system-clause-went g c =
    let a = c.in_err-system.ensures in
    if_err c.from_residual.result (worn_went (g.K.Desk.view c.args.desk.now) (g.K.Desk.view c.take.new.self) a.seen a.alone)

pub returns-in_err-system-clause-kept : goal.returns-in_err-system-clause-kept
returns-in_err-system-clause-kept g c =
    let a = c.in_err-system.ensures in
    let p = g.K.Desk.opening c.take.new.self in
    let q = g.K.Desk.opening c.args.desk.now in
    let v = g.K.Desk.view c.args.desk.now in
    let u = g.K.Desk.view c.take.new.self in
    worn_holds g.D.Die.seen Suits c.from_residual.result p q v u (Lane c.args.lane) a.turn.1 a.stood a.seen a.between a.alone c.requires.acts
    (own_idle (core_seen (core_of g.D.Die.seen) q v) c.args.lane c.requires.idle.idle)
