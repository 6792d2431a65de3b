use Rattle.std.proofs.Common.{subst, Ok, arith}
use Rattle.core_state.specs.declared.actor.Actor.TheVariants.{Lane}
use Rattle.system_state.specs.Cores.{core_of}
use Rattle.desk_turns.specs.Passing.{core_seen}
use Rattle.desk_turns.proofs.Went.{worn_went, if_err}
use Rattle.job_events.proofs.Taking.{Found, stood, gave, turned}
use Rattle.job_events.proofs.Numbering.{last_fits, versions_fit}
use Rattle.std.specs.Result.{IsErr}
use Rattle.call_job.specs.Suits.{Suits}
use Rattle.job_turns.specs.Collecting.{CollectSays}
use Rattle.job_turns.proofs.Collects.{waits_found, worn_waits, none_waits, away_waits, collect_did, collect_numbered}
use Rattle.job_turns.proofs.collecting.turn_collect_job.Goals as goal

pub try_collect_job-answer-requires-clause-hands : goal.try_collect_job-answer-requires-clause-hands
try_collect_job-answer-requires-clause-hands g c =
    let a = c.in_ok-system.ensures in
    let s = c.in_ok-system.system.state in
    let p = g.K.Desk.opening c.take.new.self in
    let q = g.K.Desk.opening c.args.desk.now in
    let v = g.K.Desk.view c.args.desk.now in
    let u = g.K.Desk.view c.take.new.self in
    let f : Found g.D.Die.seen Suits s p q v u (Lane c.args.lane) = (a.turn.1, a.ok.1, a.seen, a.between, a.alone, c.requires.acts) in
    let w = waits_found g.D.Die.seen Suits s p q v u c.args.lane f in
    none_waits (core_seen (core_of g.D.Die.seen) q v) (core_of g.D.Die.seen s) c.args.lane w c.requires.hands

pub try_collect_job-answer-requires-clause-away : goal.try_collect_job-answer-requires-clause-away
try_collect_job-answer-requires-clause-away g c =
    let a = c.in_ok-system.ensures in
    let s = c.in_ok-system.system.state in
    let p = g.K.Desk.opening c.take.new.self in
    let q = g.K.Desk.opening c.args.desk.now in
    let v = g.K.Desk.view c.args.desk.now in
    let u = g.K.Desk.view c.take.new.self in
    let f : Found g.D.Die.seen Suits s p q v u (Lane c.args.lane) = (a.turn.1, a.ok.1, a.seen, a.between, a.alone, c.requires.acts) in
    let w = waits_found g.D.Die.seen Suits s p q v u c.args.lane f in
    away_waits (core_seen (core_of g.D.Die.seen) q v) (core_of g.D.Die.seen s) c.args.lane w c.requires.away

pub try_collect_job-answer-requires-clause-last : goal.try_collect_job-answer-requires-clause-last
try_collect_job-answer-requires-clause-last g c =
    let a = c.in_ok-system.ensures in
    let s = c.in_ok-system.system.state in
    let p = g.K.Desk.opening c.take.new.self in
    let q = g.K.Desk.opening c.args.desk.now in
    let v = g.K.Desk.view c.args.desk.now in
    let u = g.K.Desk.view c.take.new.self in
    let f : Found g.D.Die.seen Suits s p q v u (Lane c.args.lane) = (a.turn.1, a.ok.1, a.seen, a.between, a.alone, c.requires.acts) in
    let l = a.room in
    last_fits g.D.Die.seen Suits s q.value u.seen (stood g.D.Die.seen Suits s p q v u (Lane c.args.lane) f) c.requires.small.last (omega arith)

pub try_collect_job-answer-requires-clause-versions : goal.try_collect_job-answer-requires-clause-versions
try_collect_job-answer-requires-clause-versions g c =
    let a = c.in_ok-system.ensures in
    let s = c.in_ok-system.system.state in
    let p = g.K.Desk.opening c.take.new.self in
    let q = g.K.Desk.opening c.args.desk.now in
    let v = g.K.Desk.view c.args.desk.now in
    let u = g.K.Desk.view c.take.new.self in
    let f : Found g.D.Die.seen Suits s p q v u (Lane c.args.lane) = (a.turn.1, a.ok.1, a.seen, a.between, a.alone, c.requires.acts) in
    let l = a.room in
    versions_fit g.D.Die.seen Suits s q.value u.seen (stood g.D.Die.seen Suits s p q v u (Lane c.args.lane) f) c.requires.small.versions (omega arith)

pub give-requires-clause-stands : goal.give-requires-clause-stands
give-requires-clause-stands g c =
    let a = c.in_ok-system.ensures in
    let s = c.in_ok-system.system.state in
    let p = g.K.Desk.opening c.take.new.self in
    let q = g.K.Desk.opening c.args.desk.now in
    let v = g.K.Desk.view c.args.desk.now in
    let u = g.K.Desk.view c.take.new.self in
    let f : Found g.D.Die.seen Suits s p q v u (Lane c.args.lane) = (a.turn.1, a.ok.1, a.seen, a.between, a.alone, c.requires.acts) in
    let d = collect_did g.D.Die.seen (core_seen (core_of g.D.Die.seen) q v) c.args.lane s c.try_collect_job-answer.new.state p u c.try_collect_job-answer.result a.ok.1 (waits_found g.D.Die.seen Suits s p q v u c.args.lane f) c.requires.away c.try_collect_job-answer.ensures.reported c.try_collect_job-answer.ensures.number c.try_collect_job-answer.ensures.reply c.try_collect_job-answer.ensures.request c.try_collect_job-answer.ensures.stands c.try_collect_job-answer.ensures.unfinished c.try_collect_job-answer.ensures.same in
    gave g.D.Die.seen Suits s c.try_collect_job-answer.new.state p q v u (Lane c.args.lane) ((CollectSays (core_seen (core_of g.D.Die.seen) q v) c.args.lane c.try_collect_job-answer.result) (core_of g.D.Die.seen s)) f d

pub returns-clause-did : goal.returns-clause-did
returns-clause-did g c =
    let a = c.in_ok-system.ensures in
    let s = c.in_ok-system.system.state in
    let p = g.K.Desk.opening c.take.new.self in
    let q = g.K.Desk.opening c.args.desk.now in
    let v = g.K.Desk.view c.args.desk.now in
    let u = g.K.Desk.view c.take.new.self in
    let f : Found g.D.Die.seen Suits s p q v u (Lane c.args.lane) = (a.turn.1, a.ok.1, a.seen, a.between, a.alone, c.requires.acts) in
    let d = collect_did g.D.Die.seen (core_seen (core_of g.D.Die.seen) q v) c.args.lane s c.try_collect_job-answer.new.state p u c.try_collect_job-answer.result a.ok.1 (waits_found g.D.Die.seen Suits s p q v u c.args.lane f) c.requires.away c.try_collect_job-answer.ensures.reported c.try_collect_job-answer.ensures.number c.try_collect_job-answer.ensures.reply c.try_collect_job-answer.ensures.request c.try_collect_job-answer.ensures.stands c.try_collect_job-answer.ensures.unfinished c.try_collect_job-answer.ensures.same in
    turned g.D.Die.seen Suits s c.try_collect_job-answer.new.state p q v u (g.K.Desk.view c.give.new.self) (Lane c.args.lane) (CollectSays (core_seen (core_of g.D.Die.seen) q v) c.args.lane c.try_collect_job-answer.result) f d c.give.ensures.seen

pub returns-clause-numbered : goal.returns-clause-numbered
returns-clause-numbered g c =
    let a = c.in_ok-system.ensures in
    let s = c.in_ok-system.system.state in
    let p = g.K.Desk.opening c.take.new.self in
    let q = g.K.Desk.opening c.args.desk.now in
    let v = g.K.Desk.view c.args.desk.now in
    let u = g.K.Desk.view c.take.new.self in
    let f : Found g.D.Die.seen Suits s p q v u (Lane c.args.lane) = (a.turn.1, a.ok.1, a.seen, a.between, a.alone, c.requires.acts) in
    let d = collect_did g.D.Die.seen (core_seen (core_of g.D.Die.seen) q v) c.args.lane s c.try_collect_job-answer.new.state p u c.try_collect_job-answer.result a.ok.1 (waits_found g.D.Die.seen Suits s p q v u c.args.lane f) c.requires.away c.try_collect_job-answer.ensures.reported c.try_collect_job-answer.ensures.number c.try_collect_job-answer.ensures.reply c.try_collect_job-answer.ensures.request c.try_collect_job-answer.ensures.stands c.try_collect_job-answer.ensures.unfinished c.try_collect_job-answer.ensures.same in
    let t = turned g.D.Die.seen Suits s c.try_collect_job-answer.new.state p q v u (g.K.Desk.view c.give.new.self) (Lane c.args.lane) (CollectSays (core_seen (core_of g.D.Die.seen) q v) c.args.lane c.try_collect_job-answer.result) f d c.give.ensures.seen in
    λ n job is. collect_numbered g.D.Die.seen (core_seen (core_of g.D.Die.seen) q v) c.args.lane q v (g.K.Desk.view c.give.new.self) (Ok c.try_collect_job-answer.result) n job is t

pub returns-in_err-system-clause-numbered : goal.returns-in_err-system-clause-numbered
returns-in_err-system-clause-numbered g c =
    λ n job is. let e = c.from_residual.ensures.0 in let z = subst IsErr is e in absurd (cc)

pub returns-in_err-system-clause-went : goal.returns-in_err-system-clause-went
returns-in_err-system-clause-went g c =
    let a = c.in_err-system.ensures in
    if_err c.from_residual.result (worn_went (g.K.Desk.view c.args.desk.now) (g.K.Desk.view c.take.new.self) a.seen a.alone)

pub returns-in_err-system-clause-kept : goal.returns-in_err-system-clause-kept
returns-in_err-system-clause-kept g c =
    let a = c.in_err-system.ensures in
    let p = g.K.Desk.opening c.take.new.self in
    let q = g.K.Desk.opening c.args.desk.now in
    let v = g.K.Desk.view c.args.desk.now in
    let u = g.K.Desk.view c.take.new.self in
    worn_waits g.D.Die.seen Suits c.from_residual.result p q v u c.args.lane a.turn.1 a.stood a.seen a.between a.alone c.requires.acts
