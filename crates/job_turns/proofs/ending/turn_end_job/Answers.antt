use Rattle.std.proofs.Common.{refl, subst, Ok, arith}
use Rattle.core_state.specs.declared.actor.Actor.TheVariants.{Lane}
use Rattle.system_state.specs.Cores.{core_of}
use Rattle.desk_turns.specs.Passing.{core_seen}
use Rattle.desk_turns.proofs.Later.{none_kept, own_held}
use Rattle.desk_turns.proofs.Went.{worn_went, if_err}
use Rattle.job_events.proofs.Taking.{Found, stood, coherent_seen, found_at, one_at, gave, turned, worn_holds}
use Rattle.job_events.proofs.Numbering.{last_fits, versions_fit}
use Rattle.core_state.specs.declared.event.Event.TheVariants.{End}
use Rattle.std.specs.Result.{IsErr}
use Rattle.call_job.specs.Suits.{Suits}
use Rattle.job_turns.specs.Finishing.{EndSays}
use Rattle.job_turns.proofs.Finishes.{held_call, held_kept, ends_kept, end_numbered}
use Rattle.job_turns.proofs.ending.turn_end_job.Goals as goal

pub end_job-answer-requires-clause-hands : goal.end_job-answer-requires-clause-hands
end_job-answer-requires-clause-hands g c =
    let a = c.in_ok-system.ensures in
    let s = c.in_ok-system.system.state in
    let p = g.K.Desk.opening c.take.new.self in
    let q = g.K.Desk.opening c.args.desk.now in
    let v = g.K.Desk.view c.args.desk.now in
    let u = g.K.Desk.view c.take.new.self in
    let f : Found g.D.Die.seen Suits s p q v u (Lane c.args.lane) = (a.turn.1, a.ok.1, a.seen, a.between, a.alone, c.requires.acts) in
    let own = own_held (core_seen (core_of g.D.Die.seen) q v) c.args.lane c.requires.ends.call c.requires.ends.flies (held_call (core_seen (core_of g.D.Die.seen) q v) c.args.lane c.args.job.now c.requires.held c.requires.ends) in
    let k = found_at g.D.Die.seen Suits s p q v u (Lane c.args.lane) f own in
    none_kept (core_seen (core_of g.D.Die.seen) q v) (core_of g.D.Die.seen s) (Lane c.args.lane) k.2 k.0 k.1 c.requires.hands

pub end_job-answer-requires-clause-held : goal.end_job-answer-requires-clause-held
end_job-answer-requires-clause-held g c =
    let a = c.in_ok-system.ensures in
    let s = c.in_ok-system.system.state in
    let p = g.K.Desk.opening c.take.new.self in
    let q = g.K.Desk.opening c.args.desk.now in
    let v = g.K.Desk.view c.args.desk.now in
    let u = g.K.Desk.view c.take.new.self in
    let f : Found g.D.Die.seen Suits s p q v u (Lane c.args.lane) = (a.turn.1, a.ok.1, a.seen, a.between, a.alone, c.requires.acts) in
    let own = own_held (core_seen (core_of g.D.Die.seen) q v) c.args.lane c.requires.ends.call c.requires.ends.flies (held_call (core_seen (core_of g.D.Die.seen) q v) c.args.lane c.args.job.now c.requires.held c.requires.ends) in
    let k = found_at g.D.Die.seen Suits s p q v u (Lane c.args.lane) f own in
    held_kept (core_seen (core_of g.D.Die.seen) q v) (core_of g.D.Die.seen s) c.args.lane c.args.job.now k.0 c.requires.held c.requires.ends

pub end_job-answer-requires-clause-ends : goal.end_job-answer-requires-clause-ends
end_job-answer-requires-clause-ends g c =
    let a = c.in_ok-system.ensures in
    let s = c.in_ok-system.system.state in
    let p = g.K.Desk.opening c.take.new.self in
    let q = g.K.Desk.opening c.args.desk.now in
    let v = g.K.Desk.view c.args.desk.now in
    let u = g.K.Desk.view c.take.new.self in
    let f : Found g.D.Die.seen Suits s p q v u (Lane c.args.lane) = (a.turn.1, a.ok.1, a.seen, a.between, a.alone, c.requires.acts) in
    let own = own_held (core_seen (core_of g.D.Die.seen) q v) c.args.lane c.requires.ends.call c.requires.ends.flies (held_call (core_seen (core_of g.D.Die.seen) q v) c.args.lane c.args.job.now c.requires.held c.requires.ends) in
    let k = found_at g.D.Die.seen Suits s p q v u (Lane c.args.lane) f own in
    let h = coherent_seen g.D.Die.seen Suits s p q v u (Lane c.args.lane) f in
    ends_kept (core_seen (core_of g.D.Die.seen) q v) (core_of g.D.Die.seen s) c.args.lane c.args.job.now h k.2 k.0 k.1 c.requires.held c.requires.ends

pub end_job-answer-requires-clause-last : goal.end_job-answer-requires-clause-last
end_job-answer-requires-clause-last g c =
    let a = c.in_ok-system.ensures in
    let s = c.in_ok-system.system.state in
    let p = g.K.Desk.opening c.take.new.self in
    let q = g.K.Desk.opening c.args.desk.now in
    let v = g.K.Desk.view c.args.desk.now in
    let u = g.K.Desk.view c.take.new.self in
    let f : Found g.D.Die.seen Suits s p q v u (Lane c.args.lane) = (a.turn.1, a.ok.1, a.seen, a.between, a.alone, c.requires.acts) in
    let l = a.room in
    last_fits g.D.Die.seen Suits s q.value u.seen (stood g.D.Die.seen Suits s p q v u (Lane c.args.lane) f) c.requires.small.last (omega arith)

pub end_job-answer-requires-clause-versions : goal.end_job-answer-requires-clause-versions
end_job-answer-requires-clause-versions g c =
    let a = c.in_ok-system.ensures in
    let s = c.in_ok-system.system.state in
    let p = g.K.Desk.opening c.take.new.self in
    let q = g.K.Desk.opening c.args.desk.now in
    let v = g.K.Desk.view c.args.desk.now in
    let u = g.K.Desk.view c.take.new.self in
    let f : Found g.D.Die.seen Suits s p q v u (Lane c.args.lane) = (a.turn.1, a.ok.1, a.seen, a.between, a.alone, c.requires.acts) in
    let l = a.room in
    versions_fit g.D.Die.seen Suits s q.value u.seen (stood g.D.Die.seen Suits s p q v u (Lane c.args.lane) f) c.requires.small.versions (omega arith)

pub give-requires-clause-stands : goal.give-requires-clause-stands
give-requires-clause-stands g c =
    let a = c.in_ok-system.ensures in
    let s = c.in_ok-system.system.state in
    let p = g.K.Desk.opening c.take.new.self in
    let q = g.K.Desk.opening c.args.desk.now in
    let v = g.K.Desk.view c.args.desk.now in
    let u = g.K.Desk.view c.take.new.self in
    let f : Found g.D.Die.seen Suits s p q v u (Lane c.args.lane) = (a.turn.1, a.ok.1, a.seen, a.between, a.alone, c.requires.acts) in
    let d = one_at g.D.Die.seen Suits (Lane c.args.lane) c.end_job-answer.new.state p u (End c.args.lane c.args.job.now.request c.end_job-answer.result.reply) ((EndSays c.args.lane c.args.job.now.request c.end_job-answer.result) (core_of g.D.Die.seen s)) refl (c.end_job-answer.ensures.stands p.value u.seen u.number a.ok.1) (record { are = refl; reply_is = c.end_job-answer.ensures.reply; answered = record { number = c.end_job-answer.ensures.number; ends = refl } }) in
    gave g.D.Die.seen Suits s c.end_job-answer.new.state p q v u (Lane c.args.lane) ((EndSays c.args.lane c.args.job.now.request c.end_job-answer.result) (core_of g.D.Die.seen s)) f d

pub returns-clause-did : goal.returns-clause-did
returns-clause-did g c =
    let a = c.in_ok-system.ensures in
    let s = c.in_ok-system.system.state in
    let p = g.K.Desk.opening c.take.new.self in
    let q = g.K.Desk.opening c.args.desk.now in
    let v = g.K.Desk.view c.args.desk.now in
    let u = g.K.Desk.view c.take.new.self in
    let f : Found g.D.Die.seen Suits s p q v u (Lane c.args.lane) = (a.turn.1, a.ok.1, a.seen, a.between, a.alone, c.requires.acts) in
    let d = one_at g.D.Die.seen Suits (Lane c.args.lane) c.end_job-answer.new.state p u (End c.args.lane c.args.job.now.request c.end_job-answer.result.reply) ((EndSays c.args.lane c.args.job.now.request c.end_job-answer.result) (core_of g.D.Die.seen s)) refl (c.end_job-answer.ensures.stands p.value u.seen u.number a.ok.1) (record { are = refl; reply_is = c.end_job-answer.ensures.reply; answered = record { number = c.end_job-answer.ensures.number; ends = refl } }) in
    turned g.D.Die.seen Suits s c.end_job-answer.new.state p q v u (g.K.Desk.view c.give.new.self) (Lane c.args.lane) (EndSays c.args.lane c.args.job.now.request c.end_job-answer.result) f d c.give.ensures.seen

pub returns-clause-numbered : goal.returns-clause-numbered
returns-clause-numbered g c =
    let a = c.in_ok-system.ensures in
    let s = c.in_ok-system.system.state in
    let p = g.K.Desk.opening c.take.new.self in
    let q = g.K.Desk.opening c.args.desk.now in
    let v = g.K.Desk.view c.args.desk.now in
    let u = g.K.Desk.view c.take.new.self in
    let f : Found g.D.Die.seen Suits s p q v u (Lane c.args.lane) = (a.turn.1, a.ok.1, a.seen, a.between, a.alone, c.requires.acts) in
    let d = one_at g.D.Die.seen Suits (Lane c.args.lane) c.end_job-answer.new.state p u (End c.args.lane c.args.job.now.request c.end_job-answer.result.reply) ((EndSays c.args.lane c.args.job.now.request c.end_job-answer.result) (core_of g.D.Die.seen s)) refl (c.end_job-answer.ensures.stands p.value u.seen u.number a.ok.1) (record { are = refl; reply_is = c.end_job-answer.ensures.reply; answered = record { number = c.end_job-answer.ensures.number; ends = refl } }) in
    let t = turned g.D.Die.seen Suits s c.end_job-answer.new.state p q v u (g.K.Desk.view c.give.new.self) (Lane c.args.lane) (EndSays c.args.lane c.args.job.now.request c.end_job-answer.result) f d c.give.ensures.seen in
    λ n is. end_numbered g.D.Die.seen c.args.lane c.args.job.now.request q v (g.K.Desk.view c.give.new.self) (Ok c.end_job-answer.result) n is t

pub returns-in_err-system-clause-numbered : goal.returns-in_err-system-clause-numbered
returns-in_err-system-clause-numbered g c =
    λ n is. let e = c.from_residual.ensures.0 in let z = subst IsErr is e in absurd (cc)

pub returns-in_err-system-clause-went : goal.returns-in_err-system-clause-went
returns-in_err-system-clause-went g c =
    let a = c.in_err-system.ensures in
    if_err c.from_residual.result (worn_went (g.K.Desk.view c.args.desk.now) (g.K.Desk.view c.take.new.self) a.seen a.alone)

pub returns-in_err-system-clause-kept : goal.returns-in_err-system-clause-kept
returns-in_err-system-clause-kept g c =
    let a = c.in_err-system.ensures in
    let p = g.K.Desk.opening c.take.new.self in
    let q = g.K.Desk.opening c.args.desk.now in
    let v = g.K.Desk.view c.args.desk.now in
    let u = g.K.Desk.view c.take.new.self in
    worn_holds g.D.Die.seen Suits c.from_residual.result p q v u (Lane c.args.lane) a.turn.1 a.stood a.seen a.between a.alone c.requires.acts
    (own_held (core_seen (core_of g.D.Die.seen) q v) c.args.lane c.requires.ends.call c.requires.ends.flies (held_call (core_seen (core_of g.D.Die.seen) q v) c.args.lane c.args.job.now c.requires.held c.requires.ends))
