use Rattle.std.proofs.Common.{subst, ◌∙◌, Ok, arith}
use Rattle.core_state.specs.declared.actor.Actor.TheVariants.{Lane}
use Rattle.system_state.specs.Cores.{core_of}
use Rattle.desk_turns.specs.Passing.{core_seen}
use Rattle.desk_turns.proofs.Later.{none_kept, own_idle}
use Rattle.desk_turns.proofs.Went.{worn_went, if_err}
use Rattle.page_steps.proofs.Taking.{Found, stood, found_at, gave, turned, worn_holds}
use Rattle.page_steps.proofs.Keeping.{idle_kept}
use Rattle.page_steps.proofs.Numbering.{last_fits, versions_fit}
use Rattle.std.specs.Result.{IsErr}
use Rattle.call_turns.specs.Quick.{QuickSays}
use Rattle.call_turns.proofs.Quicks.{quick_did, quick_numbered}
use Rattle.call_turns.proofs.quick.turn_quick.Goals as goal

pub try_quick-answer-requires-clause-hands : goal.try_quick-answer-requires-clause-hands
try_quick-answer-requires-clause-hands g c =
    let a = c.in_ok-system.ensures in
    let s = c.in_ok-system.system.state in
    let p = g.K.Desk.opening c.take.new.self in
    let q = g.K.Desk.opening c.args.desk.now in
    let v = g.K.Desk.view c.args.desk.now in
    let u = g.K.Desk.view c.take.new.self in
    let f : Found g.D.Die.seen g.J.CallJob.suits s p q v u (Lane c.args.lane) = (a.turn.1, a.ok.1, a.seen, a.between, a.alone, c.requires.acts) in
    let own = own_idle (core_seen (core_of g.D.Die.seen) q v) c.args.lane c.requires.idle.idle in
    let k = found_at g.D.Die.seen g.J.CallJob.suits s p q v u (Lane c.args.lane) f own in
    none_kept (core_seen (core_of g.D.Die.seen) q v) (core_of g.D.Die.seen s) (Lane c.args.lane) k.2 k.0 k.1 c.requires.hands

pub try_quick-answer-requires-clause-idle : goal.try_quick-answer-requires-clause-idle
try_quick-answer-requires-clause-idle g c =
    let a = c.in_ok-system.ensures in
    let s = c.in_ok-system.system.state in
    let p = g.K.Desk.opening c.take.new.self in
    let q = g.K.Desk.opening c.args.desk.now in
    let v = g.K.Desk.view c.args.desk.now in
    let u = g.K.Desk.view c.take.new.self in
    let f : Found g.D.Die.seen g.J.CallJob.suits s p q v u (Lane c.args.lane) = (a.turn.1, a.ok.1, a.seen, a.between, a.alone, c.requires.acts) in
    let own = own_idle (core_seen (core_of g.D.Die.seen) q v) c.args.lane c.requires.idle.idle in
    let k = found_at g.D.Die.seen g.J.CallJob.suits s p q v u (Lane c.args.lane) f own in
    (idle_kept (core_seen (core_of g.D.Die.seen) q v) (core_of g.D.Die.seen s) c.args.lane k.0 k.1 c.requires.idle).0

pub try_quick-answer-requires-clause-unmarked : goal.try_quick-answer-requires-clause-unmarked
try_quick-answer-requires-clause-unmarked g c =
    let a = c.in_ok-system.ensures in
    let s = c.in_ok-system.system.state in
    let p = g.K.Desk.opening c.take.new.self in
    let q = g.K.Desk.opening c.args.desk.now in
    let v = g.K.Desk.view c.args.desk.now in
    let u = g.K.Desk.view c.take.new.self in
    let f : Found g.D.Die.seen g.J.CallJob.suits s p q v u (Lane c.args.lane) = (a.turn.1, a.ok.1, a.seen, a.between, a.alone, c.requires.acts) in
    let own = own_idle (core_seen (core_of g.D.Die.seen) q v) c.args.lane c.requires.idle.idle in
    let k = found_at g.D.Die.seen g.J.CallJob.suits s p q v u (Lane c.args.lane) f own in
    (idle_kept (core_seen (core_of g.D.Die.seen) q v) (core_of g.D.Die.seen s) c.args.lane k.0 k.1 c.requires.idle).1 ∙ c.requires.unmarked

pub try_quick-answer-requires-clause-last : goal.try_quick-answer-requires-clause-last
try_quick-answer-requires-clause-last g c =
    let a = c.in_ok-system.ensures in
    let s = c.in_ok-system.system.state in
    let p = g.K.Desk.opening c.take.new.self in
    let q = g.K.Desk.opening c.args.desk.now in
    let v = g.K.Desk.view c.args.desk.now in
    let u = g.K.Desk.view c.take.new.self in
    let f : Found g.D.Die.seen g.J.CallJob.suits s p q v u (Lane c.args.lane) = (a.turn.1, a.ok.1, a.seen, a.between, a.alone, c.requires.acts) in
    let l = a.room in
    last_fits g.D.Die.seen g.J.CallJob.suits s q.value u.seen (stood g.D.Die.seen g.J.CallJob.suits s p q v u (Lane c.args.lane) f) c.requires.small.last (omega arith)

pub try_quick-answer-requires-clause-versions : goal.try_quick-answer-requires-clause-versions
try_quick-answer-requires-clause-versions g c =
    let a = c.in_ok-system.ensures in
    let s = c.in_ok-system.system.state in
    let p = g.K.Desk.opening c.take.new.self in
    let q = g.K.Desk.opening c.args.desk.now in
    let v = g.K.Desk.view c.args.desk.now in
    let u = g.K.Desk.view c.take.new.self in
    let f : Found g.D.Die.seen g.J.CallJob.suits s p q v u (Lane c.args.lane) = (a.turn.1, a.ok.1, a.seen, a.between, a.alone, c.requires.acts) in
    let l = a.room in
    versions_fit g.D.Die.seen g.J.CallJob.suits s q.value u.seen (stood g.D.Die.seen g.J.CallJob.suits s p q v u (Lane c.args.lane) f) c.requires.small.versions (omega arith)

pub give-requires-clause-stands : goal.give-requires-clause-stands
give-requires-clause-stands g c =
    let a = c.in_ok-system.ensures in
    let s = c.in_ok-system.system.state in
    let p = g.K.Desk.opening c.take.new.self in
    let q = g.K.Desk.opening c.args.desk.now in
    let v = g.K.Desk.view c.args.desk.now in
    let u = g.K.Desk.view c.take.new.self in
    let f : Found g.D.Die.seen g.J.CallJob.suits s p q v u (Lane c.args.lane) = (a.turn.1, a.ok.1, a.seen, a.between, a.alone, c.requires.acts) in
    let d = quick_did g.D.Die.seen g.J.CallJob.suits c.args.lane c.args.request.now c.args.loading.now c.try_quick-answer.new.loading s c.try_quick-answer.new.state p u c.try_quick-answer.result a.ok.1 c.try_quick-answer.ensures.clear c.try_quick-answer.ensures.number c.try_quick-answer.ensures.stands c.try_quick-answer.ensures.not_yet c.try_quick-answer.ensures.same in
    gave g.D.Die.seen g.J.CallJob.suits s c.try_quick-answer.new.state p q v u (Lane c.args.lane) ((QuickSays c.args.lane c.args.request.now c.args.loading.now c.try_quick-answer.new.loading c.try_quick-answer.result) (core_of g.D.Die.seen s)) f d

pub returns-clause-did : goal.returns-clause-did
returns-clause-did g c =
    let a = c.in_ok-system.ensures in
    let s = c.in_ok-system.system.state in
    let p = g.K.Desk.opening c.take.new.self in
    let q = g.K.Desk.opening c.args.desk.now in
    let v = g.K.Desk.view c.args.desk.now in
    let u = g.K.Desk.view c.take.new.self in
    let f : Found g.D.Die.seen g.J.CallJob.suits s p q v u (Lane c.args.lane) = (a.turn.1, a.ok.1, a.seen, a.between, a.alone, c.requires.acts) in
    let d = quick_did g.D.Die.seen g.J.CallJob.suits c.args.lane c.args.request.now c.args.loading.now c.try_quick-answer.new.loading s c.try_quick-answer.new.state p u c.try_quick-answer.result a.ok.1 c.try_quick-answer.ensures.clear c.try_quick-answer.ensures.number c.try_quick-answer.ensures.stands c.try_quick-answer.ensures.not_yet c.try_quick-answer.ensures.same in
    turned g.D.Die.seen g.J.CallJob.suits s c.try_quick-answer.new.state p q v u (g.K.Desk.view c.give.new.self) (Lane c.args.lane) (QuickSays c.args.lane c.args.request.now c.args.loading.now c.try_quick-answer.new.loading c.try_quick-answer.result) f d c.give.ensures.seen

pub returns-clause-numbered : goal.returns-clause-numbered
returns-clause-numbered g c =
    let a = c.in_ok-system.ensures in
    let s = c.in_ok-system.system.state in
    let p = g.K.Desk.opening c.take.new.self in
    let q = g.K.Desk.opening c.args.desk.now in
    let v = g.K.Desk.view c.args.desk.now in
    let u = g.K.Desk.view c.take.new.self in
    let f : Found g.D.Die.seen g.J.CallJob.suits s p q v u (Lane c.args.lane) = (a.turn.1, a.ok.1, a.seen, a.between, a.alone, c.requires.acts) in
    let d = quick_did g.D.Die.seen g.J.CallJob.suits c.args.lane c.args.request.now c.args.loading.now c.try_quick-answer.new.loading s c.try_quick-answer.new.state p u c.try_quick-answer.result a.ok.1 c.try_quick-answer.ensures.clear c.try_quick-answer.ensures.number c.try_quick-answer.ensures.stands c.try_quick-answer.ensures.not_yet c.try_quick-answer.ensures.same in
    let t = turned g.D.Die.seen g.J.CallJob.suits s c.try_quick-answer.new.state p q v u (g.K.Desk.view c.give.new.self) (Lane c.args.lane) (QuickSays c.args.lane c.args.request.now c.args.loading.now c.try_quick-answer.new.loading c.try_quick-answer.result) f d c.give.ensures.seen in
    λ n is. quick_numbered g.D.Die.seen g.J.CallJob.suits c.args.lane c.args.request.now c.args.loading.now c.try_quick-answer.new.loading q v (g.K.Desk.view c.give.new.self) (Ok c.try_quick-answer.result) n is t

pub returns-in_err-system-clause-numbered : goal.returns-in_err-system-clause-numbered
returns-in_err-system-clause-numbered g c =
    λ n is. let e = c.from_residual.ensures.0 in let z = subst IsErr is e in absurd (cc)

pub returns-in_err-system-clause-went : goal.returns-in_err-system-clause-went
returns-in_err-system-clause-went g c =
    let a = c.in_err-system.ensures in
    if_err c.from_residual.result (worn_went (g.K.Desk.view c.args.desk.now) (g.K.Desk.view c.take.new.self) a.seen a.alone)

pub returns-in_err-system-clause-kept : goal.returns-in_err-system-clause-kept
returns-in_err-system-clause-kept g c =
    let a = c.in_err-system.ensures in
    let p = g.K.Desk.opening c.take.new.self in
    let q = g.K.Desk.opening c.args.desk.now in
    let v = g.K.Desk.view c.args.desk.now in
    let u = g.K.Desk.view c.take.new.self in
    worn_holds g.D.Die.seen g.J.CallJob.suits c.from_residual.result p q v u (Lane c.args.lane) a.turn.1 a.stood a.seen a.between a.alone c.requires.acts
    (own_idle (core_seen (core_of g.D.Die.seen) q v) c.args.lane c.requires.idle.idle)
