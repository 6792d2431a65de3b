use Rattle.std.proofs.Common.{refl, ap, ◌≡◌, ◌∷◌, [], List}
use Rattle.core_state.specs.declared.actor.Actor.TheVariants.{Worker}
use Rattle.core_state.specs.declared.event.Event.{Event}
use Rattle.core_state.specs.declared.event.Event.TheVariants.{Report}
use Rattle.core_state.specs.State.{Core}
use Rattle.core_state.specs.Dies.{owner}
use Rattle.core_state.specs.LaneEvents.{result_of}
use Rattle.system_state.specs.Cores.{core_of}
use Rattle.desk_turns.specs.Passing.{core_seen}
use Rattle.desk_turns.proofs.Later.{none_kept}
use Rattle.desk_turns.proofs.Went.{worn_went, if_err}
use Rattle.event_turns.proofs.Taking.{Found, coherent_seen, found_at, one_at, gave, turned, worn_holds}
use Rattle.event_turns.proofs.Keeping.{again, own_worker, report_kept, result_kept, suits_again}
use Rattle.event_turns.proofs.handing.turn_report.Goals as goal

pub report-requires-clause-hands : goal.report-requires-clause-hands
report-requires-clause-hands g c =
    let a = c.in_ok-system.ensures in
    let s = c.in_ok-system.system.state in
    let p = g.K.Desk.opening c.take.new.self in
    let q = g.K.Desk.opening c.args.desk.now in
    let v = g.K.Desk.view c.args.desk.now in
    let u = g.K.Desk.view c.take.new.self in
    let f : Found g.D.Die.seen g.J.CallJob.suits s p q v u (Worker c.args.worker) = (a.turn.1, a.ok.1, a.seen, a.between, a.alone, c.requires.acts) in
    let own = own_worker (core_seen (core_of g.D.Die.seen) q v) c.args.worker in
    let k = found_at g.D.Die.seen g.J.CallJob.suits s p q v u (Worker c.args.worker) f own in
    none_kept (core_seen (core_of g.D.Die.seen) q v) (core_of g.D.Die.seen s) (Worker c.args.worker) k.2 k.0 k.1 c.requires.hands

pub report-requires-clause-may : goal.report-requires-clause-may
report-requires-clause-may g c =
    let a = c.in_ok-system.ensures in
    let s = c.in_ok-system.system.state in
    let p = g.K.Desk.opening c.take.new.self in
    let q = g.K.Desk.opening c.args.desk.now in
    let v = g.K.Desk.view c.args.desk.now in
    let u = g.K.Desk.view c.take.new.self in
    let f : Found g.D.Die.seen g.J.CallJob.suits s p q v u (Worker c.args.worker) = (a.turn.1, a.ok.1, a.seen, a.between, a.alone, c.requires.acts) in
    let own = own_worker (core_seen (core_of g.D.Die.seen) q v) c.args.worker in
    let k = found_at g.D.Die.seen g.J.CallJob.suits s p q v u (Worker c.args.worker) f own in
    report_kept (core_seen (core_of g.D.Die.seen) q v) (core_of g.D.Die.seen s) c.args.worker c.args.lane k.0 c.requires.may

pub report-requires-clause-job : goal.report-requires-clause-job
report-requires-clause-job g c =
    let a = c.in_ok-system.ensures in
    let s = c.in_ok-system.system.state in
    let p = g.K.Desk.opening c.take.new.self in
    let q = g.K.Desk.opening c.args.desk.now in
    let v = g.K.Desk.view c.args.desk.now in
    let u = g.K.Desk.view c.take.new.self in
    let f : Found g.D.Die.seen g.J.CallJob.suits s p q v u (Worker c.args.worker) = (a.turn.1, a.ok.1, a.seen, a.between, a.alone, c.requires.acts) in
    let own = own_worker (core_seen (core_of g.D.Die.seen) q v) c.args.worker in
    let k = found_at g.D.Die.seen g.J.CallJob.suits s p q v u (Worker c.args.worker) f own in
    let h = coherent_seen g.D.Die.seen g.J.CallJob.suits s p q v u (Worker c.args.worker) f in
    suits_again g.J.CallJob.suits c.args.job (core_seen (core_of g.D.Die.seen) q v) (core_of g.D.Die.seen s) (Worker c.args.worker) c.args.lane c.requires.may.call (result_of (core_seen (core_of g.D.Die.seen) q v) c.args.lane) (result_of (core_of g.D.Die.seen s) c.args.lane) (again (core_seen (core_of g.D.Die.seen) q v) (core_of g.D.Die.seen s) (Worker c.args.worker) c.args.lane c.requires.may.call k.0 c.requires.may.flies (ap (owner c.args.lane) c.requires.may.runs)) c.requires.may.flies (result_kept (core_seen (core_of g.D.Die.seen) q v) (core_of g.D.Die.seen s) c.args.worker c.args.lane h k.2 k.0 c.requires.may) (c.requires.job h)

pub give-requires-clause-stands : goal.give-requires-clause-stands
give-requires-clause-stands g c =
    let a = c.in_ok-system.ensures in
    let s = c.in_ok-system.system.state in
    let p = g.K.Desk.opening c.take.new.self in
    let q = g.K.Desk.opening c.args.desk.now in
    let v = g.K.Desk.view c.args.desk.now in
    let u = g.K.Desk.view c.take.new.self in
    let f : Found g.D.Die.seen g.J.CallJob.suits s p q v u (Worker c.args.worker) = (a.turn.1, a.ok.1, a.seen, a.between, a.alone, c.requires.acts) in
    let d = one_at g.D.Die.seen g.J.CallJob.suits (Worker c.args.worker) c.report.new.state p u (Report c.args.worker c.args.lane) ((λ (x : Core) (es : List Event). es ≡ Report c.args.worker c.args.lane ∷ []) (core_of g.D.Die.seen s)) refl (c.report.ensures.stands p.value u.seen u.number a.ok.1) refl in
    gave g.D.Die.seen g.J.CallJob.suits s c.report.new.state p q v u (Worker c.args.worker) ((λ (x : Core) (es : List Event). es ≡ Report c.args.worker c.args.lane ∷ []) (core_of g.D.Die.seen s)) f d

pub returns-clause-did : goal.returns-clause-did
returns-clause-did g c =
    let a = c.in_ok-system.ensures in
    let s = c.in_ok-system.system.state in
    let p = g.K.Desk.opening c.take.new.self in
    let q = g.K.Desk.opening c.args.desk.now in
    let v = g.K.Desk.view c.args.desk.now in
    let u = g.K.Desk.view c.take.new.self in
    let f : Found g.D.Die.seen g.J.CallJob.suits s p q v u (Worker c.args.worker) = (a.turn.1, a.ok.1, a.seen, a.between, a.alone, c.requires.acts) in
    let d = one_at g.D.Die.seen g.J.CallJob.suits (Worker c.args.worker) c.report.new.state p u (Report c.args.worker c.args.lane) ((λ (x : Core) (es : List Event). es ≡ Report c.args.worker c.args.lane ∷ []) (core_of g.D.Die.seen s)) refl (c.report.ensures.stands p.value u.seen u.number a.ok.1) refl in
    turned g.D.Die.seen g.J.CallJob.suits s c.report.new.state p q v u (g.K.Desk.view c.give.new.self) (Worker c.args.worker) (λ (x : Core) (es : List Event). es ≡ Report c.args.worker c.args.lane ∷ []) f d c.give.ensures.seen

pub returns-in_err-system-clause-went : goal.returns-in_err-system-clause-went
returns-in_err-system-clause-went g c =
    let a = c.in_err-system.ensures in
    if_err c.from_residual.result (worn_went (g.K.Desk.view c.args.desk.now) (g.K.Desk.view c.take.new.self) a.seen a.alone)

pub returns-in_err-system-clause-kept : goal.returns-in_err-system-clause-kept
returns-in_err-system-clause-kept g c =
    let a = c.in_err-system.ensures in
    let p = g.K.Desk.opening c.take.new.self in
    let q = g.K.Desk.opening c.args.desk.now in
    let v = g.K.Desk.view c.args.desk.now in
    let u = g.K.Desk.view c.take.new.self in
    worn_holds g.D.Die.seen g.J.CallJob.suits c.from_residual.result p q v u (Worker c.args.worker) a.turn.1 a.stood a.seen a.between a.alone c.requires.acts
    (own_worker (core_seen (core_of g.D.Die.seen) q v) c.args.worker)
