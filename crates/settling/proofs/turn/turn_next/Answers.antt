use Rattle.std.proofs.Common.{refl, sym, subst, ap, Ok}
use Rattle.core_state.specs.declared.actor.Actor.TheVariants.{Closer}
use Rattle.core_state.specs.Happens.{IsClosing}
use Rattle.turn_cell.specs.Events.{events_of}
use Rattle.system_state.specs.Cores.{core_of}
use Rattle.desk_turns.specs.Passing.{core_seen}
use Rattle.desk_turns.proofs.Went.{worn_went, if_err}
use Rattle.page_steps.proofs.Taking.{Found, stood, coherent_seen, more, found_at, gave, turned}
use Rattle.settling.specs.Next.{NextSays}
use Rattle.settling.proofs.Ready.{own_closer, settle_kept}
use Rattle.settling.proofs.Turning.{next_did, block_hand, page_hand}
use Rattle.settling.proofs.turn.turn_next.Goals as goal

pub try_next-next-requires-clause-may : goal.try_next-next-requires-clause-may
try_next-next-requires-clause-may g c =
    let a = c.in_ok-system.ensures in
    let s = c.in_ok-system.system.state in
    let p = g.K.Desk.opening c.take.new.self in
    let q = g.K.Desk.opening c.args.desk.now in
    let v = g.K.Desk.view c.args.desk.now in
    let u = g.K.Desk.view c.take.new.self in
    let f : Found g.D.Die.seen g.J.CallJob.suits s p q v u Closer = (a.turn.1, a.ok.1, a.seen, a.between, a.alone, c.requires.acts) in
    let k = found_at g.D.Die.seen g.J.CallJob.suits s p q v u Closer f (own_closer (core_seen (core_of g.D.Die.seen) q v)) in
    settle_kept (core_seen (core_of g.D.Die.seen) q v) (core_of g.D.Die.seen s) (events_of f.2.0.1.0) (more g.D.Die.seen g.J.CallJob.suits s p q v u Closer f) (coherent_seen g.D.Die.seen g.J.CallJob.suits s p q v u Closer f) k.2 k.0 k.1 c.requires.may

pub give-requires-clause-stands : goal.give-requires-clause-stands
give-requires-clause-stands g c =
    let a = c.in_ok-system.ensures in
    let s = c.in_ok-system.system.state in
    let p = g.K.Desk.opening c.take.new.self in
    let q = g.K.Desk.opening c.args.desk.now in
    let v = g.K.Desk.view c.args.desk.now in
    let u = g.K.Desk.view c.take.new.self in
    let t = c.try_next-next.new.state in
    let r = c.try_next-next.result in
    let page = c.try_next-next.new.into in
    let f : Found g.D.Die.seen g.J.CallJob.suits s p q v u Closer = (a.turn.1, a.ok.1, a.seen, a.between, a.alone, c.requires.acts) in
    gave g.D.Die.seen g.J.CallJob.suits s t p q v u Closer (NextSays page r (core_of g.D.Die.seen s)) f (next_did g.D.Die.seen g.J.CallJob.suits page s t p u r a.ok.1 c.try_next-next.ensures)

pub returns-clause-coherent : goal.returns-clause-coherent
returns-clause-coherent g c =
    let a = c.in_ok-system.ensures in
    let f : Found g.D.Die.seen g.J.CallJob.suits c.in_ok-system.system.state (g.K.Desk.opening c.take.new.self) (g.K.Desk.opening c.args.desk.now) (g.K.Desk.view c.args.desk.now) (g.K.Desk.view c.take.new.self) Closer = (a.turn.1, a.ok.1, a.seen, a.between, a.alone, c.requires.acts) in
    (stood g.D.Die.seen g.J.CallJob.suits c.in_ok-system.system.state (g.K.Desk.opening c.take.new.self) (g.K.Desk.opening c.args.desk.now) (g.K.Desk.view c.args.desk.now) (g.K.Desk.view c.take.new.self) Closer f).coherent

pub returns-clause-did : goal.returns-clause-did
returns-clause-did g c =
    let a = c.in_ok-system.ensures in
    let s = c.in_ok-system.system.state in
    let p = g.K.Desk.opening c.take.new.self in
    let q = g.K.Desk.opening c.args.desk.now in
    let v = g.K.Desk.view c.args.desk.now in
    let u = g.K.Desk.view c.take.new.self in
    let t = c.try_next-next.new.state in
    let r = c.try_next-next.result in
    let page = c.try_next-next.new.into in
    let f : Found g.D.Die.seen g.J.CallJob.suits s p q v u Closer = (a.turn.1, a.ok.1, a.seen, a.between, a.alone, c.requires.acts) in
    turned g.D.Die.seen g.J.CallJob.suits s t p q v u (g.K.Desk.view c.give.new.self) Closer (NextSays page r) f (next_did g.D.Die.seen g.J.CallJob.suits page s t p u r a.ok.1 c.try_next-next.ensures) c.give.ensures.seen

pub returns-clause-block : goal.returns-clause-block
returns-clause-block g c = λ e is.
    let a = c.in_ok-system.ensures in
    block_hand g.D.Die.seen g.J.CallJob.suits c.in_ok-system.system.state c.try_next-next.new.state (g.K.Desk.opening c.take.new.self) (g.K.Desk.opening c.args.desk.now) (g.K.Desk.view c.take.new.self) (g.K.Desk.view c.give.new.self) c.try_next-next.new.into c.try_next-next.result e (cc) a.turn.1 a.ok.1 c.try_next-next.ensures c.give.ensures.seen

pub returns-clause-page : goal.returns-clause-page
returns-clause-page g c = λ e is.
    let a = c.in_ok-system.ensures in
    page_hand g.D.Die.seen g.J.CallJob.suits c.in_ok-system.system.state c.try_next-next.new.state (g.K.Desk.opening c.take.new.self) (g.K.Desk.opening c.args.desk.now) (g.K.Desk.view c.take.new.self) (g.K.Desk.view c.give.new.self) c.try_next-next.new.into c.try_next-next.result e (cc) a.turn.1 a.ok.1 c.try_next-next.ensures c.give.ensures.seen

pub returns-in_err-system-clause-went : goal.returns-in_err-system-clause-went
returns-in_err-system-clause-went g c = let a = c.in_err-system.ensures in if_err c.from_residual.result (worn_went (g.K.Desk.view c.args.desk.now) (g.K.Desk.view c.take.new.self) a.seen a.alone)
