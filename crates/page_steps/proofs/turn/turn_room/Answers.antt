use Rattle.std.proofs.Common.{Ok, refl, sym}
use Rattle.system_state.specs.Cores.{core_of}
use Rattle.system_state.specs.Stands.{Stands}
use Rattle.desk_turns.proofs.Turning.{gives_at, turned_at}
use Rattle.desk_turns.proofs.Went.{worn_went, if_err}
use Rattle.event_turns.proofs.FlushKnown.{flushes_for}
use Rattle.event_turns.proofs.FlushTurning.{may_found, out_got}
use Rattle.page_steps.specs.Room.{few, given_event, RoomTurn}
use Rattle.page_steps.proofs.Moves.{are_few, of_given}
use Rattle.page_steps.proofs.turn.turn_room.Goals as goal

pub try_room-given-requires-clause-may : goal.try_room-given-requires-clause-may
try_room-given-requires-clause-may g c =
    let a = c.in_ok-system.ensures in
    let m = may_found g.D.Die.seen g.J.CallJob.suits c.in_ok-system.system.state (g.K.Desk.opening c.take.new.self) (g.K.Desk.opening c.args.desk.now) (g.K.Desk.view c.args.desk.now) (g.K.Desk.view c.take.new.self) c.args.actor (a.turn.1, a.ok.1, a.seen, a.between, a.alone, c.requires.acts) c.requires.may in
    record {
      standing = record { o = (g.K.Desk.opening c.take.new.self).value; h = (g.K.Desk.view c.take.new.self).seen; stands = a.ok.1 };
      hands = m.none;
      closing = m.flushes.closing;
    }

pub try_room-given-requires-clause-acts : goal.try_room-given-requires-clause-acts
try_room-given-requires-clause-acts g c =
    let a = c.in_ok-system.ensures in
    let m = may_found g.D.Die.seen g.J.CallJob.suits c.in_ok-system.system.state (g.K.Desk.opening c.take.new.self) (g.K.Desk.opening c.args.desk.now) (g.K.Desk.view c.args.desk.now) (g.K.Desk.view c.take.new.self) c.args.actor (a.turn.1, a.ok.1, a.seen, a.between, a.alone, c.requires.acts) c.requires.may in
    flushes_for (core_of g.D.Die.seen c.in_ok-system.system.state) c.args.actor m.flushes.acts

pub give-requires-clause-stands : goal.give-requires-clause-stands
give-requires-clause-stands g c =
    let a = c.in_ok-system.ensures in
    let p = g.K.Desk.opening c.take.new.self in
    let v = g.K.Desk.view c.args.desk.now in
    let u = g.K.Desk.view c.take.new.self in
    let r = c.try_room-given.result in
    gives_at (core_of g.D.Die.seen) (Stands g.D.Die.seen g.J.CallJob.suits) (λ s o h k. k.run) (λ s o h k. k.coherent) c.try_room-given.new.system.state p (g.K.Desk.opening c.args.desk.now) v u c.args.actor (few (given_event c.args.actor r)) a.turn.1
    (are_few (given_event c.args.actor r)) (of_given c.args.actor r) c.requires.acts a.seen (c.try_room-given.ensures.gave.makes p.value u.seen u.number a.ok.1)

pub returns-clause-did : goal.returns-clause-did
returns-clause-did g c =
    let a = c.in_ok-system.ensures in
    let p = g.K.Desk.opening c.take.new.self in
    let v = g.K.Desk.view c.args.desk.now in
    let u = g.K.Desk.view c.take.new.self in
    let r = c.try_room-given.result in
    turned_at (core_of g.D.Die.seen) (Stands g.D.Die.seen g.J.CallJob.suits) (λ s o h k. k.run) (λ s o h k. k.coherent) c.in_ok-system.system.state c.try_room-given.new.system.state p (g.K.Desk.opening c.args.desk.now) v u (g.K.Desk.view c.give.new.self) (few (given_event c.args.actor r)) (RoomTurn c.args.actor c.args.side c.try_room-given.new.into r) a.turn.1 a.ok.1
    (are_few (given_event c.args.actor r)) (c.try_room-given.ensures.gave.makes p.value u.seen u.number a.ok.1) a.seen a.between a.alone c.give.ensures.seen
    (record { are = refl; next = sym c.try_room-given.ensures.next; first = λ e is. let s = c.try_room-given.ensures.sent e is in (s.first, s.page_is) })

pub returns-clause-out : goal.returns-clause-out
returns-clause-out g c = λ e is.
    let a = c.in_ok-system.ensures in
    let s = c.try_room-given.ensures.sent e (cc) in
    out_got g.D.Die.seen g.J.CallJob.suits c.in_ok-system.system.state c.try_room-given.new.system.state (g.K.Desk.opening c.take.new.self) (g.K.Desk.opening c.args.desk.now) (g.K.Desk.view c.take.new.self) (g.K.Desk.view c.give.new.self) c.args.actor c.try_room-given.new.into (Ok e) e a.turn.1 a.ok.1 refl
    s.out s.page_is s.stands c.give.ensures.seen

pub returns-in_err-system-clause-went : goal.returns-in_err-system-clause-went
returns-in_err-system-clause-went g c = let a = c.in_err-system.ensures in if_err c.from_residual.result (worn_went (g.K.Desk.view c.args.desk.now) (g.K.Desk.view c.take.new.self) a.seen a.alone)
