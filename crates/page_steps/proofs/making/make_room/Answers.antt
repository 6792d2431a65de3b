use Rattle.std.proofs.Common.{◌+◌, false, Ok, sym, subst}
use Rattle.core_state.specs.declared.actor.Actor.TheVariants.{Lane}
use Rattle.core_state.specs.State.{ToFlush}
use Rattle.system_state.specs.Cores.{core_of}
use Rattle.desk_turns.specs.Passing.{ActsFor, core_seen, Turn, Does}
use Rattle.event_turns.specs.Flushing.{Flushes, IsInHand}
use Rattle.event_turns.proofs.FlushSteps.{acts_on}
use Rattle.page_steps.specs.Room.{RoomTurn}
use Rattle.page_steps.specs.Making.{RoomSays}
use Rattle.page_steps.specs.declared.room.Given.TheVariants.{Sent}
use Rattle.page_steps.proofs.Steps.{free_may, moved_step, still_step, sent_ready, sent_step, sent_worn, room_worn}
use Rattle.page_steps.proofs.making.make_room.Goals as goal

pub turn_room-requires-clause-may : goal.turn_room-requires-clause-may
turn_room-requires-clause-may g c = free_may (core_seen (core_of g.D.Die.seen) (g.K.Desk.opening c.args.desk.now) (g.K.Desk.view c.args.desk.now)) c.args.lane c.requires.lane

pub flush_home-requires-clause-acts : goal.flush_home-requires-clause-acts
flush_home-requires-clause-acts g c =
    let e = c.in-Sent.errand in
    let o = g.K.Desk.opening c.args.desk.now in
    let v = g.K.Desk.view c.args.desk.now in
    let u = g.K.Desk.view c.turn_room.new.desk in
    let P = RoomTurn (Lane c.args.lane) c.args.side c.turn_room.new.into (Sent e) in
    let t = subst (λ r. Turn (core_of g.D.Die.seen) o v u (RoomTurn (Lane c.args.lane) c.args.side c.turn_room.new.into r)) c.in-Sent.is c.in_ok-given.ensures.did in
    subst (λ z. ActsFor (core_of g.D.Die.seen) z u (Lane c.args.lane)) (sym c.turn_room.ensures.turn.1) (acts_on g.D.Die.seen o v u (Lane c.args.lane) P t c.requires.acts)

pub flush_home-requires-clause-flushes : goal.flush_home-requires-clause-flushes
flush_home-requires-clause-flushes g c =
    let e = c.in-Sent.errand in
    let o = g.K.Desk.opening c.args.desk.now in
    let v = g.K.Desk.view c.args.desk.now in
    let u = g.K.Desk.view c.turn_room.new.desk in
    let t = subst (λ r. Turn (core_of g.D.Die.seen) o v u (RoomTurn (Lane c.args.lane) c.args.side c.turn_room.new.into r)) c.in-Sent.is c.in_ok-given.ensures.did in
    subst (λ z. Flushes false (core_seen (core_of g.D.Die.seen) z u) (Lane c.args.lane)) (sym c.turn_room.ensures.turn.1) (sent_ready g.D.Die.seen o v u c.args.lane c.args.side c.turn_room.new.into e c.requires.acts c.requires.lane t)

pub flush_home-requires-clause-errand : goal.flush_home-requires-clause-errand
flush_home-requires-clause-errand g c =
    let e = c.in-Sent.errand in
    let h = c.in_ok-given.ensures.out e (cc) in
    (h.0, (h.1.0, subst (λ z. IsInHand g.D.Die.seen z (g.K.Desk.view c.turn_room.new.desk).seen (Lane c.args.lane) (ToFlush e.subject h.1.0 c.turn_room.new.into) (z.value.sizes.meta + e.subject) e) (sym c.turn_room.ensures.turn.1) h.1.1))

pub returns-in-Moved-clause-did : goal.returns-in-Moved-clause-did
returns-in-Moved-clause-did g c =
    let o = g.K.Desk.opening c.args.desk.now in
    let v = g.K.Desk.view c.args.desk.now in
    let u = g.K.Desk.view c.turn_room.new.desk in
    let t = subst (λ r. Turn (core_of g.D.Die.seen) o v u (RoomTurn (Lane c.args.lane) c.args.side c.turn_room.new.into r)) c.in-Moved.is c.in_ok-given.ensures.did in
    moved_step g.D.Die.seen o v u c.args.lane c.args.side c.turn_room.new.into c.in-Moved.step c.requires.acts c.requires.lane t

pub returns-in-Nothing-clause-did : goal.returns-in-Nothing-clause-did
returns-in-Nothing-clause-did g c =
    let o = g.K.Desk.opening c.args.desk.now in
    let v = g.K.Desk.view c.args.desk.now in
    let u = g.K.Desk.view c.turn_room.new.desk in
    let t = subst (λ r. Turn (core_of g.D.Die.seen) o v u (RoomTurn (Lane c.args.lane) c.args.side c.turn_room.new.into r)) c.in-Nothing.is c.in_ok-given.ensures.did in
    still_step g.D.Die.seen o v u c.args.lane c.args.side c.turn_room.new.into c.requires.acts c.requires.lane t

pub returns-in_ok-flushed-in-Sent-clause-did : goal.returns-in_ok-flushed-in-Sent-clause-did
returns-in_ok-flushed-in-Sent-clause-did g c =
    let e = c.in-Sent.errand in
    let o = g.K.Desk.opening c.args.desk.now in
    let v = g.K.Desk.view c.args.desk.now in
    let u = g.K.Desk.view c.turn_room.new.desk in
    let w = g.K.Desk.view c.flush_home.new.desk in
    let t = subst (λ r. Turn (core_of g.D.Die.seen) o v u (RoomTurn (Lane c.args.lane) c.args.side c.turn_room.new.into r)) c.in-Sent.is c.in_ok-given.ensures.did in
    subst (λ r. Does v w (RoomSays g.D.Die.seen o v w c.args.lane c.args.side (Ok r))) (sym c.made_by.ensures)
    (sent_step g.D.Die.seen o (g.K.Desk.opening c.turn_room.new.desk) v u w c.args.lane c.args.side c.turn_room.new.into e c.in_ok-flushed-in-Sent.flushed c.turn_room.ensures.turn.1 c.requires.acts c.requires.lane t c.in_ok-flushed-in-Sent.ensures.did)

pub returns-in_err-flushed-in-Sent-clause-did : goal.returns-in_err-flushed-in-Sent-clause-did
returns-in_err-flushed-in-Sent-clause-did g c =
    let e = c.in-Sent.errand in
    let o = g.K.Desk.opening c.args.desk.now in
    let v = g.K.Desk.view c.args.desk.now in
    let u = g.K.Desk.view c.turn_room.new.desk in
    let w = g.K.Desk.view c.flush_home.new.desk in
    let t = subst (λ r. Turn (core_of g.D.Die.seen) o v u (RoomTurn (Lane c.args.lane) c.args.side c.turn_room.new.into r)) c.in-Sent.is c.in_ok-given.ensures.did in
    sent_worn g.D.Die.seen o (g.K.Desk.opening c.turn_room.new.desk) v u w c.args.lane c.args.side c.turn_room.new.into e c.in_err-flushed-in-Sent.field-0.0 c.from_residual-in_err-flushed-in-Sent.result c.from_residual-in_err-flushed-in-Sent.ensures.0 t c.in_err-flushed-in-Sent.ensures.did

pub returns-in_err-given-clause-did : goal.returns-in_err-given-clause-did
returns-in_err-given-clause-did g c = room_worn g.D.Die.seen (g.K.Desk.opening c.args.desk.now) (g.K.Desk.view c.args.desk.now) (g.K.Desk.view c.turn_room.new.desk) c.args.lane c.args.side c.from_residual.result c.from_residual.ensures.0 c.in_err-given.ensures.went
