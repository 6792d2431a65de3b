use Rattle.std.proofs.Common.{Ok, sym, subst}
use Rattle.desk_turns.specs.Passing.{Does}
use Rattle.call_begins.specs.Steps.{RoomStepSays}
use Rattle.call_begins.proofs.Stepping.{after_made, made_worn}
use Rattle.call_begins.proofs.room.step_room.Goals as goal

pub returns-clause-did : goal.returns-clause-did
returns-clause-did g c =
    let o = g.K.Desk.opening c.args.desk.now in
    let v = g.K.Desk.view c.args.desk.now in
    let w = g.K.Desk.view c.make_room.new.desk in
    subst (λ s. Does v w (RoomStepSays g.D.Die.seen o v w c.args.lane c.args.side (Ok s))) (sym c.after_room.ensures) (after_made g.D.Die.seen o v w c.args.lane c.args.side c.in_ok-made.made c.in_ok-made.ensures.did)

pub returns-in_err-made-clause-did : goal.returns-in_err-made-clause-did
returns-in_err-made-clause-did g c =
    let o = g.K.Desk.opening c.args.desk.now in
    let v = g.K.Desk.view c.args.desk.now in
    let w = g.K.Desk.view c.make_room.new.desk in
    made_worn g.D.Die.seen o v w c.args.lane c.args.side c.in_err-made.field-0.0 c.from_residual.result c.from_residual.ensures.0 c.in_err-made.ensures.did
