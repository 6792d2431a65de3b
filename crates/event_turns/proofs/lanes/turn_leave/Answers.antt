use Rattle.std.proofs.Common.{refl, ◌≡◌, ◌∷◌, [], List}
use Rattle.core_state.specs.declared.actor.Actor.TheVariants.{Lane}
use Rattle.core_state.specs.declared.event.Event.{Event}
use Rattle.core_state.specs.declared.event.Event.TheVariants.{Leave}
use Rattle.core_state.specs.State.{Core}
use Rattle.system_state.specs.Cores.{core_of}
use Rattle.desk_turns.specs.Passing.{core_seen}
use Rattle.desk_turns.proofs.Later.{none_kept, own_idle}
use Rattle.desk_turns.proofs.Went.{worn_went, if_err}
use Rattle.event_turns.proofs.Taking.{Found, found_at, one_at, gave, turned, worn_holds}
use Rattle.event_turns.proofs.Keeping.{leave_kept}
use Rattle.event_turns.proofs.lanes.turn_leave.Goals as goal

pub leave-requires-clause-may : goal.leave-requires-clause-may
leave-requires-clause-may g c =
    let a = c.in_ok-system.ensures in
    let s = c.in_ok-system.system.state in
    let p = g.K.Desk.opening c.take.new.self in
    let q = g.K.Desk.opening c.args.desk.now in
    let v = g.K.Desk.view c.args.desk.now in
    let u = g.K.Desk.view c.take.new.self in
    let f : Found g.D.Die.seen g.J.CallJob.suits s p q v u (Lane c.args.lane) = (a.turn.1, a.ok.1, a.seen, a.between, a.alone, c.requires.acts) in
    let own = own_idle (core_seen (core_of g.D.Die.seen) q v) c.args.lane c.requires.may.idle.idle in
    let k = found_at g.D.Die.seen g.J.CallJob.suits s p q v u (Lane c.args.lane) f own in
    leave_kept (core_seen (core_of g.D.Die.seen) q v) (core_of g.D.Die.seen s) c.args.lane k.0 k.1 c.requires.may

pub leave-requires-clause-hands : goal.leave-requires-clause-hands
leave-requires-clause-hands g c =
    let a = c.in_ok-system.ensures in
    let s = c.in_ok-system.system.state in
    let p = g.K.Desk.opening c.take.new.self in
    let q = g.K.Desk.opening c.args.desk.now in
    let v = g.K.Desk.view c.args.desk.now in
    let u = g.K.Desk.view c.take.new.self in
    let f : Found g.D.Die.seen g.J.CallJob.suits s p q v u (Lane c.args.lane) = (a.turn.1, a.ok.1, a.seen, a.between, a.alone, c.requires.acts) in
    let own = own_idle (core_seen (core_of g.D.Die.seen) q v) c.args.lane c.requires.may.idle.idle in
    let k = found_at g.D.Die.seen g.J.CallJob.suits s p q v u (Lane c.args.lane) f own in
    none_kept (core_seen (core_of g.D.Die.seen) q v) (core_of g.D.Die.seen s) (Lane c.args.lane) k.2 k.0 k.1 c.requires.hands

pub give-requires-clause-stands : goal.give-requires-clause-stands
give-requires-clause-stands g c =
    let a = c.in_ok-system.ensures in
    let s = c.in_ok-system.system.state in
    let p = g.K.Desk.opening c.take.new.self in
    let q = g.K.Desk.opening c.args.desk.now in
    let v = g.K.Desk.view c.args.desk.now in
    let u = g.K.Desk.view c.take.new.self in
    let f : Found g.D.Die.seen g.J.CallJob.suits s p q v u (Lane c.args.lane) = (a.turn.1, a.ok.1, a.seen, a.between, a.alone, c.requires.acts) in
    let d = one_at g.D.Die.seen g.J.CallJob.suits (Lane c.args.lane) c.leave.new.state p u (Leave c.args.lane) ((λ (x : Core) (es : List Event). es ≡ Leave c.args.lane ∷ []) (core_of g.D.Die.seen s)) refl (c.leave.ensures.stands p.value u.seen u.number a.ok.1) refl in
    gave g.D.Die.seen g.J.CallJob.suits s c.leave.new.state p q v u (Lane c.args.lane) ((λ (x : Core) (es : List Event). es ≡ Leave c.args.lane ∷ []) (core_of g.D.Die.seen s)) f d

pub returns-clause-did : goal.returns-clause-did
returns-clause-did g c =
    let a = c.in_ok-system.ensures in
    let s = c.in_ok-system.system.state in
    let p = g.K.Desk.opening c.take.new.self in
    let q = g.K.Desk.opening c.args.desk.now in
    let v = g.K.Desk.view c.args.desk.now in
    let u = g.K.Desk.view c.take.new.self in
    let f : Found g.D.Die.seen g.J.CallJob.suits s p q v u (Lane c.args.lane) = (a.turn.1, a.ok.1, a.seen, a.between, a.alone, c.requires.acts) in
    let d = one_at g.D.Die.seen g.J.CallJob.suits (Lane c.args.lane) c.leave.new.state p u (Leave c.args.lane) ((λ (x : Core) (es : List Event). es ≡ Leave c.args.lane ∷ []) (core_of g.D.Die.seen s)) refl (c.leave.ensures.stands p.value u.seen u.number a.ok.1) refl in
    turned g.D.Die.seen g.J.CallJob.suits s c.leave.new.state p q v u (g.K.Desk.view c.give.new.self) (Lane c.args.lane) (λ (x : Core) (es : List Event). es ≡ Leave c.args.lane ∷ []) f d c.give.ensures.seen

pub returns-in_err-system-clause-went : goal.returns-in_err-system-clause-went
returns-in_err-system-clause-went g c =
    let a = c.in_err-system.ensures in
    if_err c.from_residual.result (worn_went (g.K.Desk.view c.args.desk.now) (g.K.Desk.view c.take.new.self) a.seen a.alone)

pub returns-in_err-system-clause-kept : goal.returns-in_err-system-clause-kept
returns-in_err-system-clause-kept g c =
    let a = c.in_err-system.ensures in
    let p = g.K.Desk.opening c.take.new.self in
    let q = g.K.Desk.opening c.args.desk.now in
    let v = g.K.Desk.view c.args.desk.now in
    let u = g.K.Desk.view c.take.new.self in
    worn_holds g.D.Die.seen g.J.CallJob.suits c.from_residual.result p q v u (Lane c.args.lane) a.turn.1 a.stood a.seen a.between a.alone c.requires.acts
    (own_idle (core_seen (core_of g.D.Die.seen) q v) c.args.lane c.requires.may.idle.idle)
