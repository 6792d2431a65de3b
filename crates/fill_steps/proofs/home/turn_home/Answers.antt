use Rattle.std.proofs.Common.{refl, sym, subst, arith}
use Rattle.system_state.specs.Cores.{core_of}
use Rattle.desk_turns.proofs.Went.{worn_went, if_err}
use Rattle.fill_steps.specs.Pages.{ComesHome}
use Rattle.fill_steps.proofs.Homing.{comes_home}
use Rattle.event_turns.proofs.Taking.{Found, stood, one_at, gave, turned}
use Rattle.event_turns.proofs.Numbering.{reads_fit}
use Rattle.turn_cell.specs.Events.{events_of}
use Rattle.system_state.specs.Slots.{die_at}
use Rattle.system_state.specs.Stands.{DieStands, tally}
use Rattle.system_pages.specs.Back.{fill_in_event}
use Rattle.event_turns.proofs.Errands.{fill_found, fill_back}
use Rattle.fill_steps.proofs.home.turn_home.Goals as goal

pub fill_in-requires-clause-errand : goal.fill_in-requires-clause-errand
fill_in-requires-clause-errand g c =
    let a = c.in_ok-system.ensures in
    let s = c.in_ok-system.system.state in
    let p = g.K.Desk.opening c.take.new.self in
    let q = g.K.Desk.opening c.args.desk.now in
    let v = g.K.Desk.view c.args.desk.now in
    let u = g.K.Desk.view c.take.new.self in
    let f : Found g.D.Die.seen g.J.CallJob.suits s p q v u (c.args.actor) = (a.turn.1, a.ok.1, a.seen, a.between, a.alone, c.requires.acts) in
    fill_back g.D.Die.seen g.J.CallJob.suits s q u.seen c.args.actor c.args.lane c.args.i c.requires.errand.0 c.args.page.now c.args.errand (stood g.D.Die.seen g.J.CallJob.suits s p q v u c.args.actor f) (fill_found g.D.Die.seen g.J.CallJob.suits s p q v u c.args.actor c.args.lane c.args.i c.requires.errand.0 c.args.page.now c.args.errand f c.requires.errand.1)

pub fill_in-requires-clause-counts : goal.fill_in-requires-clause-counts
fill_in-requires-clause-counts g c =
    let a = c.in_ok-system.ensures in
    let s = c.in_ok-system.system.state in
    let p = g.K.Desk.opening c.take.new.self in
    let q = g.K.Desk.opening c.args.desk.now in
    let v = g.K.Desk.view c.args.desk.now in
    let u = g.K.Desk.view c.take.new.self in
    let f : Found g.D.Die.seen g.J.CallJob.suits s p q v u (c.args.actor) = (a.turn.1, a.ok.1, a.seen, a.between, a.alone, c.requires.acts) in
    let l = a.room in
    reads_fit g.D.Die.seen g.J.CallJob.suits s q.value u.seen (stood g.D.Die.seen g.J.CallJob.suits s p q v u c.args.actor f) c.requires.small (omega arith)

pub give-requires-clause-stands : goal.give-requires-clause-stands
give-requires-clause-stands g c =
    let a = c.in_ok-system.ensures in
    let s = c.in_ok-system.system.state in
    let p = g.K.Desk.opening c.take.new.self in
    let q = g.K.Desk.opening c.args.desk.now in
    let v = g.K.Desk.view c.args.desk.now in
    let u = g.K.Desk.view c.take.new.self in
    let f : Found g.D.Die.seen g.J.CallJob.suits s p q v u (c.args.actor) = (a.turn.1, a.ok.1, a.seen, a.between, a.alone, c.requires.acts) in
    let d = one_at g.D.Die.seen g.J.CallJob.suits c.args.actor c.fill_in.new.state p u (fill_in_event c.args.actor c.args.errand) ((ComesHome c.args.actor c.args.lane c.args.i c.args.errand c.args.page.now c.fill_in.new.page) (core_of g.D.Die.seen s)) refl
    (c.fill_in.ensures.stands p.value u.seen u.number a.ok.1 (subst (λ z. DieStands (die_at g.D.Die.seen z.value.rack.slots.items c.args.errand.number) (tally c.args.errand.number (events_of u.seen)) (g.D.Die.seen c.args.errand.left.value)) (sym a.turn.1) (fill_found g.D.Die.seen g.J.CallJob.suits s p q v u c.args.actor c.args.lane c.args.i c.requires.errand.0 c.args.page.now c.args.errand f c.requires.errand.1).fill.hand.stood)) (comes_home g.D.Die.seen g.J.CallJob.suits s q u.seen c.args.actor c.args.lane c.args.i c.args.errand c.args.page.now c.fill_in.new.page (stood g.D.Die.seen g.J.CallJob.suits s p q v u c.args.actor f)
    (fill_back g.D.Die.seen g.J.CallJob.suits s q u.seen c.args.actor c.args.lane c.args.i c.requires.errand.0 c.args.page.now c.args.errand (stood g.D.Die.seen g.J.CallJob.suits s p q v u c.args.actor f) (fill_found g.D.Die.seen g.J.CallJob.suits s p q v u c.args.actor c.args.lane c.args.i c.requires.errand.0 c.args.page.now c.args.errand f c.requires.errand.1)) (record { are = refl; failed = c.fill_in.ensures.failed; lent = c.fill_in.ensures.lent })) in
    gave g.D.Die.seen g.J.CallJob.suits s c.fill_in.new.state p q v u (c.args.actor) ((ComesHome c.args.actor c.args.lane c.args.i c.args.errand c.args.page.now c.fill_in.new.page) (core_of g.D.Die.seen s)) f d

pub returns-clause-did : goal.returns-clause-did
returns-clause-did g c =
    let a = c.in_ok-system.ensures in
    let s = c.in_ok-system.system.state in
    let p = g.K.Desk.opening c.take.new.self in
    let q = g.K.Desk.opening c.args.desk.now in
    let v = g.K.Desk.view c.args.desk.now in
    let u = g.K.Desk.view c.take.new.self in
    let f : Found g.D.Die.seen g.J.CallJob.suits s p q v u (c.args.actor) = (a.turn.1, a.ok.1, a.seen, a.between, a.alone, c.requires.acts) in
    let d = one_at g.D.Die.seen g.J.CallJob.suits c.args.actor c.fill_in.new.state p u (fill_in_event c.args.actor c.args.errand) ((ComesHome c.args.actor c.args.lane c.args.i c.args.errand c.args.page.now c.fill_in.new.page) (core_of g.D.Die.seen s)) refl
    (c.fill_in.ensures.stands p.value u.seen u.number a.ok.1 (subst (λ z. DieStands (die_at g.D.Die.seen z.value.rack.slots.items c.args.errand.number) (tally c.args.errand.number (events_of u.seen)) (g.D.Die.seen c.args.errand.left.value)) (sym a.turn.1) (fill_found g.D.Die.seen g.J.CallJob.suits s p q v u c.args.actor c.args.lane c.args.i c.requires.errand.0 c.args.page.now c.args.errand f c.requires.errand.1).fill.hand.stood)) (comes_home g.D.Die.seen g.J.CallJob.suits s q u.seen c.args.actor c.args.lane c.args.i c.args.errand c.args.page.now c.fill_in.new.page (stood g.D.Die.seen g.J.CallJob.suits s p q v u c.args.actor f)
    (fill_back g.D.Die.seen g.J.CallJob.suits s q u.seen c.args.actor c.args.lane c.args.i c.requires.errand.0 c.args.page.now c.args.errand (stood g.D.Die.seen g.J.CallJob.suits s p q v u c.args.actor f) (fill_found g.D.Die.seen g.J.CallJob.suits s p q v u c.args.actor c.args.lane c.args.i c.requires.errand.0 c.args.page.now c.args.errand f c.requires.errand.1)) (record { are = refl; failed = c.fill_in.ensures.failed; lent = c.fill_in.ensures.lent })) in
    turned g.D.Die.seen g.J.CallJob.suits s c.fill_in.new.state p q v u (g.K.Desk.view c.give.new.self) (c.args.actor) (ComesHome c.args.actor c.args.lane c.args.i c.args.errand c.args.page.now c.fill_in.new.page) f d c.give.ensures.seen

pub returns-in_err-system-clause-went : goal.returns-in_err-system-clause-went
returns-in_err-system-clause-went g c =
    let a = c.in_err-system.ensures in
    if_err c.from_residual.result (worn_went (g.K.Desk.view c.args.desk.now) (g.K.Desk.view c.take.new.self) a.seen a.alone)
