use Rattle.std.proofs.Common.{rules, refl, inr, ap}
use Rattle.turn_cell.proofs.Clients.{gives_one, one_made}
use Rattle.turn_example.proofs.Raised.{one_one, nearer}
use Rattle.turn_example.specs.Counting.{adding, Stands, ActsAs}
use Rattle.turn_example.proofs.raise.raise_once.Goals as goal

pub give-requires-2-clause-stands : goal.give-requires-2-clause-stands
give-requires-2-clause-stands g c =
    gives_one Stands ActsAs _ _ (g.K.Desk.view c.args.desk.now) (g.K.Desk.view c.take.new.self) (adding c.args.actor 1) c.take.ensures.seen (c.add.ensures _ _ _ c.in_ok-counter.ensures.ok.1) c.requires.may

pub returns-clause-pass : goal.returns-clause-pass
returns-clause-pass g c =
    let given = c.give-2.ensures.seen _ (c.add.ensures _ _ _ c.in_ok-counter.ensures.ok.1) (inr (adding c.args.actor 1, refl)) in
    let m = one_made (g.K.Desk.view c.args.desk.now) (g.K.Desk.view c.take.new.self) (g.K.Desk.view c.give-2.new.self) (adding c.args.actor 1) c.take.ensures.seen given in (ap (λ w. w.number) m.2, ap (λ w. w.alone) m.2)

pub returns-clause-made : goal.returns-clause-made
returns-clause-made g c =
    let given = c.give-2.ensures.seen _ (c.add.ensures _ _ _ c.in_ok-counter.ensures.ok.1) (inr (adding c.args.actor 1, refl)) in
    one_one c.args.actor (g.K.Desk.view c.args.desk.now) (g.K.Desk.view c.give-2.new.self)
    (one_made (g.K.Desk.view c.args.desk.now) (g.K.Desk.view c.take.new.self) (g.K.Desk.view c.give-2.new.self) (adding c.args.actor 1) c.take.ensures.seen given).1

pub returns-clause-nearer : goal.returns-clause-nearer
returns-clause-nearer g c = λ _ only.
    let given = c.give-2.ensures.seen _ (c.add.ensures _ _ _ c.in_ok-counter.ensures.ok.1) (inr (adding c.args.actor 1, refl)) in
    nearer (g.K.Desk.opening c.args.desk.now) (g.K.Desk.opening c.take.new.self) (g.K.Desk.view c.args.desk.now) (g.K.Desk.view c.take.new.self) (g.K.Desk.view c.give-2.new.self) c.in_ok-counter.counter.total c.args.least
    (adding c.args.actor 1) c.take.ensures.turn.1 (c.take.ensures.alone only) c.in_ok-counter.ensures.ok.1.2 (search rules) (search rules) refl (ap (λ w. w.seen) given)
