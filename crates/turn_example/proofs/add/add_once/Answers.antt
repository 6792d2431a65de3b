use Rattle.std.proofs.Common.{refl, inr, ap, sym, ◌∙◌}
use Rattle.turn_cell.proofs.Clients.{gives_one, one_made}
use Rattle.turn_example.specs.Counting.{adding, total_at, Stands, ActsAs}
use Rattle.turn_example.proofs.add.add_once.Goals as goal

pub give-requires-clause-stands : goal.give-requires-clause-stands
give-requires-clause-stands g c =
    gives_one Stands ActsAs _ _ (g.K.Desk.view c.args.desk.now) (g.K.Desk.view c.take.new.self) (adding c.args.actor c.args.amount) c.take.ensures.seen (c.add.ensures _ _ _ c.in_ok-counter.ensures.ok.1) c.requires.may

pub returns-clause-made : goal.returns-clause-made
returns-clause-made g c =
    one_made (g.K.Desk.view c.args.desk.now) (g.K.Desk.view c.take.new.self) _ (adding c.args.actor c.args.amount) c.take.ensures.seen
    (c.give.ensures.seen _ (c.add.ensures _ _ _ c.in_ok-counter.ensures.ok.1) (inr (adding c.args.actor c.args.amount, refl)))

pub returns-clause-total : goal.returns-clause-total
returns-clause-total g c =
    let given = c.give.ensures.seen _ (c.add.ensures _ _ _ c.in_ok-counter.ensures.ok.1) (inr (adding c.args.actor c.args.amount, refl)) in
    let now = c.add.ensures (g.K.Desk.opening c.take.new.self) (g.K.Desk.view c.take.new.self).seen (g.K.Desk.view c.take.new.self).number c.in_ok-counter.ensures.ok.1 in
    now.2 ∙ (λ i. total_at (c.take.ensures.turn.1 i) (sym (ap (λ w. w.seen) given) i))

pub returns-clause-first : goal.returns-clause-first
returns-clause-first g c =
    let made = one_made (g.K.Desk.view c.args.desk.now) (g.K.Desk.view c.take.new.self) _ (adding c.args.actor c.args.amount) c.take.ensures.seen
    (c.give.ensures.seen _ (c.add.ensures _ _ _ c.in_ok-counter.ensures.ok.1) (inr (adding c.args.actor c.args.amount, refl))) in
    ap (λ w. w.first) made.2
