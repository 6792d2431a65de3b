use Rattle.std.proofs.Common.{◌≡◌, [], refl, ap, ◌∙◌}
use Rattle.page_base.specs.Drive.{meta_pages}
use Rattle.system_state.specs.declared.state.Sizes.{Sizes}
use Rattle.desk_turns.proofs.Went.{worn_went, if_err}
use Rattle.quick_calls.proofs.Taking.{gave_back, turned_back}
use Rattle.sync_calls.proofs.pages.turn_pages.Goals as goal

pub give-requires-clause-stands : goal.give-requires-clause-stands
give-requires-clause-stands g c =
    let a = c.in_ok-system.ensures in
    gave_back g.D.Die.seen g.J.CallJob.suits c.in_ok-system.system.state (g.K.Desk.opening c.take.new.self) (g.K.Desk.view c.take.new.self) a.ok.1

pub returns-clause-did : goal.returns-clause-did
returns-clause-did g c =
    let a = c.in_ok-system.ensures in
    let s = c.in_ok-system.system.state in
    let p = g.K.Desk.opening c.take.new.self in
    let q = g.K.Desk.opening c.args.desk.now in
    let v = g.K.Desk.view c.args.desk.now in
    let u = g.K.Desk.view c.take.new.self in
    turned_back g.D.Die.seen g.J.CallJob.suits s p q v u (g.K.Desk.view c.give.new.self) (λ c es. es ≡ []) a.turn.1 a.ok.1 a.seen a.between a.alone c.give.ensures.seen refl

pub returns-clause-count : goal.returns-clause-count
returns-clause-count g c =
    let a = c.in_ok-system.ensures in
    let known = a.ok.1 in
    known.kept.sizes.meta ∙ ap meta_pages (ap (λ (z : Sizes). z.blocks) known.sizes ∙ ap (λ z. z.value.sizes.blocks) a.turn.1)

pub returns-in_err-system-clause-went : goal.returns-in_err-system-clause-went
returns-in_err-system-clause-went g c =
    let a = c.in_err-system.ensures in
    if_err c.from_residual.result (worn_went (g.K.Desk.view c.args.desk.now) (g.K.Desk.view c.take.new.self) a.seen a.alone)
