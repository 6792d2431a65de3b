use Rattle.std.proofs.Common.{refl, sym, subst, ◌∙◌}
use Rattle.event_turns.specs.MetaTurns.{MetaDid}
use Rattle.event_turns.proofs.Answering.{goes_first, is_barred, tried_meta}
use Rattle.event_turns.proofs.metas.try_meta.Goals as goal

pub try_meta_out-answer-requires-clause-first : goal.try_meta_out-answer-requires-clause-first
try_meta_out-answer-requires-clause-first g c = goes_first c.args.i c.args.state.now.pair.unclean (sym c.must_wait.ensures ∙ c.if-must_wait.false)

pub returns-then-must_wait : goal.returns-then-must_wait
returns-then-must_wait g c = let b = is_barred c.args.i c.args.state.now.pair.unclean (sym c.must_wait.ensures ∙ c.if-must_wait.true) in (refl, record { first = b.0; some_are = b.1 })

pub returns : goal.returns
returns g c =
    let e = c.try_meta_out-answer.ensures in
    let s = c.args.state.now in
    let t = c.try_meta_out-answer.new.state in
    let page = c.try_meta_out-answer.new.into in
    subst (λ z. MetaDid g.D.Die.seen g.J.CallJob.suits s c.args.actor c.args.i page z t) (sym c.told.ensures)
    (tried_meta g.D.Die.seen g.J.CallJob.suits c.args.actor c.args.i page c.args.into.now s t c.try_meta_out-answer.result
    (goes_first c.args.i s.pair.unclean (sym c.must_wait.ensures ∙ c.if-must_wait.false)) e.page e.bytes e.out e.stands e.not_yet e.same)
