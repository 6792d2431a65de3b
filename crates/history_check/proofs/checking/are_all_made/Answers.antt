use Rattle.std.proofs.Common.{sym, ◌∙◌}
use Rattle.history_check.specs.Held.{count_of}
use Rattle.history_check.proofs.Counts.{all_true, all_false, all_next}
use Rattle.history_check.proofs.checking.are_all_made.Goals as goal

pub loop-i-preserved : goal.loop-i-preserved
loop-i-preserved c =
    all_next (λ x. x.requests) (count_of c.args.counts.now) c.args.lanes.now c.loop-i.i c.index-lanes-i.result c.loop-i-test.true c.index-lanes-i.is
    (sym c.count_of.ensures ∙ sym c.from.ensures ∙ c.if-from-len.false ∙ c.len.ensures) c.loop-i.invariant

pub returns : goal.returns
returns c = all_true (λ x. x.requests) (count_of c.args.counts.now) c.args.lanes.now c.loop-i.i c.loop-i-test.false c.loop-i.invariant

pub returns-then-from-len : goal.returns-then-from-len
returns-then-from-len c =
    all_false (λ x. x.requests) (count_of c.args.counts.now) c.args.lanes.now c.loop-i.i c.index-lanes-i.result c.loop-i-test.true c.index-lanes-i.is
    (λ same. c.if-from-len.true (c.from.ensures ∙ c.count_of.ensures ∙ same ∙ sym c.len.ensures)) c.loop-i.invariant
