use Rattle.std.proofs.Common.{◌+◌, ◌/◌, ℕ, List, ◌++◌, length, sym, ap, ◌∙◌}
use Rattle.std.specs.declared.vec.Vec.{Vec}
use Rattle.std.specs.declared.alloc.Global.{Global}
use Rattle.predicates.specs.Select.{is_selected, select}
use Rattle.predicates.proofs.SelectLaws.{kept, passed, left}
use Rattle.predicates.proofs.selecting.select.Goals.{then-is_selected+in_ok-push, else-is_selected}
use Rattle.predicates.proofs.selecting.select.Goals as goal

pub loop-number-preserved : goal.loop-number-preserved
loop-number-preserved c =
    let f = is_selected c.args.pred.now c.args.width c.args.input.now in
    let n = length c.args.input.now / c.args.width in
    let i = c.loop-number.number in
    let items = c.loop-number.numbers.items in
    let whole = select c.args.pred.now c.args.width c.args.input.now in
    elim c.if-is_selected.branch [
      | then-is_selected+in_ok-push w ↦
          ap (λ (v : Vec ℕ Global). v.items ++ left f (i + 1) n) w.numbers-is ∙ ap (λ (t : List ℕ). t ++ left f (i + 1) n) w.in_ok-push.ensures.items ∙ kept f i n items whole c.loop-number-test.true (sym c.is_selected.ensures ∙ w.if-is_selected.true) c.loop-number.invariant
      | else-is_selected w ↦
          ap (λ (v : Vec ℕ Global). v.items ++ left f (i + 1) n) w.numbers-is ∙ passed f i n items whole c.loop-number-test.true (sym c.is_selected.ensures ∙ w.if-is_selected.false) c.loop-number.invariant
    ]
