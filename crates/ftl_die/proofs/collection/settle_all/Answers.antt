use Rattle.std.proofs.Common.{◌≡◌, ◌<◌, true, length, set, None, ap, sym, ◌∙◌, arith}
use Rattle.std.specs.Prelude.{Bool, if◌then◌else◌, is_ok}
use Rattle.std.proofs.lemmas.List.Sums.{sum_by-drop_more}
use Rattle.ftl_die.specs.Places.{one_held, held_in}
use Rattle.ftl_die.proofs.Moving.{moves_both, held_in-le, settled_used, drop_settled, take_settled, both_true}
use Rattle.ftl_die.proofs.collection.settle_all.Goals as goal

pub settle-requires-clause-open : goal.settle-requires-clause-open
settle-requires-clause-open g c =
    let now = c.loop-slot.layout in
    let under : c.loop-slot.slot < length now.owners.items = omega (arith, now.laid.slots, c.loop-slot-test.true) in
    let rest = sum_by-drop_more one_held now.owners.items c.loop-slot.slot None under in
    let most = held_in-le c.args.layout.now.owners.items in
    omega (arith, rest, most, c.loop-slot.invariant.counted, c.args.layout.now.laid.slots)

pub loop-slot-preserved : goal.loop-slot-preserved
loop-slot-preserved g c =
    let before = c.loop-slot.invariant in
    let now = c.loop-slot.layout in
    let done = c.settle.ensures in
    let slot = c.loop-slot.slot in
    let under : slot < length now.owners.items = omega (arith, now.laid.slots, c.loop-slot-test.true) in
    let rest = sum_by-drop_more one_held now.owners.items slot None under in
    let used = settled_used c.args.layout.now.used.items now.used.items c.settle.new.layout.used.items c.args.block _ c.requires.block before.used done.used in
    let good : c.is_ok-good.result ≡ is_ok c.settle.result = grind arith in
    record {
      stored = done.stored;
      moves = rw good (moves_both _ _ _ _ _ _ _ _ _ c.loop-slot.good (is_ok c.settle.result) before.moves done.moves);
      used = used.1;
      counted = omega (arith, used.0, rest, before.counted, ap held_in (drop_settled now.owners.items c.settle.new.layout.owners.items slot (is_ok c.settle.result) done.owners));
      sum = omega (arith, before.sum, done.sum);
      free = λ all.
          let both = both_true c.loop-slot.good c.is_ok-good.result all in
          let fine : is_ok c.settle.result ≡ true = sym good ∙ both.1 in
          let free = done.owners ∙ ap (λ (b : Bool). if b then set now.owners.items slot None else now.owners.items) fine in
          take_settled now.owners.items c.settle.new.layout.owners.items slot under free (before.free both.0);
    }
