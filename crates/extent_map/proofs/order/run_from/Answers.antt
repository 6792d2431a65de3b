use Rattle.std.proofs.Common.{◌≡◌, ◌+◌, get_or, true, false, sym, ◌∙◌, arith}
use Rattle.std.specs.Prelude.{slice_get}
use Rattle.extent_map.specs.declared.places.Place.{Place}
use Rattle.extent_map.specs.Owners.{joins}
use Rattle.extent_map.proofs.Extents.{count_step, count_done, run_done, joins_within}
use Rattle.extent_map.proofs.order.run_from.Goals as goal

abbrev nowhere : Place
nowhere = record { file = 0; page = 0; block = 0 }

pub loop-count-preserved : goal.loop-count-preserved
loop-count-preserved c =
    let f = get_or c.args.placed.now c.args.at nowhere in
    let joined : joins f c.loop-count.count (slice_get c.args.placed.now (c.args.at + c.loop-count.count)) ≡ true = sym c.joins.ensures.value ∙ c.loop-count-test.true in
    record {
      some = omega arith;
      within = omega (arith, joins_within f c.loop-count.count c.args.placed.now (c.args.at + c.loop-count.count) joined);
      total = count_step f c.loop-count.count c.args.at _ c.args.placed.now joined c.loop-count.invariant.total;
    }

pub returns-clause-run : goal.returns-clause-run
returns-clause-run c =
    let f = get_or c.args.placed.now c.args.at nowhere in
    let apart : joins f c.loop-count.count (slice_get c.args.placed.now (c.args.at + c.loop-count.count)) ≡ false = sym c.joins.ensures.value ∙ c.loop-count-test.false in
    run_done nowhere c.loop-count.count c.args.at c.args.placed.now c.requires.within (count_done f c.loop-count.count c.args.at _ c.args.placed.now apart c.loop-count.invariant.total)
