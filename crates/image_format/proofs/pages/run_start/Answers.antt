use Rattle.std.proofs.Common.{drop, ap, ◌∙◌}
use Rattle.std.proofs.lemmas.List.{drop-drop}
use Rattle.extent_map.specs.Places.{runs}
use Rattle.image_format.proofs.pages.run_start.Goals as goal

pub loop-k-preserved : goal.loop-k-preserved
loop-k-preserved c = record {
  within = c.behind_run-at.ensures.within;
  value = c.behind_run-at.ensures.next ∙ ap (drop 1) c.loop-k.invariant.value ∙ drop-drop 1 c.loop-k.k (runs c.args.map.now.placed);
}
