use Rattle.std.proofs.Common.{refl, ap, ◌∙◌}
use Rattle.system_state.specs.declared.state.Sizes.{Sizes}
use Rattle.system_start.specs.Fresh.{told_yet}
use Rattle.system_start.proofs.joining.join.Goals as goal

pub returns-clause-fresh : goal.returns-clause-fresh
returns-clause-fresh g c = λ dies home.
    let t = c.requires.tables in
    record {
      sizes = c.sizes_of-sizes.ensures;
      pair = t.blocks.pair;
      meta_is = refl;
      functions = t.lists.functions;
      room = t.lists.room;
      ranges = t.lists.ranges;
      lanes_are = t.rows.lanes_are;
      calls = t.rows.calls;
      jobs = c.requires.jobs;
      queue = t.lists.queue;
      pins = t.blocks.pins;
      taken = refl;
      rack = home;
      spare = c.requires.spare;
      spare_room = c.requires.room;
      closer = refl;
      last = refl;
      places = refl;
      made = refl;
      told = c.note_start-told.ensures ∙ ap (λ (z : Sizes). told_yet z.blocks z.lanes z.dies) c.sizes_of-sizes.ensures;
    }
