use Rattle.std.proofs.Common.{true, refl}
use Rattle.ftl_die.proofs.Moving.{erased_moves, erased_later}
use Rattle.ftl_die.proofs.steps.erase_block.Goals as goal

pub returns-clause-moves : goal.returns-clause-moves
returns-clause-moves g c =
    let erased = c.in_ok-erase.ensures {u = tt} in
    erased_moves _ _ c.args.layout.now.places.items _ c.args.layout.now.used.items c.args.block c.requires.stored c.requires.block c.requires.dead erased.counts (erased.ok (refl {a = true})) c.count_erase.ensures.places

pub returns-clause-stored : goal.returns-clause-stored
returns-clause-stored g c =
    let erased = c.in_ok-erase.ensures {u = tt} in
    erased_later _ _ c.args.layout.now.places.items _ c.args.layout.now.used.items _ c.args.block c.requires.stored c.requires.block c.requires.dead erased.counts (erased.ok (refl {a = true})) c.count_erase.ensures.places c.count_erase.ensures.used
