use Rattle.std.proofs.Common.{◌<◌, length, true, refl, arith}
use Rattle.ftl_die.proofs.Moving.{held_moves}
use Rattle.ftl_die.proofs.steps.hold_page.Goals as goal

pub returns-clause-moves : goal.returns-clause-moves
returns-clause-moves g c =
    let layout = c.args.layout.now in
    let read = c.in_ok-read.ensures {u = tt} in
    let under : c.free_slot-slot.result < length c.args.slots.now = omega (arith, c.free_slot-slot.ensures.slot, c.requires.slots) in
    rw c.hold.ensures.places (held_moves _ _ c.args.slots.now layout.places.items layout.used.items layout.live.items layout.owners.items c.args.page c.args.at c.free_slot-slot.result c.read.new.into layout.laid c.requires.page c.requires.at c.free_slot-slot.ensures.free under read.pages (read.ok (refl {a = true})) read.counts)
