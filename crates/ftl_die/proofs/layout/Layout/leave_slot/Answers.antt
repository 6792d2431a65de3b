use Rattle.std.proofs.Common.{arith}
use Rattle.ftl_die.proofs.Changes.{left_slot, slot-below}
use Rattle.ftl_die.proofs.layout.Layout.leave_slot.Goals as goal

pub index_mut-requires : goal.index_mut-requires
index_mut-requires c =
    let self = c.args.self.now in
    let below = slot-below self.places.items self.used.items self.live.items self.owners.items c.args.page c.args.slot self.laid c.requires.there in
    omega (arith, below, self.laid.slots, self.owners.ok.0)

pub invariant_of-self : goal.invariant_of-self
invariant_of-self c =
    let self = c.args.self.now in
    record { laid = left_slot self.places.items self.used.items self.live.items self.owners.items c.args.page c.args.slot self.laid c.requires.page c.requires.there }
