use Rattle.std.specs.Prelude.{map}
use Rattle.page_base.specs.Drive.{total_pages}
use Rattle.drive_array.proofs.InOrder.{stopped_rose, stopped_listed}
use Rattle.drive_array.proofs.gathering.gather.Goals as goal

pub returns-clause-fault : goal.returns-clause-fault
returns-clause-fault g c = λ die failed.
    stopped_rose c.args.geometry.dies (total_pages c.args.geometry.blocks) die (map (λ d. g.D.Die.seen d) c.args.dies.now.items) (map (λ d. g.D.Die.seen d) c.gather_in_order.new.dies.items) c.gather_in_order.ensures.some (c.gather_in_order.ensures.stopped die failed)

pub returns-clause-listed : goal.returns-clause-listed
returns-clause-listed g c = λ die failed.
    stopped_listed c.args.geometry.dies (total_pages c.args.geometry.blocks) die (map (λ d. g.D.Die.seen d) c.args.dies.now.items) (map (λ d. g.D.Die.seen d) c.gather_in_order.new.dies.items) c.gather_in_order.ensures.some (c.gather_in_order.ensures.stopped die failed)
