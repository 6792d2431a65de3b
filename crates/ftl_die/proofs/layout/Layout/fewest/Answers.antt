use Rattle.ftl_die.proofs.Changes.{fewest-dead, fewest-least}
use Rattle.ftl_die.proofs.layout.Layout.fewest.Goals as goal

pub returns-clause-fewest : goal.returns-clause-fewest
returns-clause-fewest c = λ block under. let self = c.args.self.now in fewest-least self.places.items self.used.items self.live.items self.owners.items c.least.result block self.laid (rw c.deref.ensures.value at c.least.ensures) under

pub returns-clause-some_dead : goal.returns-clause-some_dead
returns-clause-some_dead c = let self = c.args.self.now in fewest-dead self.places.items self.used.items self.live.items self.owners.items c.least.result self.laid (rw c.deref.ensures.value at c.least.ensures)
