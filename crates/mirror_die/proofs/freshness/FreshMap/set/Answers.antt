use Rattle.std.proofs.Common.{◌<◌, length, arith}
use Rattle.mirror_die.proofs.Counting.{stale_of-fits}
use Rattle.mirror_die.proofs.freshness.FreshMap.set.Goals as goal

pub overflow_add-self : goal.overflow_add-self
overflow_add-self c =
    let fresh = c.self.inside.pages.items in
    let within : c.args.page < length fresh = grind arith in
    omega (arith, stale_of-fits fresh c.args.page c.args.fresh c.index.result.now within c.index.ensures c.self.invariant.1, c.self.invariant.0, c.alone.ensures, c.alone-2.ensures)
