use Rattle.std.proofs.Common.{sym, subst, arith}
use Rattle.name_table.specs.Files.{Table, IdsBelow}
use Rattle.name_table.proofs.Tables.{below_at}
use Rattle.name_table.proofs.Kept.{next_kept}
use Rattle.name_table.proofs.files.Names.set_next.Goals as goal

pub invariant_of-self : goal.invariant_of-self
invariant_of-self c =
    let i = c.self.inside in
    let above : IdsBelow c.args.next i.files.items = subst (λ (t : Table). IdsBelow c.args.next t.files) (sym c.self.view_is) c.requires.above in
    let k = next_kept i.files.items i.taken.items i.next c.args.next (c.self.invariant.0, c.self.invariant.1) c.requires.low (omega arith) (below_at c.args.next i.files.items above) in
    (k.0, k.1, c.self.invariant.2, c.self.invariant.3)
