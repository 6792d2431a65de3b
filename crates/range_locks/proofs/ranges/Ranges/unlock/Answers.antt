use Rattle.std.proofs.Common.{◌<◌, ◌∙◌, ap, subst, sym, length, ℕ}
use Rattle.index_lists.specs.Words.{without}
use Rattle.index_lists.specs.Lists.{list_at, with_list}
use Rattle.range_locks.specs.Held.{Ranged}
use Rattle.range_locks.proofs.Moves.{ends, unlock_done, now_held}
use Rattle.range_locks.proofs.ranges.Ranges.unlock.Goals as goal

pub invariant_of-self : goal.invariant_of-self
invariant_of-self c =
    let l : c.args.call < length c.self.inside.held.items = subst (λ (v : Ranged). c.args.call < length v.held) (sym c.self.view_is) c.requires.call in
    let n = now_held c.self.inside.held.items c.args.call c.index.result.now c.in-Some.range c.index.ensures l c.in-Some.is in
    unlock_done _ _ _ _ c.args.call c.in-Some.range c.self.invariant (ends _ _ _ _ c.args.call c.in-Some.range c.self.invariant c.self.view_is c.requires.call n) n
    (c.remove.ensures ∙ ap (λ (i : ℕ). with_list c.self.inside.links i (without c.args.call (list_at c.self.inside.links i))) c.list_for.ensures)
