use Rattle.std.proofs.Common.{◌≡◌, ℕ, ◌<◌, Some, length}
use Rattle.index_lists.specs.Words.{count}
use Rattle.index_lists.specs.Lists.{list_at}
use Rattle.range_locks.specs.Walks.{lesser, least_in, rest_from, hit_at}
use Rattle.range_locks.proofs.walks.least_hit.Given as goal

abbrev pub invariant-loop-at : goal.invariant-loop-at
invariant-loop-at l = record {
  here : (b : ℕ) → l.at ≡ Some b → 0 < count b (list_at l.links l.list);
  left : lesser l.least (least_in (hit_at l.range l.held) (rest_from l.at (list_at l.links l.list))) ≡ least_in (hit_at l.range l.held) (list_at l.links l.list);
}

abbrev pub decreases-loop-at : goal.decreases-loop-at
decreases-loop-at l = length (rest_from l.at (list_at l.links l.list))
