use Rattle.std.proofs.Common.{◌≡◌, ℕ, ◌<◌, Some, length}
use Rattle.index_lists.specs.Words.{count}
use Rattle.index_lists.specs.Lists.{list_at}
use Rattle.range_locks.specs.Walks.{place_for, rest_from}
use Rattle.range_locks.proofs.walks.place_for.Given as goal

abbrev pub invariant-loop-at : goal.invariant-loop-at
invariant-loop-at l = record {
  here : (b : ℕ) → l.at ≡ Some b → 0 < count b (list_at l.links l.list);
  left : place_for l.held l.call (rest_from l.at (list_at l.links l.list)) ≡ place_for l.held l.call (list_at l.links l.list);
}

abbrev pub decreases-loop-at : goal.decreases-loop-at
decreases-loop-at l = length (rest_from l.at (list_at l.links l.list))
