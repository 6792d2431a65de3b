use Rattle.std.proofs.Common.{◌≡◌, ◌-◌, ◌++◌}
use Rattle.std.specs.List.{filter, range_with_len}
use Rattle.predicates.specs.Select.{is_selected, select}
use Rattle.predicates.proofs.selecting.select.Given as goal

abbrev pub invariant-loop-number : goal.invariant-loop-number
invariant-loop-number l =
    l.numbers.items ++ filter (is_selected l.pred l.width l.input) (range_with_len l.number (l.records - l.number)) ≡ select l.pred l.width l.input
