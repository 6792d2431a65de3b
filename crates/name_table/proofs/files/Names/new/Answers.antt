use Rattle.std.proofs.Common.{◌≡◌, replicate, false, rules}
use Rattle.name_table.proofs.Kept.{none_kept}
use Rattle.name_table.proofs.Indexes.{indexes_none}
use Rattle.name_table.proofs.files.Names.new.Goals as goal

pub invariant_of-result : goal.invariant_of-result
invariant_of-result c =
    let marks : c.in_ok-taken.taken.items ≡ replicate 4096 false = search rules in
    let k = none_kept c.in_ok-files.files.items c.in_ok-taken.taken.items c.in_ok-files.ensures.items marks in
    (k.0, k.1, c.in_ok-files.ensures.capacity, indexes_none c.in_ok-index.index c.in_ok-files.files.items c.in_ok-files.ensures.items c.in_ok-index.ensures.empty c.in_ok-index.ensures.room)
