use Rattle.std.proofs.Common.{◌+◌, ◌-◌, ◌≤◌, take, drop, ap, ◌∙◌, arith, rules}
use Rattle.name_table.specs.Hashes.{before}
use Rattle.name_table.proofs.Classes.{before_more, part_is}
use Rattle.name_table.proofs.index.with_hash.Goals as goal

pub slice_bounds-result-count : goal.slice_bounds-result-count
slice_bounds-result-count c = omega (arith, c.before-from.ensures.value, c.before-to.ensures.value, before_more c.args.hash (c.args.hash + 1) c.args.entries.now (omega arith))

pub slice_bounds-result-start : goal.slice_bounds-result-start
slice_bounds-result-start c =
    let order : c.before-from.result ≤ c.before-to.result = omega (arith, c.before-from.ensures.value, c.before-to.ensures.value, before_more c.args.hash (c.args.hash + 1) c.args.entries.now (omega arith)) in
    search rules

pub returns : goal.returns
returns c =
    ap (λ n. take (n - c.before-from.result) (drop c.before-from.result c.args.entries.now)) c.before-to.ensures.value
    ∙ ap (λ n. take (before (c.args.hash + 1) c.args.entries.now - n) (drop n c.args.entries.now)) c.before-from.ensures.value
    ∙ part_is 0 c.args.hash c.args.entries.now c.requires
