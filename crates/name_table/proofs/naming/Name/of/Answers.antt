use Rattle.std.proofs.Common.{IsTrue, rules}
use Rattle.name_table.specs.Name.{is_name}
use Rattle.name_table.proofs.Padded.{padded, short_name}
use Rattle.name_table.proofs.naming.Name.of.Goals as goal

pub invariant_of-result : goal.invariant_of-result
invariant_of-result c =
    let named : IsTrue (is_name c.args.bytes.now) = search rules in
    padded c.args.bytes.now _ c.copy_from_slice.ensures.after (short_name c.args.bytes.now named) named
