use Rattle.std.proofs.Common.{◌≡◌, ◌++◌, true, eqb, take, drop}
use Rattle.std.specs.List.{list_any}
use Rattle.name_table.specs.Hashes.{without_id}
use Rattle.name_table.proofs.index.place_of.Given as goal

abbrev pub invariant-loop-i : goal.invariant-loop-i
invariant-loop-i l = record {
  any : list_any (λ x. eqb x.id l.id) (drop l.i l.entries) ≡ true;
  rest : take l.i l.entries ++ without_id l.id (drop l.i l.entries) ≡ without_id l.id l.entries;
}
