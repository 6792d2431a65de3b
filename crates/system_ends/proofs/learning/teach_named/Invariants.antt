use Rattle.std.proofs.Common.{◌≡◌, length}
use Rattle.std.specs.Prelude.{vec_capacity}
use Rattle.system_state.specs.Kept.{AreFunctions}
use Rattle.system_ends.specs.Landed.{taught}
use Rattle.system_ends.proofs.Taught.{first_changed}
use Rattle.system_ends.proofs.learning.teach_named.Given as goal

abbrev pub invariant-loop-i : goal.invariant-loop-i
invariant-loop-i l = record {
  rows : l.functions.items ≡ first_changed l.i (taught l.name l.used l.pages) l.initial.functions.items;
  len : length l.functions.items ≡ length l.initial.functions.items;
  kept : AreFunctions l.functions.items;
  room : vec_capacity l.functions ≡ vec_capacity l.initial.functions;
}
