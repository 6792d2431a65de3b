use Rattle.std.proofs.Common.{◌≡◌, ◌≤◌, ◌-◌, ◌*◌, ◌++◌, length}
use Rattle.image_format.specs.Tables.{pages_from}
use Rattle.image_format.proofs.mounting.push_pages.Given as goal

abbrev pub invariant-loop : goal.invariant-loop
invariant-loop l = record {
  rest : 4096 * (l.count - l.counter) ≤ length l.rest;
  value : l.into.items ++ pages_from l.rest (l.count - l.counter) ≡ l.initial.into.items ++ pages_from l.bytes l.count;
}
