use Rattle.std.proofs.Common.{◌≡◌, ◌≤◌, ◌-◌, ◌+◌, ◌*◌, length}
use Rattle.image_format.specs.Records.{records}
use Rattle.image_format.specs.Reading.{listing}
use Rattle.name_table.specs.Files.{IdsBelow}
use Rattle.image_format.proofs.records.records.Given as goal

abbrev pub invariant-loop : goal.invariant-loop
invariant-loop l = record {
  rest : length l.rest ≡ (l.l.records - l.counter) * l.l.size;
  at : l.at ≡ 4096 + l.counter * l.l.size;
  room : length l.so_far.names.files ≤ l.counter;
  below : IdsBelow l.next l.so_far.names.files;
  ids : IdsBelow (l.so_far.last + 1) l.so_far.names.files;
  value : records l.l l.next (l.l.records - l.counter) l.at (listing l.so_far) l.rest ≡ records l.l l.next l.l.records 4096 (listing l.initial.so_far) l.bytes;
}
