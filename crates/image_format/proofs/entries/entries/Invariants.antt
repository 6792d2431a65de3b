use Rattle.std.proofs.Common.{◌≡◌, ◌-◌, ◌+◌, ◌*◌, length}
use Rattle.image_format.specs.Entries.{entries}
use Rattle.image_format.specs.Tables.{stored_files}
use Rattle.image_format.specs.Reading.{cover, IsPlaced}
use Rattle.image_format.proofs.entries.entries.Given as goal

abbrev pub invariant-loop : goal.invariant-loop
invariant-loop l = record {
  rest : length l.rest ≡ (l.count - l.counter) * 16;
  at : l.at ≡ l.start + l.counter * 16;
  placed : IsPlaced l.names l.so_far;
  blocks : l.so_far.map.blocks ≡ l.initial.so_far.map.blocks;
  value : entries l.initial.so_far.map.blocks (stored_files l.names) (l.count - l.counter) l.at (cover l.so_far) l.rest ≡ entries l.initial.so_far.map.blocks (stored_files l.names) l.count l.start (cover l.initial.so_far) l.bytes;
}
