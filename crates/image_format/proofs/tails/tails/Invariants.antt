use Rattle.std.proofs.Common.{◌≡◌, ◌-◌, ◌+◌, length, drop}
use Rattle.std.specs.List.{find}
use Rattle.image_format.specs.Tails.{shares, has_tail}
use Rattle.image_format.specs.Tables.{stored_files, blocks_in, pages_of}
use Rattle.image_format.proofs.tails.tails.Given as goal

abbrev pub invariant-loop-file : goal.invariant-loop-file
invariant-loop-file l = record {
  rest : l.start + pages_of (drop l.i (stored_files l.names)) ≡ length l.map.placed;
  value : find (has_tail l.bits l.body) (shares (drop l.i (stored_files l.names)) (drop l.start (blocks_in l.map))) ≡ find (has_tail l.bits l.body) (shares (stored_files l.names) (blocks_in l.map));
}

abbrev pub decreases-loop-file : goal.decreases-loop-file
decreases-loop-file l = length l.names.files - l.i
