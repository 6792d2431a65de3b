use Rattle.std.proofs.Common.{◌≡◌, ◌-◌, length}
use Rattle.image_format.specs.Reading.{IsPlaced}
use Rattle.image_format.proofs.entries.next_page.Given as goal

abbrev pub invariant-loop-file : goal.invariant-loop-file
invariant-loop-file l = record {
  placed : IsPlaced l.names l.cover;
  map : l.cover.map ≡ l.initial.cover.map;
  ended : l.cover.ended ≡ l.initial.cover.ended;
}

abbrev pub decreases-loop-file : goal.decreases-loop-file
decreases-loop-file l = length l.names.files - l.cover.index
