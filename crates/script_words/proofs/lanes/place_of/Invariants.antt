use Rattle.std.proofs.Common.{◌≡◌, drop}
use Rattle.script_words.specs.Lanes.{place_of}
use Rattle.script_words.proofs.lanes.place_of.Given as goal

abbrev pub invariant-loop-i : goal.invariant-loop-i
invariant-loop-i l = place_of l.name l.i (drop l.i l.lanes) ≡ place_of l.name 0 l.lanes
