use Rattle.std.proofs.Common.{◌++◌, ◌∷◌, []}
use Rattle.turn_example.specs.Counting.{adding}
use Rattle.turn_example.proofs.counter.longer.Given as goal

abbrev pub ghost-of : goal.ghost-of
ghost-of a = a._about.now.value ++ adding a._new.now.0 a._new.now.1 ∷ []
