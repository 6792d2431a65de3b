-- What a mirror is seen as, by what is seen of its copies. This project's own.
use Rattle.flash_die.specs.declared.die.Die.{Ghosts}
use Rattle.mirror_die.specs.Mirror.{MirrorView}
use Rattle.mirror_die.specs.declared.mirror.MirrorDie.{MirrorDie}

module _ {A B : Type 0} {a : Ghosts A} {b : Ghosts B} where
  abbrev pub view_of : MirrorDie A B a b → MirrorView
  view_of mirror = record { first = a.seen mirror.first; second = b.seen mirror.second; fresh = mirror.fresh; faults = mirror.faults }
