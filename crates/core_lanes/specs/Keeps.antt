-- What each law of one kind of event says. This project's own.
use Rattle.core_lemmas.specs.Event.{Event}
use Rattle.core_lemmas.specs.State.{Core}
use Rattle.core_lemmas.specs.Coherent.{Coherent}
use Rattle.core_lemmas.specs.Happens.{Happens}

-- where it happens in a coherent core, it leaves a coherent one
abbrev pub Keeps : Event → Type 0
Keeps e = (c c2 : Core) → Coherent c → Happens c e c2 → Coherent c2
