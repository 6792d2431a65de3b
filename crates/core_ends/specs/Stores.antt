-- Which ends store nothing: those of calls with a mark, and of calls that only read or that did not succeed. This project's own.
use Rattle.std.specs.Prelude.{◌≡◌, ◌⊎◌, ℕ, true, false}
use Rattle.core_quick.specs.Reply.{Reply}
use Rattle.core_quick.specs.State.{Core}
use Rattle.core_quick.specs.PageEvents.{flight_at}
use Rattle.core_quick.specs.EndEvent.{has_changed}

abbrev pub StoresNothing : Core → ℕ → Reply → Type 0
StoresNothing c lane reply = ((c.lanes lane).mark ≡ true) ⊎ (has_changed (flight_at c.calls lane) reply ≡ false)
