use Rattle.std.proofs.Common.{◌≡◌, ◌+◌, ◌<◌, ℕ, true, get_or}
use Rattle.ftl_die.specs.declared.place.Place.TheVariants.{Unwritten}
use Rattle.ftl_die.specs.Places.{one_in, live_in, held_in}
use Rattle.ftl_die.specs.Stored.{IsStored, Moves}
use Rattle.ftl_die.proofs.collection.hold_live.Given as goal

abbrev pub invariant-loop-page : goal.invariant-loop-page
invariant-loop-page g l = record {
  stored : IsStored (g.R.RawFlash.seen l.raw) l.layout.places.items l.layout.used.items;
  moves : Moves (g.R.RawFlash.seen l.initial.raw) l.initial.slots l.initial.layout.places.items true (g.R.RawFlash.seen l.raw) l.slots l.layout.places.items;
  used : l.layout.used.items ≡ l.initial.layout.used.items;
  sum : held_in l.layout.owners.items + live_in l.block l.layout.places.items ≡ held_in l.initial.layout.owners.items + live_in l.block l.initial.layout.places.items;
  gone : (other : ℕ) → other < l.page → one_in l.block (get_or l.layout.places.items other Unwritten) ≡ 0;
}
