use Rattle.std.proofs.Common.{◌≡◌, ◌+◌, ◌≤◌, true, get_or, set, take, drop}
use Rattle.ftl_die.specs.Places.{live_in, held_in}
use Rattle.ftl_die.specs.Stored.{IsStored, Moves}
use Rattle.ftl_die.proofs.collection.settle_all.Given as goal

abbrev pub invariant-loop-slot : goal.invariant-loop-slot
invariant-loop-slot g l = record {
  stored : IsStored (g.R.RawFlash.seen l.raw) l.layout.places.items l.layout.used.items;
  moves : Moves (g.R.RawFlash.seen l.initial.raw) l.slots l.initial.layout.places.items l.good (g.R.RawFlash.seen l.raw) l.slots l.layout.places.items;
  used : l.layout.used.items ≡ set l.initial.layout.used.items l.block (get_or l.layout.used.items l.block 0);
  counted : get_or l.layout.used.items l.block 0 + held_in (drop l.slot l.layout.owners.items) ≡ held_in l.initial.layout.owners.items;
  sum : held_in l.layout.owners.items + live_in l.block l.layout.places.items ≤ held_in l.initial.layout.owners.items + live_in l.block l.initial.layout.places.items;
  free : l.good ≡ true → held_in (take l.slot l.layout.owners.items) ≡ 0;
}
