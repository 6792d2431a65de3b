-- What is told of a die over raw flash. This project's own.
use Rattle.std.specs.Prelude.{Bool}
use Rattle.flash_die.specs.Dies.{DieView}
use Rattle.flash_raw.specs.declared.raw_flash.RawFlash.{Ghosts}
use Rattle.ftl_die.specs.Stored.{ftl_view, Moves}
use Rattle.ftl_die.specs.declared.ftl_die.FtlDie.{FtlDie}

module _ {R : Type 0} {g : Ghosts R} where
  -- its pages, and the count and the bound of the raw flash
  abbrev pub view_of : FtlDie R g → DieView
  view_of die = ftl_view (g.seen die.raw) die.slots.items die.layout.places.items

  -- its raw flash
  abbrev pub raw_of : FtlDie R g → R
  raw_of die = die.raw

  -- a step of the die keeps what its pages have
  abbrev pub KeepsPages : FtlDie R g → Bool → FtlDie R g → Type 0
  KeepsPages old good new =
      Moves (g.seen old.raw) old.slots.items old.layout.places.items good (g.seen new.raw) new.slots.items new.layout.places.items
