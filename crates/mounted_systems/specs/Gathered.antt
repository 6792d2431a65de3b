-- What gathering the pages of dies that are all at home came to. This project's own.
use Rattle.std.specs.Prelude.{◌≡◌, ◌<◌, ℕ, List, map, IfSome}
use Rattle.page_base.specs.Drive.{Drive}
use Rattle.flash_die.specs.Dies.{DieView}
use Rattle.drive_array.specs.Reads.{die_at, share_of, StopsIn, RisesAt, FailsWithin, GivesAll}
use Rattle.system_state.specs.declared.dies.Slot.{Slot}
use Rattle.system_start.specs.Started.{at_home}

module _ {D : Type 0} (seen : D → DieView) where
  -- Reading has stopped at a page of this die, whose count of faults has risen; where it tells a plan, the plan lists one of the reads of its
  -- share. `left` are the dies as they then were.
  pub record HasStopped (drive : Drive) (slots : List (Slot D)) (die : ℕ) : Type 0 where
    pub dies : List D
    pub left : List D
    pub home : at_home dies ≡ slots
    pub stops : StopsIn drive die (map seen dies) (map seen left)
    pub rises : RisesAt die (map seen dies) (map seen left)
    pub listed : IfSome (die_at (map seen dies) die).plan (FailsWithin (share_of drive die))

  -- None failed: where a die tells a plan, the plan lists none of the reads of its share.
  pub record HasGiven (drive : Drive) (slots : List (Slot D)) : Type 0 where
    pub dies : List D
    pub home : at_home dies ≡ slots
    pub unlisted : (die : ℕ) → die < drive.dies → IfSome (die_at (map seen dies) die).plan (GivesAll (share_of drive die))
