-- The copying of a mirror's stale pages from their fresh copies, by rising page, up to the first failure. This project's own.
use Rattle.std.specs.Prelude.{◌≡◌, ◌≢◌, ℕ, zero, suc, ◌<◌, ◌≤◌, true, false, List, get_or, set, Option, Some, None, Result, Ok, Err}
use Rattle.flash_die.specs.Dies.{DieView, WentRead, WentWrite}
use Rattle.mirror_die.specs.Freshness.{is_on_first, is_on_second, alone}
use Rattle.mirror_die.specs.Mirror.{MirrorView, seen_of}
use Rattle.mirror_die.specs.declared.copies.Copied.{Copied}
use Rattle.mirror_die.specs.declared.copies.Copied.TheVariants.{Done, ReadFailed, WriteFailed}
use Rattle.mirror_die.specs.declared.mirror.RebuildErr.{RebuildErr}
use Rattle.mirror_die.specs.declared.mirror.RebuildErr.TheVariants.{First, Second}
use Rattle.mirror_die.specs.declared.freshness.Fresh.{Fresh}
use Rattle.mirror_die.specs.declared.freshness.Fresh.TheVariants.{OnBoth, OnFirst, OnSecond}

-- a page is read from one die, and what was read is written to the other; a failure ends it
abbrev pub Copies : Copied → DieView → DieView → ℕ → List ℕ → List ℕ → DieView → DieView → Type 0
Copies Done source target page before after new_source new_target = WentRead source page true before after new_source × WentWrite target page true after new_target
Copies ReadFailed source target page before after new_source new_target = WentRead source page false before after new_source × (new_target ≡ target)
Copies WriteFailed source target page before after new_source new_target = WentRead source page true before after new_source × WentWrite target page false after new_target

-- a page is fresh on both copies where it was copied, and else as it was
abbrev pub marks_after : Copied → List Fresh → ℕ → List Fresh
marks_after Done fresh page = set fresh page OnBoth
marks_after ReadFailed fresh page = fresh
marks_after WriteFailed fresh page = fresh

-- the copy that failed: from the first copy to the second
abbrev pub to_second : Copied → Option RebuildErr
to_second Done = None
to_second ReadFailed = Some First
to_second WriteFailed = Some Second

-- and from the second copy to the first
abbrev pub to_first : Copied → Option RebuildErr
to_first Done = None
to_first ReadFailed = Some Second
to_first WriteFailed = Some First

-- the second copy of a page is made fresh from the first
pub record RestoresSecond (old : MirrorView) (page : ℕ) (failed : Option RebuildErr) (before after : List ℕ) (new : MirrorView) : Type 0 where
  pub outcome : Copied
  pub copies : Copies outcome old.first old.second page before after new.first new.second
  pub answer : failed ≡ to_second outcome
  pub fresh : new.fresh ≡ marks_after outcome old.fresh page
  pub faults : new.faults ≡ old.faults

-- the first copy of a page is made fresh from the second
pub record RestoresFirst (old : MirrorView) (page : ℕ) (failed : Option RebuildErr) (before after : List ℕ) (new : MirrorView) : Type 0 where
  pub outcome : Copied
  pub copies : Copies outcome old.second old.first page before after new.second new.first
  pub answer : failed ≡ to_first outcome
  pub fresh : new.fresh ≡ marks_after outcome old.fresh page
  pub faults : new.faults ≡ old.faults

-- a page is made fresh on both copies, if it isn't
abbrev pub Restores : Fresh → MirrorView → ℕ → Option RebuildErr → List ℕ → List ℕ → MirrorView → Type 0
Restores OnBoth old page failed before after new = (failed ≡ None) × (after ≡ before) × (new ≡ old)
Restores OnFirst old page failed before after new = RestoresSecond old page failed before after new
Restores OnSecond old page failed before after new = RestoresFirst old page failed before after new

abbrev pub fresh_at : MirrorView → ℕ → Fresh
fresh_at mirror page = get_or mirror.fresh page OnBoth

-- so many pages from this one on are made fresh on both copies, up to the first failure
pub data Rebuilds : ℕ → ℕ → MirrorView → Option RebuildErr → List ℕ → List ℕ → MirrorView → Type 0 where
  ended : {page : ℕ} {mirror : MirrorView} {buffer : List ℕ} → Rebuilds zero page mirror None buffer buffer mirror
  stopped : {left page : ℕ} {old new : MirrorView} {copy : RebuildErr} {before after : List ℕ} → Restores (fresh_at old page) old page (Some copy) before after new → Rebuilds (suc left) page old (Some copy) before after new
  went_on : {left page : ℕ} {old between new : MirrorView} {failed : Option RebuildErr} {before buffer after : List ℕ} → Restores (fresh_at old page) old page None before buffer between → Rebuilds left (suc page) between failed buffer after new → Rebuilds (suc left) page old failed before after new

-- the copy that failed, if one did
abbrev pub failed_copy : {T : Type 0} → Result T RebuildErr → Option RebuildErr
failed_copy (Ok done) = None
failed_copy (Err copy) = Some copy

-- a call makes a page stale on a copy only where that copy's count has risen
pub record LosesByFaults (old new : MirrorView) : Type 0 where
  pub first : (page : ℕ) → is_on_first (fresh_at old page) ≡ true → is_on_first (fresh_at new page) ≡ false → old.first.faults < new.first.faults
  pub second : (page : ℕ) → is_on_second (fresh_at old page) ≡ true → is_on_second (fresh_at new page) ≡ false → old.second.faults < new.second.faults

-- what making a page fresh on both copies leaves: the mirror as a die is as it was, the page is fresh on both copies
-- where none failed, no other page is marked anew, and the count of a copy that failed has risen
pub record IsRestored (old : MirrorView) (page : ℕ) (failed : Option RebuildErr) (new : MirrorView) : Type 0 where
  pub same : seen_of new ≡ seen_of old
  pub done : failed ≡ None → new.fresh ≡ set old.fresh page OnBoth
  pub left : failed ≢ None → (new.fresh ≡ old.fresh) × (alone (fresh_at old page) ≡ 1)
  pub first_later : old.first.faults ≤ new.first.faults
  pub second_later : old.second.faults ≤ new.second.faults
  pub first : failed ≡ Some First → old.first.faults < new.first.faults
  pub second : failed ≡ Some Second → old.second.faults < new.second.faults
