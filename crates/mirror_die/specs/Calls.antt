-- The calls of a mirror by what its copies answer. This project's own.
use Rattle.std.specs.Prelude.{◌≡◌, ℕ, ◌+◌, Bool, true, false, not, ◌&&◌, ◌||◌, if◌then◌else◌, List, get_or, set}
use Rattle.flash_die.specs.Dies.{DieView, WentRead, WentWrite}
use Rattle.mirror_die.specs.Freshness.{is_on_first, is_on_second, after_write}
use Rattle.mirror_die.specs.Mirror.{MirrorView}
use Rattle.mirror_die.specs.declared.freshness.Fresh.{Fresh}
use Rattle.mirror_die.specs.declared.freshness.Fresh.TheVariants.{OnBoth}

-- a copy is read, if it is tried; one that is not tried stays as it is and gives nothing
abbrev pub Tries : Bool → DieView → ℕ → Bool → List ℕ → List ℕ → DieView → Type 0
Tries true old page gave before after new = WentRead old page gave before after new
Tries false old page gave before after new = (gave ≡ false) × (after ≡ before) × (new ≡ old)

-- a read tries the fresh copies, the first before the second, until one gives the page
pub record ReadsFresh (fresh : Fresh) (first second : DieView) (page : ℕ) (good : Bool) (before after : List ℕ) (new_first new_second : DieView) : Type 0 where
  pub first_gave : Bool
  pub second_gave : Bool
  pub between : List ℕ
  pub tries_first : Tries (is_on_first fresh) first page first_gave before between new_first
  pub tries_second : Tries (not first_gave && is_on_second fresh) second page second_gave between after new_second
  pub answer : good ≡ (first_gave || second_gave)

-- one fault more, where the call has failed
abbrev pub counted : Bool → ℕ → ℕ
counted good faults = if good then faults else faults + 1

-- a read of the mirror
pub record MirrorRead (old : MirrorView) (page : ℕ) (good : Bool) (before after : List ℕ) (new : MirrorView) : Type 0 where
  pub reads : ReadsFresh (get_or old.fresh page OnBoth) old.first old.second page good before after new.first new.second
  pub fresh : new.fresh ≡ old.fresh
  pub faults : new.faults ≡ counted good old.faults

-- a write of the mirror writes both copies; the page is then fresh on those that took it, or, where none did, on the first
pub record MirrorWrite (old : MirrorView) (page : ℕ) (good : Bool) (bytes : List ℕ) (new : MirrorView) : Type 0 where
  pub first_took : Bool
  pub second_took : Bool
  pub first : WentWrite old.first page first_took bytes new.first
  pub second : WentWrite old.second page second_took bytes new.second
  pub answer : good ≡ (first_took || second_took)
  pub fresh : new.fresh ≡ set old.fresh page (after_write first_took second_took)
  pub faults : new.faults ≡ counted good old.faults
