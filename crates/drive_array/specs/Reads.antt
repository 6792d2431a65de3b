-- What reading the pages of an image, each from its die, makes of the dies. This project's own.
use Rattle.std.specs.Prelude.{◌≡◌, ◌≢◌, ℕ, zero, suc, ◌/◌, ◌%◌, ◌<◌, ◌≤◌, true, false, List, [], length, get_or, Some, None, IfSome, option_map}
use Rattle.flash_die.specs.Dies.{PlanView, DieView, read_fails, after_read, WentRead}
use Rattle.std.specs.List.{concat}
use Rattle.page_base.specs.Drive.{Drive, die_share, total_pages}
use Rattle.drive_array.specs.Cut.{joined}

-- one that isn't there
abbrev pub no_die : DieView
no_die = record { pages = None; size = 0; faults = 0; most = None; plan = None }

abbrev pub die_at : List DieView → ℕ → DieView
die_at dies die = get_or dies die no_die

-- there are so many dies, and each has its share of so many pages
pub record HasShares (views : List DieView) (dies total : ℕ) : Type 0 where
  pub count : length views ≡ dies
  pub sizes : (die : ℕ) → die < dies → (die_at views die).size ≡ die_share total dies die

-- each die tells its list of pages
abbrev pub TellsPages : List DieView → ℕ → List (List (List ℕ)) → Type 0
TellsPages views dies lists = (die : ℕ) → die < dies → (die_at views die).pages ≡ Some (get_or lists die [])

-- a plan after so many reads more
unfoldable pub after_reads : ℕ → PlanView → PlanView
after_reads zero plan = plan
after_reads (suc more) plan = after_read (after_reads more plan)

-- what no read changes
pub record IsSameDie (old new : DieView) : Type 0 where
  pub pages : new.pages ≡ old.pages
  pub size : new.size ≡ old.size
  pub most : new.most ≡ old.most
  pub later : old.faults ≤ new.faults

-- so many reads that gave their pages: where a plan is told, none of them is listed
pub record HasRead (reads : ℕ) (old new : DieView) : Type 0 where
  pub same : IsSameDie old new
  pub plan : new.plan ≡ option_map (after_reads reads) old.plan
  pub gave : IfSome old.plan (λ plan. (before : ℕ) → before < reads → read_fails (after_reads before plan) ≡ false)

-- the first so many pages of the image were read, each once and from its die
pub record ReadsPages (dies pages : ℕ) (old new : List DieView) : Type 0 where
  pub count : length new ≡ length old
  pub reads : (die : ℕ) → die < dies → HasRead (die_share pages dies die) (die_at old die) (die_at new die)

-- the reading has stopped at a page of this die, after those before it
pub record StopsAt (dies total die : ℕ) (old new : List DieView) : Type 0 where
  pub page : ℕ
  pub within : page < total
  pub here : page % dies ≡ die
  pub between : List DieView
  pub read : ReadsPages dies page old between
  pub before : List ℕ
  pub after : List ℕ
  pub failed : WentRead (die_at between die) (page / dies) false before after (die_at new die)
  pub others : (other : ℕ) → other ≢ die → die_at new other ≡ die_at between other

-- one of the next so many reads is listed
pub record FailsWithin (reads : ℕ) (plan : PlanView) : Type 0 where
  pub before : ℕ
  pub within : before < reads
  pub listed : read_fails (after_reads before plan) ≡ true

-- none of them is
abbrev pub GivesAll : ℕ → PlanView → Type 0
GivesAll reads plan = (before : ℕ) → before < reads → read_fails (after_reads before plan) ≡ false

-- Words for the dies of a drive and its whole image.

-- a die's share of the image
abbrev pub share_of : Drive → ℕ → ℕ
share_of drive die = die_share (total_pages drive.blocks) drive.dies die

-- as many dies as the drive has, each with its share
abbrev pub AreDiesOf : Drive → List DieView → Type 0
AreDiesOf drive views = HasShares views drive.dies (total_pages drive.blocks)

-- the bytes of the image, from these lists of pages by die
abbrev pub image_bytes : Drive → List (List (List ℕ)) → List ℕ
image_bytes drive lists = concat (joined lists drive.dies (total_pages drive.blocks))

-- every page of the image was read, each once and from its die
abbrev pub ReadsImage : Drive → List DieView → List DieView → Type 0
ReadsImage drive old new = ReadsPages drive.dies (total_pages drive.blocks) old new

-- the reading of the image has stopped at a page of this die
abbrev pub StopsIn : Drive → ℕ → List DieView → List DieView → Type 0
StopsIn drive die old new = StopsAt drive.dies (total_pages drive.blocks) die old new

-- the count of faults of this die has risen
abbrev pub RisesAt : ℕ → List DieView → List DieView → Type 0
RisesAt die old new = (die_at old die).faults < (die_at new die).faults
