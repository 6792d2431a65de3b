-- What the pages of a die over raw flash have, what holds of the flash and the bookkeeping together, and what a step keeps. This project's own.
use Rattle.std.specs.Prelude.{◌≡◌, ℕ, ◌+◌, ◌*◌, ◌<◌, Bool, List, [], length, map, get_or, nat_lt, Option, Some, None, is_some, unwrap_or}
use Rattle.page_base.specs.Bytes.{zero_page}
use Rattle.flash_die.specs.Dies.{DieView}
use Rattle.flash_raw.specs.Raw.{RawView, RawCounts, IsProgrammed}
use Rattle.ftl_die.specs.declared.place.Place.{Place}
use Rattle.ftl_die.specs.declared.place.Place.TheVariants.{Unwritten, At, Held}

-- what a page has at its place, in these pages of raw flash and slots
abbrev pub content : List (Option (List ℕ)) → List (List ℕ) → Place → List ℕ
content pages slots Unwritten = zero_page
content pages slots (At raw) = unwrap_or (get_or pages raw None) []
content pages slots (Held slot) = get_or slots slot []

-- what the pages have at their places
abbrev pub contents : RawView → List (List ℕ) → List Place → List (List ℕ)
contents raw slots places = map (content raw.pages slots) places

-- the die: its pages, and the count and the bound of the raw flash
abbrev pub ftl_view : RawView → List (List ℕ) → List Place → DieView
ftl_view raw slots places = record { pages = Some (contents raw slots places); size = length places; faults = raw.faults; most = raw.most; plan = None }

-- pages in raw flash are programmed, and of each erase block the first pages are, as many as are counted
pub record IsStored (raw : RawView) (places : List Place) (used : List ℕ) : Type 0 where
  pub blocks : length used ≡ raw.blocks
  pub whole : length raw.pages ≡ 64 * length used
  pub programmed : (page at : ℕ) → get_or places page Unwritten ≡ At at → IsProgrammed raw.pages at
  pub fronts : (block i : ℕ) → block < length used → i < 64 → is_some (get_or raw.pages (64 * block + i) None) ≡ nat_lt i (get_or used block 0)

-- the programmed pages are as before
pub record KeepsProgrammed (old new : List (Option (List ℕ))) : Type 0 where
  pub same : (page : ℕ) → IsProgrammed old page → get_or new page None ≡ get_or old page None

-- a step of raw flash, slots and places keeps what the pages of the die have
pub record Moves (old : RawView) (old_slots : List (List ℕ)) (old_places : List Place) (good : Bool) (new : RawView) (new_slots : List (List ℕ)) (new_places : List Place) : Type 0 where
  pub counts : RawCounts old good new
  pub size : length new_places ≡ length old_places
  pub contents : contents new new_slots new_places ≡ contents old old_slots old_places
