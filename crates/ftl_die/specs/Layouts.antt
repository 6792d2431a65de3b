-- What holds of the bookkeeping of a die over raw flash. This project's own.
use Rattle.std.specs.Prelude.{◌≡◌, ℕ, ◌+◌, ◌*◌, ◌/◌, ◌^◌, ◌<◌, ◌≤◌, List, length, get_or, sum, Option, Some, None}
use Rattle.std.specs.List.{sum_by}
use Rattle.ftl_die.specs.declared.place.Place.{Place}
use Rattle.ftl_die.specs.declared.place.Place.TheVariants.{Unwritten, At, Held}
use Rattle.ftl_die.specs.Places.{one_at, live_in}

-- places of the pages, programmed pages and live pages of the erase blocks, and the owners of the slots agree
pub record IsLayout (places : List Place) (used live : List ℕ) (owners : List (Option ℕ)) : Type 0 where
  -- two erase blocks more than the pages fill
  pub roomy : length places + 128 ≤ 64 * length live
  pub few : length live < 2 ^ 26
  pub blocks : length used ≡ length live
  pub slots : length owners ≡ 64
  pub most_used : (block : ℕ) → get_or used block 0 ≤ 64
  pub counted : (block : ℕ) → block < length live → get_or live block 0 ≡ live_in block places
  pub total : sum live ≡ sum_by one_at places
  pub within : (page raw : ℕ) → get_or places page Unwritten ≡ At raw → raw / 64 < length live
  pub held : (page slot : ℕ) → get_or places page Unwritten ≡ Held slot → get_or owners slot None ≡ Some page
  pub owned : (slot page : ℕ) → get_or owners slot None ≡ Some page → get_or places page Unwritten ≡ Held slot
