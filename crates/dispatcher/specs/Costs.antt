-- What a call costs at either side, the side that is picked, and what is learnt from a run. This project's own:
-- a read of flash costs 100, a page that moves over the bus 40, and the drive's processor is four times as slow.
use Rattle.std.specs.Prelude.{ℕ, ◌+◌, ◌-◌, ◌*◌, ◌/◌, ◌≤◌, if◌then◌else◌, nat_lt, max}
use Rattle.dispatcher.specs.declared.costs.Counts.{Counts}
use Rattle.dispatcher.specs.declared.side.Side.{Side}
use Rattle.dispatcher.specs.declared.side.Side.TheVariants.{Host, Drive}

-- what a call can count: it meets 65 pages at most
pub record AreCounts (c : Counts) : Type 0 where
  pub most_pages : c.pages ≤ 65
  pub most_missing : c.missing ≤ 65
  pub of_pages : c.host ≤ c.pages
  pub most_out : c.out ≤ 65
  pub most_unclean : c.unclean ≤ 65

-- at the host, with so many instructions a page: pages that it lacks move there
abbrev pub host_cost : ℕ → Counts → ℕ
host_cost e c = 100 * c.missing + 40 * (c.pages - c.host) + e * c.pages

-- in the drive: the output and the host's unclean pages move
abbrev pub drive_cost : ℕ → Counts → ℕ
drive_cost e c = 100 * c.missing + 40 * (c.out + c.unclean) + 4 * e * c.pages

-- the drive exactly where its cost is less
abbrev pub Pick : ℕ → Counts → Side
Pick e c = if nat_lt (drive_cost e c) (host_cost e c) then Drive else Host

-- the instructions a page after a run: three parts what was known, and one part what this run used
abbrev pub Learn : ℕ → ℕ → ℕ → ℕ
Learn e used pages = (3 * e + used / max pages 1) / 4
