-- The caches beside a state that has its parts per block, as a layer above keeps them. This project's own.
use Rattle.std.specs.Prelude.{◌≡◌, ℕ, ◌+◌, ◌<◌, Bool, true, false, List, length, Option, Some, None}
use Rattle.page_cache.specs.Cached.{copy_at}
use Rattle.dispatcher.specs.declared.side.Side.{Side}
use Rattle.coherence.specs.Paired.{Paired, by_side, flags_at}

-- what the caches have of one block
pub record Cell : Type 0 where
  pub host : Option (List ℕ)
  pub drive : Option (List ℕ)
  pub clean : Bool
  pub written : Bool
  pub version : ℕ

abbrev pub cell_at : Paired → ℕ → Cell
cell_at s b = record { host = copy_at s.host b; drive = copy_at s.drive b; clean = (flags_at s b).clean; written = (flags_at s b).written; version = (flags_at s b).version }

-- the copy at a side
abbrev pub copy_in : Side → Cell → Option (List ℕ)
copy_in side c = by_side side c.host c.drive

-- the cell with this copy at a side, or with none there
abbrev pub with_copy : Side → Option (List ℕ) → Cell → Cell
with_copy side copy c = record c { host = by_side side copy c.host; drive = by_side side c.drive copy }

-- the cell of a block that was written: this page at a side is its only copy
abbrev pub written_cell : Side → List ℕ → Cell → Cell
written_cell side page c = record c { host = by_side side (Some page) None; drive = by_side side None (Some page); clean = false; version = c.version + 1 }

-- the cell of a block that was released or allocated
abbrev pub released_cell : Cell → Cell
released_cell c = record { host = None; drive = None; clean = true; written = false; version = c.version + 1 }

-- the caches have the cells of the blocks below n, and these orders
pub record Agrees (s : Paired) (n : ℕ) (cells : ℕ → Cell) (host_order drive_order unclean : List ℕ) : Type 0 where
  pub blocks : length s.flags ≡ n
  pub host_blocks : length s.host.copies ≡ n
  pub drive_blocks : length s.drive.copies ≡ n
  pub each : (b : ℕ) → b < n → cell_at s b ≡ cells b
  pub host_is : s.host.order ≡ host_order
  pub drive_is : s.drive.order ≡ drive_order
  pub unclean_is : s.unclean ≡ unclean
