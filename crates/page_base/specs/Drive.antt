-- The geometry of a drive and of its image: limits, sizes, and the die of each page. This project's own, in format version 2.
use Rattle.std.specs.Prelude.{ℕ, zero, suc, ◌+◌, ◌/◌, ◌%◌, ◌≤◌, ◌==◌, if◌then◌else◌}

-- how many data blocks and dies a drive has
pub record Drive : Type 0 where
  pub blocks : ℕ
  pub dies : ℕ

-- the limits of a drive
pub record IsDrive (blocks dies : ℕ) : Type 0 where
  pub some_blocks : 1 ≤ blocks
  pub most_blocks : blocks ≤ 65536
  pub some_dies : 1 ≤ dies
  pub most_dies : dies ≤ 16

-- how many pages of meta data an image has: the header and 128 pages of file records, then 256 extent entries a page, then 32,768 bits a page
abbrev pub meta_pages : ℕ → ℕ
meta_pages blocks = 129 + (blocks + 255) / 256 + (blocks + 32767) / 32768

-- how many pages an image has: its meta data, then its data blocks
abbrev pub total_pages : ℕ → ℕ
total_pages blocks = meta_pages blocks + blocks

-- how many of an image's first pages lie on a die: image page p lies on die p mod dies
unfoldable pub die_share : ℕ → ℕ → ℕ → ℕ
die_share zero dies die = 0
die_share (suc page) dies die = if page % dies == die then die_share page dies die + 1 else die_share page dies die
