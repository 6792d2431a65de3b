-- The caches of both sides with the flags of the blocks. This project's own.
use Rattle.std.specs.Prelude.{◌≡◌, ℕ, ◌<◌, ◌⊎◌, true, false, List, [], length, None, is_some, get_or, replicate}
use Rattle.page_cache.specs.Cached.{Cached, copy_at}
use Rattle.dispatcher.specs.declared.side.Side.{Side}
use Rattle.dispatcher.specs.declared.side.Side.TheVariants.{Host, Drive}
use Rattle.coherence.specs.declared.flags.Flags.{Flags}

-- both caches, each block's flags, and the unclean blocks with a copy in the order in which they became so
pub record Paired : Type 0 where
  pub host : Cached
  pub drive : Cached
  pub flags : List Flags
  pub unclean : List ℕ

-- the first at the host, the second in the drive
abbrev pub by_side : {A : Type 0} → Side → A → A → A
by_side Host x y = x
by_side Drive x y = y

abbrev pub other : Side → Side
other Host = Drive
other Drive = Host

abbrev pub cache_at : Side → Paired → Cached
cache_at side s = by_side side s.host s.drive

-- a block that nothing has happened to: clean, unwritten, at version 0
abbrev pub fresh : Flags
fresh = record { clean = true; written = false; version = 0 }

abbrev pub flags_at : Paired → ℕ → Flags
flags_at s b = get_or s.flags b fresh

-- the side has a free frame
abbrev pub HasRoom : Side → Paired → Type 0
HasRoom side s = length (cache_at side s).order < (cache_at side s).frames

-- a side has a copy of the block
abbrev pub HasCopy : Paired → ℕ → Type 0
HasCopy s b = (is_some (copy_at s.host b) ≡ true) ⊎ (is_some (copy_at s.drive b) ≡ true)

-- neither side has one
pub record HasNoCopy (s : Paired) (b : ℕ) : Type 0 where
  pub host : copy_at s.host b ≡ None
  pub drive : copy_at s.drive b ≡ None

-- the block's content is zeros, and nobody has them: it has no copy, and is clean and unwritten
pub record IsBlank (s : Paired) (b : ℕ) : Type 0 where
  pub none : HasNoCopy s b
  pub clean : (flags_at s b).clean ≡ true
  pub unwritten : (flags_at s b).written ≡ false

-- the block's content is at hand, without flash
abbrev pub IsReady : Paired → ℕ → Type 0
IsReady s b = HasCopy s b ⊎ IsBlank s b

-- flash alone has the block's content: it has no copy, and is clean and written
pub record IsMissing (s : Paired) (b : ℕ) : Type 0 where
  pub none : HasNoCopy s b
  pub clean : (flags_at s b).clean ≡ true
  pub written : (flags_at s b).written ≡ true

-- two caches of so many frames, for so many blocks, without a copy
abbrev pub none_yet : ℕ → ℕ → ℕ → Paired
none_yet host drive blocks = record {
  host = record { frames = host; copies = replicate blocks None; order = [] };
  drive = record { frames = drive; copies = replicate blocks None; order = [] };
  flags = replicate blocks fresh;
  unclean = [];
}

-- the flags, the caches and the unclean order are of the same blocks
pub record AreOf (blocks : ℕ) (host drive : Cached) (nodes : ℕ) (lists : List (List ℕ)) : Type 0 where
  pub host_len : length host.copies ≡ blocks
  pub drive_len : length drive.copies ≡ blocks
  pub nodes_is : nodes ≡ blocks
  pub one : length lists ≡ 1
