-- How a cache lies in a pool of frames.
use Rattle.std.specs.Prelude.{◌≡◌, ℕ, ◌+◌, ◌<◌, ◌≤◌, ◌^◌, List, [], length, map, slice_get, slice_index}
use Rattle.index_lists.specs.Words.{count}
use Rattle.index_lists.specs.Lists.{Lists, list_at}
use Rattle.page_cache.specs.Cached.{Cached}

-- the number at a place of a table
abbrev pub entry : List ℕ → ℕ → ℕ
entry xs i = slice_index xs i

-- what the pool is seen as, with these frames in use: a block without a copy has no frame in the table
abbrev pub seen : List (List ℕ) → List ℕ → List ℕ → List ℕ → Cached
seen pages owners places busy = record { frames = length pages; copies = map (slice_get pages) places; order = map (entry owners) busy }

abbrev pub cached : List (List ℕ) → List ℕ → List ℕ → Lists → Cached
cached pages owners places links = seen pages owners places (list_at links 0)

-- the frames in use, in their order, and the free ones; a frame's owner and a block's place agree
pub record IsFrames (pages : List (List ℕ)) (owners places busy free : List ℕ) (used : ℕ) : Type 0 where
  pub small : length pages ≤ 2 ^ 19
  pub owners_len : length owners ≡ length pages
  pub used_is : used ≡ length busy
  pub full : length busy + length free ≡ length pages
  pub inside : (f : ℕ) → f < length pages → count f busy + count f free ≡ 1
  pub outside : (f : ℕ) → length pages ≤ f → count f busy + count f free ≡ 0
  pub owned : (f : ℕ) → 0 < count f busy → entry owners f < length places
  pub placed : (f : ℕ) → 0 < count f busy → entry places (entry owners f) ≡ f
  pub used_place : (b : ℕ) → b < length places → entry places b < length pages → 0 < count (entry places b) busy
  pub own_place : (b : ℕ) → b < length places → entry places b < length pages → entry owners (entry places b) ≡ b

-- list 0 has the frames in use, and list 1 the free ones
pub record IsPool (pages : List (List ℕ)) (owners places : List ℕ) (links : Lists) (used : ℕ) : Type 0 where
  pub nodes : links.nodes ≡ length pages
  pub two : length links.lists ≡ 2
  pub frames : IsFrames pages owners places (list_at links 0) (list_at links 1) used

-- the frames below n are free
pub record FreeBelow (frames n : ℕ) (links : Lists) : Type 0 where
  pub nodes : links.nodes ≡ frames
  pub two : length links.lists ≡ 2
  pub none_used : list_at links 0 ≡ []
  pub all : length (list_at links 1) ≡ n
  pub each : (f : ℕ) → f < n → count f (list_at links 1) ≡ 1
  pub no_other : (f : ℕ) → n ≤ f → count f (list_at links 1) ≡ 0
