-- Which data block each page of each file has: lists of places, the lowest free blocks, and maximal runs. This project's own.
use Rattle.std.specs.Prelude.{ℕ, ◌+◌, ◌<◌, ◌≤◌, ◌≡◌, ◌^◌, List, [], ◌∷◌, ◌++◌, length, take, filter, Bool, true, false, not, ◌||◌, ◌&&◌, ◌==◌, nat_lt, nat_le, if◌then◌else◌, Option, Some, None}
use Rattle.std.specs.List.{range_with_len, find, AllByRecursion}
use Rattle.extent_map.specs.declared.places.Extent.{Extent}
use Rattle.extent_map.specs.declared.places.Place.{Place}

-- the blocks that there are, and which of them pages of files have, by file and page
pub record Places : Type 0 where
  pub blocks : ℕ
  pub placed : List Place

-- how many pages of a file have a block
abbrev pub count_of : ℕ → List Place → ℕ
count_of file [] = 0
count_of file (p ∷ ps) = if p.file == file then count_of file ps + 1 else count_of file ps

-- the block of a page of a file
abbrev pub block_of : ℕ → ℕ → List Place → Option ℕ
block_of file page [] = None
block_of file page (p ∷ ps) = if p.file == file && p.page == page then Some p.block else block_of file page ps

-- the file and the page that have a block
abbrev pub owner_of : ℕ → List Place → Option (ℕ × ℕ)
owner_of block [] = None
owner_of block (p ∷ ps) = if p.block == block then Some (p.file, p.page) else owner_of block ps

-- whether a page has the block
abbrev pub is_used : ℕ → List Place → Bool
is_used block [] = false
is_used block (p ∷ ps) = p.block == block || is_used block ps

-- the blocks that no page has, lowest first
unfoldable pub free_blocks : Places → List ℕ
free_blocks s = filter (λ b. not (is_used b s.placed)) (range_with_len 0 s.blocks)

-- pages of a file from one on, with these blocks
abbrev pub pages_on : ℕ → ℕ → List ℕ → List Place
pages_on file page [] = []
pages_on file page (b ∷ bs) = record { file = file; page = page; block = b } ∷ pages_on file (page + 1) bs

-- places put in before the first one of a later file
abbrev pub put_in : ℕ → List Place → List Place → List Place
put_in file new [] = new
put_in file new (p ∷ ps) = if nat_le p.file file then p ∷ put_in file new ps else new ++ p ∷ ps

-- the places with these blocks for the next pages of a file
abbrev pub with_blocks : Places → ℕ → List ℕ → Places
with_blocks s file blocks = record s { placed = put_in file (pages_on file (count_of file s.placed) blocks) s.placed }

-- so many of the lowest free blocks for the next pages of a file
abbrev pub allocated : Places → ℕ → ℕ → Places
allocated s file n = with_blocks s file (take n (free_blocks s))

-- the blocks of an extent
abbrev pub blocks_in : Extent → List ℕ
blocks_in e = range_with_len e.block e.count

-- the lowest block of an extent that a page has
abbrev pub first_used : Extent → List Place → Option ℕ
first_used e ps = find (λ b. is_used b ps) (blocks_in e)

-- whether a page of the file, and none before this one
abbrev pub is_from : ℕ → ℕ → Place → Bool
is_from file page p = p.file == file && nat_le page p.page

-- the places without the pages of a file from one on
abbrev pub released : Places → ℕ → ℕ → Places
released s file page = record s { placed = filter (λ p. not (is_from file page p)) s.placed }

-- one page as an extent
abbrev pub single : Place → Extent
single p = record { file = p.file; page = p.page; block = p.block; count = 1 }

-- whether an extent goes on from a page
abbrev pub goes_on : Place → Extent → Bool
goes_on p e = p.file == e.file && (p.page + 1 == e.page && p.block + 1 == e.block)

-- the maximal runs, with a page in front
abbrev pub in_front : Place → List Extent → List Extent
in_front p [] = single p ∷ []
in_front p (e ∷ es) = if goes_on p e then record { file = p.file; page = p.page; block = p.block; count = e.count + 1 } ∷ es else single p ∷ e ∷ es

-- the maximal runs by file and page
abbrev pub runs : List Place → List Extent
runs [] = []
runs (p ∷ ps) = in_front p (runs ps)

-- by file, and each file's pages from its first on: what may come after a page
abbrev pub follows : Place → Place → Bool
follows p q = (p.file == q.file && p.page + 1 == q.page) || (nat_lt p.file q.file && q.page == 0)

abbrev pub Goes : Place → List Place → Type 0
Goes p [] = Unit {0}
Goes p (q ∷ qs) = (follows p q ≡ true) × Goes q qs

abbrev pub AreInOrder : List Place → Type 0
AreInOrder [] = Unit {0}
AreInOrder (p ∷ ps) = (p.page ≡ 0) × Goes p ps

-- no block twice
abbrev pub AreApart : List Place → Type 0
AreApart [] = Unit {0}
AreApart (p ∷ ps) = (is_used p.block ps ≡ false) × AreApart ps

-- what the places keep
pub record IsSound (s : Places) : Type 0 where
  pub blocks : s.blocks < 2 ^ 32
  pub count : length s.placed ≤ s.blocks
  pub order : AreInOrder s.placed
  pub apart : AreApart s.placed
  pub within : AllByRecursion (λ p. p.block < s.blocks) s.placed
