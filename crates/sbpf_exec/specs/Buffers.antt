-- A region of a call as one list of bytes: it lies flat, or in pages of 4,096 bytes from a place on.
-- This project's own.
use Rattle.std.specs.Prelude.{◌≡◌, ℕ, ◌+◌, ◌*◌, ◌^◌, ◌≤◌, List, [], ◌∷◌, length, take, drop}
use Rattle.std.specs.List.{concat}
use Rattle.sbpf_exec.specs.declared.region.Region.{Region}
use Rattle.sbpf_exec.specs.declared.region.Region.TheVariants.{Flat, Paged}

-- each page has 4,096 bytes
abbrev pub AreWhole : List (List ℕ) → Type 0
AreWhole [] = Unit {0}
AreWhole (page ∷ pages) = (length page ≡ 4096) × AreWhole pages

-- all bytes of the buffer that the region lies in, its pages joined
abbrev pub buffer_bytes : Region → List ℕ
buffer_bytes (Flat bytes) = bytes
buffer_bytes (Paged pages start len) = concat pages.items

-- where the region begins in its buffer
abbrev pub start_of : Region → ℕ
start_of (Flat bytes) = 0
start_of (Paged pages start len) = start

-- the bytes of the region: of pages the `len` bytes from `start` on
abbrev pub region_bytes : Region → List ℕ
region_bytes (Flat bytes) = bytes
region_bytes (Paged pages start len) = take len (drop start (concat pages.items))

-- so many bytes from a place on fit the buffer; flat bytes are used from their first on
abbrev pub Fits : Region → ℕ → ℕ → Type 0
Fits (Flat bytes) start len = (start ≡ 0) × (len ≤ length bytes)
Fits (Paged pages _ _) start len = start + len ≤ 4096 * length pages.items

-- so many bytes of the buffer from a place on
abbrev pub part : Region → ℕ → ℕ → List ℕ
part region start len = take len (drop start (buffer_bytes region))

-- the same buffer, of which so many bytes from a place on are the region
abbrev pub placed : Region → ℕ → ℕ → Region
placed (Flat bytes) start len = Flat bytes
placed (Paged pages _ _) start len = Paged pages start len

-- the region can be run over up to its first n bytes, of which there are at most 2 ^ 32
abbrev pub IsPlaced : Region → ℕ → Type 0
IsPlaced (Flat bytes) n = (n ≤ length bytes) × (n ≤ 2 ^ 32)
IsPlaced (Paged pages start len) n =
    (n ≤ len) × (n ≤ 2 ^ 32) × (start + len ≤ 4096 * length pages.items) × AreWhole pages.items

-- The same buffer but for the first n bytes of the region. In pages the bytes before the region, and
-- those after its first n, are the same.
abbrev pub DiffersWithin : ℕ → Region → Region → Type 0
DiffersWithin n (Flat old) (Flat new) = (length new ≡ length old) × (drop n new ≡ drop n old)
DiffersWithin n (Paged old start len) (Paged new start' len') =
    (start' ≡ start) × (len' ≡ len) × (length new.items ≡ length old.items) × AreWhole new.items
    × (take start (concat new.items) ≡ take start (concat old.items))
    × (drop (start + n) (concat new.items) ≡ drop (start + n) (concat old.items))
DiffersWithin n _ _ = ⊥
