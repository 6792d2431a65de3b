-- Regions that lie flat, and those that lie in pages. This project's own.
use Rattle.std.specs.Prelude.{ℕ, List, []}
use Rattle.sbpf_exec.specs.declared.region.Region.{Region}
use Rattle.sbpf_exec.specs.declared.region.Region.TheVariants.{Flat, Paged}

abbrev pub IsFlat : Region → Type 0
IsFlat (Flat bytes) = Unit {0}
IsFlat (Paged pages start len) = ⊥

abbrev pub IsPaged : Region → Type 0
IsPaged (Flat bytes) = ⊥
IsPaged (Paged pages start len) = Unit {0}

-- the pages of a region that lies in pages
abbrev pub pages_of : Region → List (List ℕ)
pages_of (Flat bytes) = []
pages_of (Paged pages start len) = pages.items
