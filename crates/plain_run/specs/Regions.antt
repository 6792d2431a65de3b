-- Regions that lie flat. This project's own.
use Rattle.sbpf_exec.specs.declared.region.Region.{Region}
use Rattle.sbpf_exec.specs.declared.region.Region.TheVariants.{Flat, Paged}

abbrev pub IsFlat : Region → Type 0
IsFlat (Flat bytes) = Unit {0}
IsFlat (Paged pages start len) = ⊥
