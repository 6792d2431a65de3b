use Rattle.std.proofs.Common.{◌≡◌, ◌++◌, ℕ, List, length, take}
use Rattle.std.specs.List.{flat_map, AllByRecursion}
use Rattle.image_format.proofs.image.add_blocks.Given as goal

abbrev pub invariant-loop-page : goal.invariant-loop-page
invariant-loop-page l = record {
  value : l.into.items ≡ l.initial.into.items ++ flat_map (λ page. page) (take l.page-index l.blocks);
  whole : AllByRecursion (λ (page : List ℕ). length page ≡ 4096) (take l.page-index l.blocks);
}
