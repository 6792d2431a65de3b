use Rattle.std.proofs.Common.{◌≡◌, ap, sym, length, arith}
use Rattle.extent_map.specs.Places.{free_blocks}
use Rattle.extent_map.proofs.Runs.{places_of}
use Rattle.extent_map.proofs.Allocated.{free_count}
use Rattle.extent_map.proofs.map.ExtentMap.free.Goals as goal

pub returns-clause-value : goal.returns-clause-value
returns-clause-value c =
    let i = c.self.inside in
    let view : length (free_blocks c.args.self.now) ≡ length (free_blocks (places_of i.blocks i.placed.items)) = ap (λ s. length (free_blocks s)) (sym c.self.view_is) in
    omega (arith, view, free_count i.blocks i.placed.items c.self.invariant.0, c.len.ensures, i.placed.ok)
