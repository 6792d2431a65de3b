use Rattle.std.proofs.Common.{◌≡◌, ◌*◌, ◌≤◌}
use Rattle.std.specs.Prelude.{map, vec_len, vec_capacity}
use Rattle.page_base.specs.Drive.{total_pages}
use Rattle.drive_array.proofs.InOrder.{IsGathered}
use Rattle.drive_array.proofs.gathering.gather_in_order.Given as goal

abbrev pub invariant-loop-number : goal.invariant-loop-number
invariant-loop-number g l =
    IsGathered l.geometry.dies l.number (map (λ die. g.D.Die.seen die) l.initial.dies.items) (map (λ die. g.D.Die.seen die) l.dies.items) l.bytes.items
    × (vec_len l.bytes ≡ l.number * 4096)
    × (total_pages l.geometry.blocks * 4096 ≤ vec_capacity l.bytes)
