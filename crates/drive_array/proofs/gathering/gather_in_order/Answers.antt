use Rattle.std.proofs.Common.{◌<◌, arith}
use Rattle.std.specs.Prelude.{map}
use Rattle.page_base.specs.Drive.{total_pages}
use Rattle.drive_array.proofs.InOrder.{gathered_start, gathered_more_at}
use Rattle.drive_array.proofs.gathering.gather_in_order.Goals as goal

pub loop-number-init : goal.loop-number-init
loop-number-init g c = (
  gathered_start c.args.geometry.dies (map (λ die. g.D.Die.seen die) c.args.dies.now.items) c.in_ok-bytes.bytes.items c.in_ok-bytes.ensures.items,
  c.in_ok-bytes.ensures.len,
  omega (arith, c.in_ok-bytes.ensures.capacity, c.total.ensures.value),
)

pub loop-number-preserved : goal.loop-number-preserved
loop-number-preserved g c =
    let some : 0 < c.args.geometry.dies = omega (arith, c.total-number-end.ensures.limits.some_dies) in (
      gathered_more_at c.args.geometry.dies (total_pages c.args.geometry.blocks) c.loop-number.number c.die_of-die.result c.place_of.result (map (λ die. g.D.Die.seen die) c.args.dies.now.items) (map (λ die. g.D.Die.seen die) c.loop-number.dies.items) (map (λ die. g.D.Die.seen die) c.read_page.new.dies.items) c.loop-number.bytes.items c.loop-number.page c.read_page.new.into c.append.new.bytes.items some c.requires.shares c.loop-number.invariant.0 c.die_of-die.ensures.value c.place_of.ensures.value c.in_ok-read_page.ensures.others c.in_ok-read_page.ensures.went c.in_ok-append.ensures.bytes,
      omega (arith, c.loop-number.invariant.1, c.in_ok-append.ensures.len),
      omega (arith, c.loop-number.invariant.2, c.append.ensures.capacity),
    )
