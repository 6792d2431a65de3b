use Rattle.std.proofs.Common.{arith}
use Rattle.ftl_die.specs.declared.place.Place.TheVariants.{Unwritten}
use Rattle.ftl_die.specs.Places.{one_in}
use Rattle.ftl_die.proofs.Moving.{sum_by-none}
use Rattle.ftl_die.proofs.collection.hold_live.Goals as goal

pub returns-clause-dead : goal.returns-clause-dead
returns-clause-dead g c =
    let kept = c.loop-page.invariant in
    sum_by-none (one_in c.args.block) c.loop-page.layout.places.items Unwritten (λ i under. kept.gone i (omega (arith, under, kept.moves.size, c.loop-page-test.false, c.pages-page-end.ensures.value)))
