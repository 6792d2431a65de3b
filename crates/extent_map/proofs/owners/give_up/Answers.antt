use Rattle.std.proofs.Common.{◌<◌, length, get_or, ◌∙◌, length-set, arith}
use Rattle.extent_map.specs.declared.places.Place.{Place}
use Rattle.extent_map.proofs.Released.{all_at, give_up_step, below_step}
use Rattle.extent_map.proofs.owners.give_up.Goals as goal

abbrev nowhere : Place
nowhere = record { file = 0; page = 0; block = 0 }

pub loop-place-preserved : goal.loop-place-preserved
loop-place-preserved c =
    let i = c.loop-place.place-index in
    let gone = c.args.gone.now in
    let within : (get_or gone i nowhere).block < length c.loop-place.owners.items = omega (arith, all_at (λ p. p.block < length c.args.owners.now.items) gone i nowhere c.requires c.loop-place-test.true, c.loop-place.invariant.len) in
    record {
      owners = give_up_step c.args.owners.now.items c.loop-place.owners.items gone i nowhere c.loop-place-test.true within c.loop-place.invariant.owners;
      len = length-set c.loop-place.owners.items _ _ ∙ c.loop-place.invariant.len;
      low = omega (arith, c.min-low.ensures, c.loop-place.invariant.low);
      below = below_step gone i c.loop-place.low c.min-low.result nowhere c.loop-place-test.true (omega (arith, c.min-low.ensures)) (omega (arith, c.min-low.ensures)) c.loop-place.invariant.below;
    }
