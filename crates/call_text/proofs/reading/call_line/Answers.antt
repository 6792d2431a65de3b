use Rattle.std.proofs.Common.{◌∷◌, map}
use Rattle.call_text.proofs.KeptSteps.{fits_lane, fits_call, verb_found}
use Rattle.call_text.proofs.reading.call_line.Goals as goal

pub add_call-requires-clause-lane : goal.add_call-requires-clause-lane
add_call-requires-clause-lane c = fits_lane c.args.script.now c.args.name.now (c.args.first.now ∷ map (λ x. x.now) c.args.args.now) c.in_ok-call.ensures.form c.requires.fits

pub add_call-requires-clause-few : goal.add_call-requires-clause-few
add_call-requires-clause-few c = fits_call c.args.script.now c.args.name.now (c.args.first.now ∷ map (λ x. x.now) c.args.args.now) c.in_ok-call.ensures.form c.requires.fits (verb_found _ _ _ _ _ c.in_ok-call.ensures.is)
