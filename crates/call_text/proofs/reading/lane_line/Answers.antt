use Rattle.call_text.proofs.KeptSteps.{fits_lane}
use Rattle.call_text.proofs.reading.lane_line.Goals as goal

pub await_line-requires-clause-fits : goal.await_line-requires-clause-fits
await_line-requires-clause-fits c = λ formed. fits_lane c.args.script.now c.args.name.now _ formed c.requires.fits
