use Rattle.std.proofs.Common.{Err, ap}
use Rattle.drive_runs.proofs.image.gathered.Goals as goal

pub returns-in-Err-Die : goal.returns-in-Err-Die
returns-in-Err-Die g c = (c.in-Err-Die.field-0-0, c.in-Err-Die.ensures.stopped c.in-Err-Die.field-0-0 (ap (λ e. Err e) c.in-Err-Die.field-0-is))
