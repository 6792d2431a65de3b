use Rattle.plain_image.proofs.Keeping.{empty_fits}
use Rattle.plain_image.proofs.laws.empty_fits.Goals as goal

pub returns : goal.returns
returns c = empty_fits
