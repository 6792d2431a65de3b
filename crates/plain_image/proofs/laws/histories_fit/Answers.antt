use Rattle.plain_image.proofs.Keeping.{histories_fit}
use Rattle.plain_image.proofs.laws.histories_fit.Goals as goal

pub returns : goal.returns
returns c = histories_fit
