use Rattle.plain_image.proofs.Keeping.{answers_fit}
use Rattle.plain_image.proofs.laws.answers_fit.Goals as goal

pub returns : goal.returns
returns c = answers_fit
