use Rattle.image_format.proofs.Remounting.{remounted}
use Rattle.image_format.proofs.laws.remounts.Goals as goal

pub returns : goal.returns
returns c = remounted
