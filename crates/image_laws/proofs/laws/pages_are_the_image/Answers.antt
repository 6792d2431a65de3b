use Rattle.image_laws.proofs.Again.{joined}
use Rattle.image_laws.proofs.laws.pages_are_the_image.Goals as goal

pub returns : goal.returns
returns c = joined
