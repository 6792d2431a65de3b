use Rattle.stack_top.proofs.EmptyImages.{opens}
use Rattle.stack_top.proofs.laws.empty_image_opens.Goals as goal

pub returns : goal.returns
returns c = opens
