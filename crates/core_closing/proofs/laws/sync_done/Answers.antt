use Rattle.core_closing.proofs.Keeps.{all_stored}
use Rattle.core_closing.proofs.laws.sync_done.Goals as goal

pub returns : goal.returns
returns c = λ encode x h s p all. all_stored encode x h s p all
