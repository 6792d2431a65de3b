use Rattle.core_images.proofs.Openings.{started}
use Rattle.core_images.proofs.laws.started_stands.Goals as goal

pub returns : goal.returns
returns g c = λ dies m lanes place may drive table sound. started g.D.Die.seen dies m may lanes place drive table sound
