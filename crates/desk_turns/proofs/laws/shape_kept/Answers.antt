use Rattle.desk_turns.proofs.Shapes.{shape_kept}
use Rattle.desk_turns.proofs.laws.shape_kept.Goals as goal

pub returns : goal.returns
returns k = λ c e. shape_kept c e
