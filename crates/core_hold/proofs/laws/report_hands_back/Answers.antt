use Rattle.core_hold.proofs.Phases.{report_hands_back}
use Rattle.core_hold.proofs.laws.report_hands_back.Goals as goal

pub returns : goal.returns
returns k = λ worker lane. report_hands_back worker lane
