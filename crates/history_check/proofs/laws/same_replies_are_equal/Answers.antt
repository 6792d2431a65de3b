use Rattle.history_check.proofs.Same.{same_equal, equal_same}
use Rattle.history_check.proofs.laws.same_replies_are_equal.Goals as goal

pub returns : goal.returns
returns c = λ a b. (same_equal a b, equal_same a b)
