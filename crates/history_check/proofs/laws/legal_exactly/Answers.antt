use Rattle.history_check.proofs.Completeness.{history_legal}
use Rattle.history_check.proofs.Verdicts.{legal_history}
use Rattle.history_check.proofs.laws.legal_exactly.Goals as goal

pub returns-clause-legal : goal.returns-clause-legal
returns-clause-legal c = legal_history

pub returns-clause-history : goal.returns-clause-history
returns-clause-history c = history_legal
