use Rattle.sbpf_text.proofs.LeftBehind.{only_unknown}
use Rattle.sbpf_text.proofs.NeverFar.{never_far}
use Rattle.sbpf_text.proofs.laws.only_labels_are_left.Goals as goal

pub returns-clause-settled : goal.returns-clause-settled
returns-clause-settled c = λ text a h. only_unknown text a h

pub returns-clause-in_reach : goal.returns-clause-in_reach
returns-clause-in_reach c = λ text fault h. never_far text fault h
