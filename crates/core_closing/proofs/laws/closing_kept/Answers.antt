use Rattle.core_closing.proofs.Shut.{closing_run}
use Rattle.core_closing.proofs.Keeps.{stored_kept, none_ahead, so_far_ahead, all_kept}
use Rattle.core_closing.proofs.laws.closing_kept.Goals as goal

pub returns-clause-closing : goal.returns-clause-closing
returns-clause-closing c = λ x y es h s r. closing_run es x y h s r

pub returns-clause-clean : goal.returns-clause-clean
returns-clause-clean c = λ x y es h s none clean r. stored_kept x y es h s none clean r

pub returns-clause-so_far : goal.returns-clause-so_far
returns-clause-so_far c = λ encode x y es of h s none p r same. so_far_ahead encode x y es of h s (none_ahead x h s none) p r same

pub returns-clause-stored : goal.returns-clause-stored
returns-clause-stored c = λ encode x y es of h s none st all r. all_kept encode x y es of h s none st all r
