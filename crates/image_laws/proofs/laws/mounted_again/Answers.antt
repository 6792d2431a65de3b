use Rattle.image_laws.proofs.Whole.{found}
use Rattle.image_laws.proofs.Again.{same, again}
use Rattle.image_laws.proofs.laws.mounted_again.Goals as goal

pub returns-clause-same : goal.returns-clause-same
returns-clause-same c = λ bytes m all drive table sound is. same bytes m all (found bytes m all is) drive table sound

pub returns-clause-again : goal.returns-clause-again
returns-clause-again c = λ bytes m all drive table sound is. again bytes m all (found bytes m all is) drive table sound is
