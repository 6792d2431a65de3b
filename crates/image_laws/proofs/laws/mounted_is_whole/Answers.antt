use Rattle.image_laws.proofs.Whole.{found, total, whole, valid, stands}
use Rattle.image_laws.proofs.laws.mounted_is_whole.Goals as goal

pub returns-clause-whole : goal.returns-clause-whole
returns-clause-whole c = λ bytes m all is. whole bytes m all (found bytes m all is)

pub returns-clause-valid : goal.returns-clause-valid
returns-clause-valid c = λ bytes m all drive table sound is. valid bytes m all (found bytes m all is) drive table sound

pub returns-clause-stands : goal.returns-clause-stands
returns-clause-stands c = λ bytes m all sound is. stands bytes m all (found bytes m all is) sound

pub returns-clause-count : goal.returns-clause-count
returns-clause-count c = λ bytes m all is. total bytes m all (found bytes m all is)
