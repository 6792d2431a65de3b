use Rattle.image_laws.proofs.Whole.{found}
use Rattle.core_images.proofs.Openings.{coherent, are_long, is_whole, mounted}
use Rattle.core_images.proofs.laws.opening_is_mounted.Goals as goal

pub returns-clause-coherent : goal.returns-clause-coherent
returns-clause-coherent c = λ bytes m all pages lanes place drive table sound is same.
    let f = found bytes m all is in coherent m pages lanes place (is_whole bytes m all f pages same) drive table sound (are_long bytes m all f pages same)

pub returns-clause-mounts : goal.returns-clause-mounts
returns-clause-mounts c = λ bytes m all pages lanes place table sound is same. mounted bytes m all (found bytes m all is) pages same lanes place table sound
