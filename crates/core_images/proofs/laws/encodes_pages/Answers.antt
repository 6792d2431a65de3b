use Rattle.core_images.proofs.Encodes.{encodes, of_drive}
use Rattle.core_images.proofs.laws.encodes_pages.Goals as goal

pub returns-clause-pages : goal.returns-clause-pages
returns-clause-pages c = encodes

pub returns-clause-drive : goal.returns-clause-drive
returns-clause-drive c = of_drive
