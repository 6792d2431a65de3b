use Rattle.drive_array.proofs.Cutting.{cut_at}
use Rattle.drive_array.proofs.laws.image_page_lies_on_its_die.Goals as goal

pub returns : goal.returns
returns c = λ pages dies page some within. cut_at pages dies page some within
