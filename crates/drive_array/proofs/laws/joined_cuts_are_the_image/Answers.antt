use Rattle.drive_array.proofs.Cutting.{joined_cuts}
use Rattle.drive_array.proofs.laws.joined_cuts_are_the_image.Goals as goal

pub returns : goal.returns
returns c = λ pages dies some. joined_cuts pages dies some
