use Rattle.drive_runs.proofs.Imaging.{image_told}
use Rattle.drive_runs.proofs.image.images_tell.Goals as goal

pub returns : goal.returns
returns g c = λ s o h kind lines stores ended found stands made asked failed stored says.
    image_told g.D.Die.seen _ g.met.D.Die.sound s o h stands kind lines made stores ended found asked failed stored says
