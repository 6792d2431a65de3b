use Rattle.system_start.proofs.Starts.{mounted_starts}
use Rattle.system_start.proofs.laws.mounted_images_may_start.Goals as goal

pub returns : goal.returns
returns g c = λ dies bytes m all mounts count told size same.
    let laws = c.mounted_is_whole.ensures in
    mounted_starts g.D.Die.seen g.met.D.Die.sound dies m all (laws.whole bytes m all mounts) (laws.count bytes m all mounts) count told size same
