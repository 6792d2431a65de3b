use Rattle.system_start.proofs.Starts.{empty_starts}
use Rattle.system_start.proofs.laws.empty_drives_may_start.Goals as goal

pub returns : goal.returns
returns g c = λ dies drive count told size. empty_starts g.D.Die.seen g.met.D.Die.sound dies drive count told size
