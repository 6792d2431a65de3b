use Rattle.system_state.specs.Cores.{core_of}
use Rattle.system_quick.proofs.InTheWay.{nobody}
use Rattle.system_quick.proofs.holders.in_the_way.Goals as goal

pub returns-in_default : goal.returns-in_default
returns-in_default g c = nobody (core_of g.D.Die.seen c.args.state.now) c.args.call.now c.in_default.not-Remove c.in_default.not-Seal c.in_default.not-Unload
