use Rattle.std.proofs.Common.{true, false}
use Rattle.drive_array.proofs.InOrder.{views_set, went_at}
use Rattle.drive_array.proofs.gathering.read_page.Goals as goal

pub returns-in-Ok-clause-others : goal.returns-in-Ok-clause-others
returns-in-Ok-clause-others g c = views_set (λ die. g.D.Die.seen die) c.args.dies.now.items c.args.die c.read.new.self c.requires.there

pub returns-in-Ok-clause-went : goal.returns-in-Ok-clause-went
returns-in-Ok-clause-went g c = went_at (λ die. g.D.Die.seen die) c.args.dies.now.items c.args.die c.index_mut-one.result.now c.read.new.self c.args.place true c.args.into.now c.read.new.into c.requires.there c.index_mut-one.ensures.value c.in-Ok.ensures

pub returns-in-Err-clause-others : goal.returns-in-Err-clause-others
returns-in-Err-clause-others g c = views_set (λ die. g.D.Die.seen die) c.args.dies.now.items c.args.die c.read.new.self c.requires.there

pub returns-in-Err-clause-went : goal.returns-in-Err-clause-went
returns-in-Err-clause-went g c = went_at (λ die. g.D.Die.seen die) c.args.dies.now.items c.args.die c.index_mut-one.result.now c.read.new.self c.args.place false c.args.into.now c.read.new.into c.requires.there c.index_mut-one.ensures.value c.in-Err.ensures
