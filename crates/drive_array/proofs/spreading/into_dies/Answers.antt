use Rattle.drive_array.proofs.Dealing.{dies_more}
use Rattle.drive_array.proofs.spreading.into_dies.Goals as goal

pub loop-share-preserved : goal.loop-share-preserved
loop-share-preserved c = dies_more c.loop-share.dies.items c.push.new.self.items c.into_die.result c.loop-share.yielded c.in-Some.share c.in_ok-push.ensures.items c.loop-share.invariant c.into_die.ensures
