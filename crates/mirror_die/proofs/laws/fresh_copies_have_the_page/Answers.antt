use Rattle.mirror_die.specs.Views.{view_of}
use Rattle.mirror_die.proofs.Made.{fresh_is_equal}
use Rattle.mirror_die.proofs.laws.fresh_copies_have_the_page.Goals as goal

pub returns-clause-equal : goal.returns-clause-equal
returns-clause-equal g c = fresh_is_equal (view_of c.args.mirror.now) (g.met.A.Die.sound c.args.mirror.now.first) (g.met.B.Die.sound c.args.mirror.now.second) c.args.mirror.now.mirrors
