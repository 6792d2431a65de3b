use Rattle.mirror_die.proofs.Made.{seen_made}
use Rattle.mirror_die.proofs.Steps.{mirror_made}
use Rattle.mirror_die.proofs.mirror.MirrorDie.new.Goals as goal

pub invariant_of-result : goal.invariant_of-result
invariant_of-result g c = record {
  mirrors = mirror_made (g.A.Die.seen c.args.first) (g.B.Die.seen c.args.second) c.in-Ok.fresh c.pages.result c.requires.sizes c.requires.same c.requires.first_most c.requires.second_most c.pages.ensures c.pages.type_inv c.in-Ok.ensures;
}

pub returns-in-Ok-clause-seen : goal.returns-in-Ok-clause-seen
returns-in-Ok-clause-seen g c = seen_made (g.A.Die.seen c.args.first) (g.B.Die.seen c.args.second) c.in-Ok.fresh c.pages.result c.requires.sizes c.pages.ensures (g.met.A.Die.sound c.args.first) (g.met.B.Die.sound c.args.second) c.in-Ok.ensures
