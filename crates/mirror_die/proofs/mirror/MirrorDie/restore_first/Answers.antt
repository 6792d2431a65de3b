use Rattle.std.proofs.Common.{refl}
use Rattle.mirror_die.specs.Mirror.{MirrorView}
use Rattle.mirror_die.specs.Views.{view_of}
use Rattle.mirror_die.specs.declared.copies.Copied.TheVariants.{Done, WriteFailed}
use Rattle.mirror_die.proofs.Restoring.{first_by}
use Rattle.mirror_die.proofs.mirror.MirrorDie.restore_first.Goals as goal

pub returns-in-Done-clause-after : goal.returns-in-Done-clause-after
returns-in-Done-clause-after g c =
    let mirror = c.args.self.now in
    let new : MirrorView = record { first = g.A.Die.seen c.copy_page.new.target; second = g.B.Die.seen c.copy_page.new.source; fresh = c.set.new.self; faults = mirror.faults } in
    first_by Done (view_of mirror) new c.args.page c.args.buffer.now c.copy_page.new.buffer mirror.mirrors (g.met.A.Die.sound mirror.first) (g.met.B.Die.sound mirror.second) c.requires.within c.requires.on_second c.in-Done.ensures c.set.ensures refl

pub returns-in-WriteFailed-clause-after : goal.returns-in-WriteFailed-clause-after
returns-in-WriteFailed-clause-after g c =
    let mirror = c.args.self.now in
    let new : MirrorView = record { first = g.A.Die.seen c.copy_page.new.target; second = g.B.Die.seen c.copy_page.new.source; fresh = mirror.fresh; faults = mirror.faults } in
    first_by WriteFailed (view_of mirror) new c.args.page c.args.buffer.now c.copy_page.new.buffer mirror.mirrors (g.met.A.Die.sound mirror.first) (g.met.B.Die.sound mirror.second) c.requires.within c.requires.on_second c.in-WriteFailed.ensures refl refl
