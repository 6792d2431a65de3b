use Rattle.mirror_die.specs.Views.{view_of}
use Rattle.mirror_die.proofs.Rebuilding.{IsRebuilding}
use Rattle.mirror_die.proofs.mirror.MirrorDie.rebuild.Given as goal

abbrev pub invariant-loop-number : goal.invariant-loop-number
invariant-loop-number g l = IsRebuilding (view_of l.initial.self) l.number l.initial.page (view_of l.self) l.page
