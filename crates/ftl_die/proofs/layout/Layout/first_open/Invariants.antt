use Rattle.std.proofs.Common.{◌≡◌, ℕ, ◌<◌, get_or}
use Rattle.ftl_die.proofs.layout.Layout.first_open.Given as goal

abbrev pub invariant-loop-block : goal.invariant-loop-block
invariant-loop-block l = (other : ℕ) → other < l.block → get_or l.self.used.items other 0 ≡ 64
