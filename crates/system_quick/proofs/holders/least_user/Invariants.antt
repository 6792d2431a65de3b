use Rattle.std.proofs.Common.{◌≡◌, ℕ, get_or, None}
use Rattle.core_state.specs.Words.{first_to}
use Rattle.system_quick.specs.Rows.{row_uses}
use Rattle.system_quick.proofs.holders.least_user.Given as goal

abbrev pub invariant-loop-lane : goal.invariant-loop-lane
invariant-loop-lane l = l.least ≡ first_to l.lane (λ (j : ℕ). row_uses l.name (get_or l.calls j None))
