use Rattle.std.proofs.Common.{◌≡◌, arith}
use Rattle.edge_io.specs.Memory.{is_listed}
use Rattle.flash_die.specs.Dies.{next_number}
use Rattle.flash_die.proofs.Went.{failed_of-next}
use Rattle.flash_raw.proofs.Counting.{failed_of-made}
use Rattle.flash_raw.proofs.calls.Calls.next_fails.Goals as goal

pub invariant_of-self-clause-counted : goal.invariant_of-self-clause-counted
invariant_of-self-clause-counted c = failed_of-made _ _

pub returns-clause-failed : goal.returns-clause-failed
returns-clause-failed c =
    let calls = c.args.self.now in
    let next : c.min-self.result ≡ next_number calls.made = grind arith in
    let listed : c.is_listed.result ≡ is_listed c.min-self.result calls.failing.items = grind arith in
    rw listed (rw next (failed_of-next calls.made calls.failing.items calls.ended calls.small))
