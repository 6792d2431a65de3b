use Rattle.std.proofs.Common.{◌≡◌, take, sum}
use Rattle.turn_example.specs.Shares.{Each, IsNew, IsSharing, amount_sum}
use Rattle.turn_example.proofs.share.seat_all.Given as goal

abbrev pub invariant-loop-amount : goal.invariant-loop-amount
invariant-loop-amount l = IsSharing l.turn l.jobs.items l.root × Each (IsNew l.turn) l.jobs.items × (amount_sum l.jobs.items ≡ sum (take l.amount-index l.amounts))
