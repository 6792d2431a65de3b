use Rattle.std.proofs.Common.{◌≡◌, ℕ, List}
use Rattle.plain_files.specs.History.{Entry}
use Rattle.log_text.specs.Told.{IsTold}
use Rattle.log_text.proofs.Told.{calls_below}
use Rattle.log_text.proofs.order.count_of.Given as goal

abbrev pub invariant-loop-i : goal.invariant-loop-i
invariant-loop-i l = (lanes : ℕ) (calls : List Entry) → IsTold lanes calls l.logs → l.count ≡ calls_below l.i calls
