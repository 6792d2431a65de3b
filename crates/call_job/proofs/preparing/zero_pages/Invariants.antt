use Rattle.std.proofs.Common.{◌≡◌, length}
use Rattle.call_job.proofs.preparing.zero_pages.Given as goal

abbrev pub invariant-loop-made : goal.invariant-loop-made
invariant-loop-made l = length l.pages.items ≡ l._made
