use Rattle.std.proofs.Common.{◌≡◌, ◌<◌, ℕ, length}
use Rattle.span_bytes.specs.Spans.{page_in}
use Rattle.call_job.proofs.writing.are_whole.Given as goal

abbrev pub invariant-loop-i : goal.invariant-loop-i
invariant-loop-i l = (k : ℕ) → k < l.i → length (page_in l.pages k) ≡ 4096
