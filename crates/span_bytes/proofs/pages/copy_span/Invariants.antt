use Rattle.std.proofs.Common.{◌≡◌, ◌<◌, ℕ}
use Rattle.span_bytes.specs.Spans.{page_in}
use Rattle.span_bytes.proofs.pages.copy_span.Given as goal

abbrev pub invariant-loop-i : goal.invariant-loop-i
invariant-loop-i l = (i : ℕ) → i < l.i → page_in l.into i ≡ page_in l.from i
