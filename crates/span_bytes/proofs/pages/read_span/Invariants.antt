use Rattle.std.proofs.Common.{◌≡◌, ◌+◌, ◌<◌, ℕ, length, get_or}
use Rattle.std.specs.Prelude.{◌/◌}
use Rattle.span_bytes.specs.Spans.{byte_in}
use Rattle.span_bytes.proofs.pages.read_span.Given as goal

abbrev pub invariant-loop-i : goal.invariant-loop-i
invariant-loop-i l = (k : ℕ) → k < length l.data → (l.start + k) / 4096 < l.i → get_or l.data k 0 ≡ byte_in l.pages (l.start + k)
