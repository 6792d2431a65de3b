use Rattle.std.proofs.Common.{◌≡◌, ◌+◌, ◌*◌, ◌<◌, ◌≤◌, ℕ, length, get_or}
use Rattle.span_bytes.specs.Spans.{page_in, over}
use Rattle.span_bytes.proofs.pages.patch_span.Given as goal

abbrev pub invariant-loop-i : goal.invariant-loop-i
invariant-loop-i l = record {
  bytes : (i j : ℕ) → i < l.i → j < 4096 → get_or (page_in l.pages i) j 0 ≡ over l.start l.bytes (4096 * i + j) (get_or (page_in l.initial.pages i) j 0);
  whole : (i : ℕ) → i < l.i → length (page_in l.pages i) ≡ 4096;
  rest : (i : ℕ) → l.i ≤ i → page_in l.pages i ≡ page_in l.initial.pages i;
}
