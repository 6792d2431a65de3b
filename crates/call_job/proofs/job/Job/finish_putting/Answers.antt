use Rattle.std.proofs.Common.{◌≡◌, ℕ, ◌+◌, ◌*◌, List, length, get_or, sym, ap, ◌∙◌, arith}
use Rattle.std.specs.Prelude.{◌%◌}
use Rattle.plain_files.specs.declared.calls.Call.TheVariants.{Write, Append}
use Rattle.plain_files.specs.declared.calls.Reply.TheVariants.{Done, At}
use Rattle.span_bytes.specs.Spans.{page_in, over}
use Rattle.call_job.specs.Puts.{stored_reply, stored_len}
use Rattle.call_job.proofs.Executed.{slice_back}
use Rattle.call_job.proofs.Putting.{write_asks, append_asks, write_ends, append_ends, ends_by, put_only}
use Rattle.call_job.proofs.job.Job.finish_putting.Goals as goal

pub put_bytes-new-requires : goal.put_bytes-new-requires
put_bytes-new-requires c =
    let bytes = c.as_slice.result.now in
    let a = write_asks c.args.self.now c.in-Write.field-0 bytes c.in-Write.off (c.in-Write.is ∙ ap (λ (b : List ℕ). Write c.in-Write.field-0 c.in-Write.off b) (sym c.as_slice.ensures)) c.requires.ready in
    let v = ap (λ (ps : List (List ℕ)). length ps) c.deref_mut.ensures.value in
    let p = a.pages in
    record { count = omega arith; len = c.requires.len; end = a.low; short = a.short; filled = c.requires.in_use }

pub put_bytes-new-requires-in-Append : goal.put_bytes-new-requires-in-Append
put_bytes-new-requires-in-Append c =
    let bytes = c.as_slice-in-Append-2.result.now in
    let same : c.as_slice-in-Append.result.now ≡ bytes = c.as_slice-in-Append.ensures ∙ sym c.as_slice-in-Append-2.ensures in
    let long = ap (λ (b : List ℕ). length b) same in
    let a = append_asks c.args.self.now c.in-Append.field-0 bytes c.append_at-off.result (c.in-Append.is ∙ ap (λ (b : List ℕ). Append c.in-Append.field-0 b) (sym c.as_slice-in-Append-2.ensures)) (λ l. c.append_at-off.ensures.some (omega arith)) c.requires.ready in
    let v = ap (λ (ps : List (List ℕ)). length ps) c.deref_mut-in-Append.ensures.value in
    let p = a.pages in
    record { count = omega arith; len = c.requires.len; end = a.low; short = a.short; filled = c.requires.in_use }

pub unreachable-requires : goal.unreachable-requires
unreachable-requires c = put_only c.args.self.now.request.call c.requires.puts (λ name off bytes e. c.in_default.not-Write _ _ _ e) (λ name bytes e. c.in_default.not-Append _ _ e)

pub unreachable-unreachable : goal.unreachable-unreachable
unreachable-unreachable c = c.unreachable.type_inv

pub returns-in-Write-clause-ends : goal.returns-in-Write-clause-ends
returns-in-Write-clause-ends c = λ d lane call h e all s l f k.
    let job = c.args.self.now in
    let bytes = c.as_slice.result.now in
    let new = c.put_bytes-new.new.pages in
    let value = c.deref_mut.ensures.value in
    let size = c.put_bytes-new.auto.pages ∙ ap (λ (ps : List (List ℕ)). length ps) value in
    ends_by d call (stored_reply c.put_bytes-new.result Done) c.stored.result.ending.reply (stored_len c.put_bytes-new.result c.args.len) c.stored.result.len new _
    (write_ends d lane call job c.in-Write.field-0 bytes c.in-Write.off c.args.len c.args.in_use c.args.capacity c.put_bytes-new.result new (c.in-Write.is ∙ ap (λ (b : List ℕ). Write c.in-Write.field-0 c.in-Write.off b) (sym c.as_slice.ensures))
    (record {
      answer = c.put_bytes-new.ensures.answer;
      none = λ z. c.put_bytes-new.ensures.none z ∙ value;
      bytes_are = λ z i j m n. c.put_bytes-new.ensures.bytes z i j m n ∙ ap (λ (ps : List (List ℕ)). over (c.in-Write.off % 4096) bytes (4096 * i + j) (get_or (page_in ps i) j 0)) value;
      whole = c.put_bytes-new.ensures.whole;
    })
    h e all s l f k)
    c.stored.ensures.reply c.stored.ensures.len (slice_back job.pages.items new job.pages.len (omega (arith, job.pages.ok.0, size)) size)

pub returns-in-Append-clause-ends : goal.returns-in-Append-clause-ends
returns-in-Append-clause-ends c = λ d lane call h e all s l f k.
    let job = c.args.self.now in
    let bytes = c.as_slice-in-Append-2.result.now in
    let same : c.as_slice-in-Append.result.now ≡ bytes = c.as_slice-in-Append.ensures ∙ sym c.as_slice-in-Append-2.ensures in
    let long = ap (λ (b : List ℕ). length b) same in
    let off = c.append_at-off.result in
    let new = c.put_bytes-new-in-Append.new.pages in
    let value = c.deref_mut-in-Append.ensures.value in
    let size = c.put_bytes-new-in-Append.auto.pages ∙ ap (λ (ps : List (List ℕ)). length ps) value in
    ends_by d call (stored_reply c.put_bytes-new-in-Append.result (At off)) c.stored-in-Append.result.ending.reply (stored_len c.put_bytes-new-in-Append.result c.args.len) c.stored-in-Append.result.len new _
    (append_ends d lane call job c.in-Append.field-0 bytes off c.args.len c.args.in_use c.args.capacity c.put_bytes-new-in-Append.result new (c.in-Append.is ∙ ap (λ (b : List ℕ). Append c.in-Append.field-0 b) (sym c.as_slice-in-Append-2.ensures))
    (λ m. c.append_at-off.ensures.some (omega arith)) (λ m. c.append_at-off.ensures.none (omega arith))
    (record {
      answer = c.put_bytes-new-in-Append.ensures.answer;
      none = λ z. c.put_bytes-new-in-Append.ensures.none z ∙ value;
      bytes_are = λ z i j m n. c.put_bytes-new-in-Append.ensures.bytes z i j m n ∙ ap (λ (ps : List (List ℕ)). over (off % 4096) bytes (4096 * i + j) (get_or (page_in ps i) j 0)) value;
      whole = c.put_bytes-new-in-Append.ensures.whole;
    })
    h e all s l f k)
    c.stored-in-Append.ensures.reply c.stored-in-Append.ensures.len (slice_back job.pages.items new job.pages.len (omega (arith, job.pages.ok.0, size)) size)
