use Rattle.std.proofs.Common.{ℕ, List, length, sym, ap, ◌∙◌, arith}
use Rattle.std.specs.Prelude.{◌%◌}
use Rattle.page_base.specs.Bytes.{cleared_from}
use Rattle.plain_files.specs.declared.calls.Reply.TheVariants.{Done}
use Rattle.span_bytes.specs.Spans.{page_in}
use Rattle.call_job.specs.Puts.{stored_reply, stored_len}
use Rattle.call_job.proofs.Executed.{slice_back, pool_has}
use Rattle.call_job.proofs.Putting.{ends_by}
use Rattle.call_job.proofs.Cuts.{trunc_low, trunc_ends, trunc_only}
use Rattle.call_job.proofs.job.Job.finish_cutting.Goals as goal

pub cut_bytes-new-requires : goal.cut_bytes-new-requires
cut_bytes-new-requires c =
    let v = ap (λ (ps : List (List ℕ)). length ps) c.deref_mut.ensures.value in
    let p = pool_has c.args.self.now c.requires.ready in
    record { count = omega arith; len = c.requires.len; low = trunc_low c.args.self.now c.in-Trunc.field-0 c.in-Trunc.n c.in-Trunc.is c.requires.ready; filled = c.requires.in_use }

pub unreachable-requires : goal.unreachable-requires
unreachable-requires c = trunc_only c.args.self.now.request.call c.requires.cuts (λ name n e. c.in_default.not-Trunc _ _ e)

pub unreachable-unreachable : goal.unreachable-unreachable
unreachable-unreachable c = c.unreachable.type_inv

pub returns-clause-ends : goal.returns-clause-ends
returns-clause-ends c = λ d lane call h e all s l f k.
    let job = c.args.self.now in
    let new = c.cut_bytes-new.new.pages in
    let value = c.deref_mut.ensures.value in
    let size = c.cut_bytes-new.auto.pages ∙ ap (λ (ps : List (List ℕ)). length ps) value in
    ends_by d call (stored_reply c.cut_bytes-new.result Done) c.stored.result.ending.reply (stored_len c.cut_bytes-new.result c.args.len) c.stored.result.len new _
    (trunc_ends d lane call job c.in-Trunc.field-0 c.in-Trunc.n c.args.len c.args.in_use c.args.capacity c.cut_bytes-new.result new c.in-Trunc.is c.requires.ready
    (record {
      answer = c.cut_bytes-new.ensures.answer;
      none = λ z. c.cut_bytes-new.ensures.none z ∙ value;
      cleared = λ z m. c.cut_bytes-new.ensures.cleared z m ∙ ap (λ (ps : List (List ℕ)). cleared_from (page_in ps 0) (c.in-Trunc.n % 4096)) value;
      was = λ z m. ap (λ (ps : List (List ℕ)). length (page_in ps 0)) (sym value) ∙ c.cut_bytes-new.ensures.was z m;
      whole = c.cut_bytes-new.ensures.whole;
    })
    h e all s l f k)
    c.stored.ensures.reply c.stored.ensures.len (slice_back job.pages.items new job.pages.len (omega (arith, job.pages.ok.0, size)) size)
