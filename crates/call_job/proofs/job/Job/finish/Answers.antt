use Rattle.std.proofs.Common.{◌≡◌, true, List, length, sym, ap, ◌∙◌, arith}
use Rattle.plain_files.specs.declared.calls.Request.{Request}
use Rattle.core_state.specs.State.{Page}
use Rattle.core_state.specs.Reach.{is_lambda}
use Rattle.call_job.specs.Writes.{is_writel}
use Rattle.call_job.proofs.Executed.{pool_has}
use Rattle.call_job.proofs.Ended.{reads_end, put_runs_none, trunc_runs_none, writel_left, writel_runs}
use Rattle.call_job.proofs.job.Job.finish.Goals as goal

pub returns-then-is_read-clause-ends : goal.returns-then-is_read-clause-ends
returns-then-is_read-clause-ends c = λ d lane call h e all s g l f k.
    reads_end d lane call c.args.self.now c.finish_reading-ending.result.reply c.args.len c.finish_reading-ending.new.self.pages.items h e s (sym c.is_read.ensures ∙ c.if-is_read.true)
    (c.finish_reading-ending.ensures.reply d lane call h e all s g) c.finish_reading-ending.ensures.pages

pub returns-then-is_read-clause-many : goal.returns-then-is_read-clause-many
returns-then-is_read-clause-many c = let p = pool_has c.args.self.now c.requires.ready in let q = ap (λ (ps : List Page). length ps) c.finish_reading-ending.ensures.pages in omega arith

pub returns-then-puts_bytes-clause-ends : goal.returns-then-puts_bytes-clause-ends
returns-then-puts_bytes-clause-ends c = λ d lane call h e all s g l f k. c.finish_putting.ensures.ends d lane call h e all s l f k

pub returns-then-puts_bytes-clause-used : goal.returns-then-puts_bytes-clause-used
returns-then-puts_bytes-clause-used c = λ d call s l g. put_runs_none c.args.self.now.request.call (sym c.puts_bytes.ensures ∙ c.if-puts_bytes.true) (ap (λ (x : Request). is_lambda x.call) s ∙ l)

pub returns-then-puts_bytes-clause-many : goal.returns-then-puts_bytes-clause-many
returns-then-puts_bytes-clause-many c = let p = pool_has c.args.self.now c.requires.ready in let q = c.finish_putting.ensures.many in omega arith

pub returns-then-is_trunc-clause-ends : goal.returns-then-is_trunc-clause-ends
returns-then-is_trunc-clause-ends c = λ d lane call h e all s g l f k. c.finish_cutting.ensures.ends d lane call h e all s l f k

pub returns-then-is_trunc-clause-used : goal.returns-then-is_trunc-clause-used
returns-then-is_trunc-clause-used c = λ d call s l g. trunc_runs_none c.args.self.now.request.call (sym c.is_trunc.ensures ∙ c.if-is_trunc.true) (ap (λ (x : Request). is_lambda x.call) s ∙ l)

pub returns-then-is_trunc-clause-many : goal.returns-then-is_trunc-clause-many
returns-then-is_trunc-clause-many c = let p = pool_has c.args.self.now c.requires.ready in let q = c.finish_cutting.ensures.many in omega arith

pub finish_writing-requires : goal.finish_writing-requires
finish_writing-requires c =
    let call = c.args.self.now.request.call in
    let w : is_writel call ≡ true = writel_left call c.requires.data (sym c.is_read.ensures ∙ c.if-is_read.false) (sym c.puts_bytes.ensures ∙ c.if-puts_bytes.false) (sym c.is_trunc.ensures ∙ c.if-is_trunc.false) in
    record { ready = c.requires.ready; writes = w; ran = c.requires.ran (writel_runs call w); len = c.requires.len; in_use = c.requires.in_use }

pub returns-clause-ends : goal.returns-clause-ends
returns-clause-ends c = λ d lane call h e all s g l f k.
    let kind = c.args.self.now.request.call in
    let w : is_writel kind ≡ true = writel_left kind c.requires.data (sym c.is_read.ensures ∙ c.if-is_read.false) (sym c.puts_bytes.ensures ∙ c.if-puts_bytes.false) (sym c.is_trunc.ensures ∙ c.if-is_trunc.false) in
    c.finish_writing.ensures.ends d lane call h e all s (g (ap (λ (x : Request). is_lambda x.call) (sym s.request) ∙ writel_runs kind w)) l f k

pub returns-clause-used : goal.returns-clause-used
returns-clause-used c = λ d call s l g. c.finish_writing.ensures.used d call s g
