use Rattle.std.specs.Prelude.{◌%◌}
use Rattle.core_state.specs.PlainOf.{plain, outcome_of}
use Rattle.span_bytes.specs.Spans.{span_part}
use Rattle.call_job.proofs.Endings.{run_of}
use Rattle.call_job.proofs.Written.{end_asks, writel_only, writel_used, writel_ends}
use Rattle.call_job.proofs.job.Job.finish_writing.Goals as goal

pub put_length-new-requires : goal.put_length-new-requires
put_length-new-requires c =
    let w = c.in-Writel in
    let a = end_asks c.args.self.now w.file w.function w.off w.n w.fuel w.param w.input w.is c.requires.ready in
    record { len = c.requires.len; end = a.low }

pub end_writing-requires : goal.end_writing-requires
end_writing-requires c =
    let w = c.in-Writel in
    let a = end_asks c.args.self.now w.file w.function w.off w.n w.fuel w.param w.input w.is c.requires.ready in
    record { ran = c.requires.ran; pages = a.pages; second = a.second }

pub unreachable-requires : goal.unreachable-requires
unreachable-requires c = writel_only c.args.self.now.request.call c.requires.writes (λ file function off n fuel param input e. c.in_default.not-Writel _ _ _ _ _ _ _ e)

pub unreachable-unreachable : goal.unreachable-unreachable
unreachable-unreachable c = c.unreachable.type_inv

pub returns-clause-ends : goal.returns-clause-ends
returns-clause-ends c = λ d lane call h e all s g l f k.
    let job = c.args.self.now in
    let w = c.in-Writel in
    let r = run_of job c.requires.ran in
    let out = span_part job.second.items (w.off % 4096) w.n in
    let a = c.end_writing.ensures in
    writel_ends d lane call job w.file w.function w.off w.n w.fuel w.param w.input c.args.len c.args.in_use c.args.capacity c.put_length-new.result c.has_room-room.result c.end_writing.result.ending.reply c.end_writing.result.len c.end_writing.new.self.pages.items r w.is c.requires.ready
    g c.put_length-new.ensures.value c.has_room-room.ensures
    (record { reply_is = a.reply r.outcome out r.is; put = a.put r.outcome out r.is; kept = a.kept r.outcome out r.is }) h e all s l f k

pub returns-clause-used : goal.returns-clause-used
returns-clause-used c = λ d call s g.
    let job = c.args.self.now in
    let w = c.in-Writel in
    let r = run_of job c.requires.ran in
    writel_used call job w.file w.function w.off w.n w.fuel c.end_writing.result.ending.used w.param w.input (outcome_of (plain d) call.claim.request.call) r w.is s g (c.end_writing.ensures.used r.outcome (span_part job.second.items (w.off % 4096) w.n) r.is)
