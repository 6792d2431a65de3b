use Rattle.std.proofs.Common.{ap}
use Rattle.core_state.specs.Reach.{is_lambda}
use Rattle.call_job.proofs.Endings.{read_asks, read_answer, run_of, flat_long, readl_answer, read_only, read_runs_none, readl_used}
use Rattle.call_job.proofs.job.Job.finish_reading.Goals as goal

pub reply_data-reply-requires : goal.reply_data-reply-requires
reply_data-reply-requires c =
    let a = read_asks c.args.self.now c.in-Read.field-0 c.in-Read.off c.in-Read.field-2 c.in-Read.is c.requires.ready in
    record { few = a.few; fits = a.fits; room = a.room }

pub reply_output-requires : goal.reply_output-requires
reply_output-requires c = record {
  ran = c.requires.ran (ap is_lambda c.in-Readl.is);
  long = flat_long c.args.self.now c.in-Readl.file c.in-Readl.function c.in-Readl.off c.in-Readl.len c.in-Readl.fuel c.in-Readl.cap c.in-Readl.param c.in-Readl.is c.requires.ready;
}

pub unreachable-requires : goal.unreachable-requires
unreachable-requires c =
    read_only c.args.self.now.request.call c.requires.reads (λ name off n e. c.in_default.not-Read _ _ _ e) (λ file function off n fuel cap param e. c.in_default.not-Readl _ _ _ _ _ _ _ e)

pub unreachable-unreachable : goal.unreachable-unreachable
unreachable-unreachable c = c.unreachable.type_inv

pub returns-in-Read : goal.returns-in-Read
returns-in-Read c =
    let job = c.args.self.now in
    record {
      reply = λ d lane call h e all s g. read_answer d lane call job c.in-Read.field-0 c.in-Read.off c.in-Read.field-2 c.reply_data-reply.result h e all s c.in-Read.is c.reply_data-reply.ensures.reply;
      used = λ d call s l g. read_runs_none job call.claim.request c.in-Read.field-0 c.in-Read.off c.in-Read.field-2 c.in-Read.is s l;
      pages = c.reply_data-reply.ensures.pages;
      request = c.reply_data-reply.ensures.request;
    }

pub returns-in-Readl : goal.returns-in-Readl
returns-in-Readl c =
    let job = c.args.self.now in
    let r = run_of job (c.requires.ran (ap is_lambda c.in-Readl.is)) in
    record {
      reply = λ d lane call h e all s g. readl_answer d lane call job c.in-Readl.file c.in-Readl.function c.in-Readl.off c.in-Readl.len c.in-Readl.fuel c.in-Readl.cap c.in-Readl.param c.reply_output.result.reply r h e s c.in-Readl.is g (c.reply_output.ensures.reply r.outcome r.is);
      used = λ d call s l g. readl_used d call job c.in-Readl.file c.in-Readl.function c.in-Readl.off c.in-Readl.len c.in-Readl.fuel c.in-Readl.cap c.reply_output.result.used c.in-Readl.param r c.in-Readl.is s g (c.reply_output.ensures.used r.outcome r.is);
      pages = c.reply_output.ensures.pages;
      request = c.reply_output.ensures.request;
    }
