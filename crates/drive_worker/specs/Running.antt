-- A worker runs the function of a call whose pages are gathered. This project's own.
use Rattle.std.specs.Prelude.{◌≡◌, Bool, true, false, Some, None}
use Rattle.core_state.specs.Reach.{is_lambda}
use Rattle.core_outcomes.specs.Known.{run_on}
use Rattle.span_bytes.specs.Spans.{page_in}
use Rattle.call_job.specs.Suits.{IsReady, SameButRun, given}
use Rattle.call_job.specs.declared.job.Job.{Job}

-- it has all buffers, and its call has a function, which hasn't run
pub record MayRun (job : Job) : Type 0 where
  pub ready : IsReady job
  pub lambda : is_lambda job.request.call ≡ true
  pub fresh : job.ran ≡ None

-- from one job to the next the function ran on the gathered pages, and nothing else changed
pub record RanOnPages (old new : Job) : Type 0 where
  pub ran : given new ≡ Some (run_on old.request.call old.code.insns old.readable (page_in old.pages.items))
  pub same : SameButRun old new
  pub ready : IsReady new

-- it ran where all pages were read
abbrev pub RanIf : Bool → Job → Job → Type 0
RanIf true old new = RanOnPages old new
RanIf false old new = new ≡ old
