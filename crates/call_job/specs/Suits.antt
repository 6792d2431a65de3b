-- Which job suits which call. This project's own.
--
-- It has the request and the reach of the call, the code of its function, how many bytes of its file it reads, its gathered pages, and
-- its result where there is one.
use Rattle.std.specs.Prelude.{◌≡◌, ◌<◌, ◌≤◌, ◌^◌, ℕ, ◌%◌, true, false, List, [], Option, Some, None, option_map, unwrap_or}
use Rattle.sbpf_insn.specs.Machine as machine
use Rattle.sbpf_exec.specs.declared.interpreter.Outcome.{Outcome}
use Rattle.sbpf_exec.specs.Outcomes as exec
use Rattle.plain_files.specs.declared.calls.Call.{Call}
use Rattle.plain_files.specs.declared.calls.Call.TheVariants.{Readl, Writel}
use Rattle.plain_files.specs.Plain.{is_too_long}
use Rattle.core_state.specs.State.{Phase, Held, Queued, Running, Reported}
use Rattle.core_state.specs.Reach as core_reach
use Rattle.core_state.specs.Reach.{is_exclusive}
use Rattle.system_state.specs.Cores.{reach_of}
use Rattle.system_state.specs.Jobs.{JobView}
use Rattle.span_bytes.specs.Spans.{page_in, span_part}
use Rattle.call_job.specs.Buffers.{HasBuffers, readable_in}
use Rattle.call_job.specs.declared.job.Job.{Job}

-- its call began on a file of some length, and it has all buffers
pub record IsReady (job : Job) : Type 0 where
  pub len : ℕ
  pub short : is_too_long job.request.call ≡ false
  pub reach : reach_of job.reach ≡ core_reach.reach_of job.request.call len
  pub readable : job.readable ≡ readable_in job.request.call (reach_of job.reach) len
  pub low : is_exclusive (reach_of job.reach).mode ≡ true → job.reach.end ≤ 2 ^ 28
  pub buffers : HasBuffers job

-- the bytes that the function put out
abbrev pub put_out : Job → Call → List ℕ
put_out job (Readl file off n function fuel cap param) = job.flat
put_out job (Writel file off n function fuel param input) = span_part job.second.items (off % 4096) n
put_out job call = []

-- how its function ended, if it ran
abbrev pub given : Job → Option machine.Outcome
given job = option_map (λ (r : Outcome). exec.outcome_of r (put_out job job.request.call)) job.ran

-- in the queue its function hasn't run, and once it is reported it has this result
abbrev pub HasResult : Job → Phase → Type 0
HasResult job Held = Unit {0}
HasResult job Queued = job.ran ≡ None
HasResult job (Running worker) = Unit {0}
HasResult job (Reported None) = Unit {0}
HasResult job (Reported (Some outcome)) = given job ≡ Some outcome

pub record Suits (job : Job) (view : JobView) : Type 0 where
  pub request : job.request ≡ view.flight.claim.request
  pub side : job.side ≡ view.flight.claim.side
  pub reach : reach_of job.reach ≡ view.flight.claim.reach
  pub code : job.code.insns ≡ unwrap_or view.code []
  pub readable : job.readable ≡ unwrap_or view.readable 0
  pub ready : IsReady job
  pub gathered : (i : ℕ) (p : List ℕ) → i < view.flight.claim.reach.pages → view.flight.gathered i ≡ Some p → page_in job.pages.items i ≡ p
  pub result : HasResult job view.flight.phase

-- a run changes what the function puts out, and nothing that its call has gathered
pub record SameButRun (old new : Job) : Type 0 where
  pub request : new.request ≡ old.request
  pub side : new.side ≡ old.side
  pub reach : new.reach ≡ old.reach
  pub readable : new.readable ≡ old.readable
  pub code : new.code ≡ old.code
  pub pages : new.pages.items ≡ old.pages.items
