-- The job of a call that has just begun. This project's own.
use Rattle.std.specs.Prelude.{◌≡◌, ℕ, List, Option, Some, None, option_map}
use Rattle.sbpf_insn.specs.Program.{Program}
use Rattle.plain_files.specs.declared.calls.Call.{Call}
use Rattle.plain_files.specs.declared.calls.Call.TheVariants.{Readl, Writel}
use Rattle.core_state.specs.State.{Held, Flight, Core}
use Rattle.core_state.specs.PageEvents.{flight_at}
use Rattle.system_state.specs.Jobs.{view_of}
use Rattle.system_state.specs.declared.state.Function.{Function}
use Rattle.call_turns.specs.BegunAnswer.{Begun}
use Rattle.call_turns.specs.BegunAnswer.TheVariants.{Ended, Started}
use Rattle.call_checks.specs.Checks.{function_by}
use Rattle.call_job.specs.Prepares.{IsPrepared}
use Rattle.call_job.specs.Suits.{Suits}
use Rattle.call_job.specs.declared.job.Job.{Job}

-- the code of the function that a call runs, if it runs one that is there
abbrev pub code_row : List Function → Call → Option Program
code_row functions (Readl file off len function fuel cap param) = option_map (λ f. f.code) (function_by functions function)
code_row functions (Writel file off len function fuel param input) = option_map (λ f. f.code) (function_by functions function)
code_row functions call = None

-- the lane's call has just begun, with what was prepared for it
pub record HasBegun (c : Core) (lane : ℕ) (job : Job) : Type 0 where
  pub call : Flight
  pub flies : c.calls lane ≡ Some call
  pub held : call.phase ≡ Held
  pub none : (i : ℕ) → call.gathered i ≡ None
  pub prepared : IsPrepared call.claim.request job

-- the job is that of the lane's call, whose function hasn't run
pub record HasJob (c : Core) (lane : ℕ) (job : Job) : Type 0 where
  pub suits : Suits job (view_of c.names (flight_at c.calls lane))
  pub fresh : job.ran ≡ None

-- a call that began has its job; of one that was refused it is as it was
abbrev pub IsArmed : Core → ℕ → Job → Job → Begun → Type 0
IsArmed c lane old new (Ended n) = new ≡ old
IsArmed c lane old new (Started side span) = HasJob c lane new
