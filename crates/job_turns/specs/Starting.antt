-- The job of a call that was to begin over a desk. This project's own.
use Rattle.std.specs.Prelude.{◌≡◌, ℕ, false, Some, None, Result, Ok, Err}
use Rattle.core_state.specs.State.{Held, Flight, Core}
use Rattle.system_state.specs.Jobs.{view_of}
use Rattle.system_state.specs.declared.not_yet.NotYet.{NotYet}
use Rattle.job_events.specs.BegunAnswer.{Begun}
use Rattle.job_events.specs.BegunAnswer.TheVariants.{Ended, Started}
use Rattle.call_job.specs.Suits.{Suits}
use Rattle.call_job.specs.declared.job.Job.{Job}

-- the lane's call has just begun, and this is its job: it has gathered nothing, and its function hasn't run
pub record HasStarted (c : Core) (lane : ℕ) (job : Job) : Type 0 where
  pub call : Flight
  pub flies : c.calls lane ≡ Some call
  pub held : call.phase ≡ Held
  pub unmarked : (c.lanes lane).mark ≡ false
  pub none : (i : ℕ) → call.gathered i ≡ None
  pub suits : Suits job (view_of c.names call)
  pub fresh : job.ran ≡ None

-- a call that began has its job; of one that was refused, or that waits, it is as it was
abbrev pub StartSays : Core → ℕ → Job → Job → Result Begun NotYet → Type 0
StartSays c lane old new (Ok (Ended n)) = new ≡ old
StartSays c lane old new (Ok (Started side span)) = HasStarted c lane new
StartSays c lane old new (Err y) = new ≡ old
