-- A call that a worker has reported ends over a desk, with the job that it left. This project's own.
use Rattle.std.specs.Prelude.{◌≡◌, ℕ, true, false, List, [], ◌∷◌, Result, Ok, Err}
use Rattle.plain_files.specs.declared.calls.Numbered.{Numbered}
use Rattle.core_state.specs.declared.actor.Actor.TheVariants.{Lane}
use Rattle.core_state.specs.declared.event.Event.{Event}
use Rattle.core_state.specs.declared.event.Event.TheVariants.{End}
use Rattle.core_state.specs.State.{Core}
use Rattle.core_state.specs.Hold.{hold}
use Rattle.core_state.specs.Coherent.{Coherent}
use Rattle.core_state.specs.EndEvent.{is_reported}
use Rattle.core_state.specs.PageEvents.{flight_at}
use Rattle.system_state.specs.declared.not_yet.NotYet.{NotYet}
use Rattle.system_state.specs.declared.not_yet.NotYet.TheVariants.{Unfinished}
use Rattle.system_ends.specs.Landed.{reply_at}
use Rattle.job_events.specs.Words.{IsAnswered}
use Rattle.call_job.specs.declared.job.Job.{Job}

-- From one core to a later one the lane has its dies, its row, and what it sees of its call, whoever has the call.
pub record StillWaits (c d : Core) (lane : ℕ) : Type 0 where
  pub dies : (hold d (Lane lane)).dies ≡ (hold c (Lane lane)).dies
  pub row : (hold d (Lane lane)).lane ≡ (hold c (Lane lane)).lane
  pub seen : (hold d (Lane lane)).seen ≡ (hold c (Lane lane)).seen
  pub shape : d.shape ≡ c.shape
  pub coherent : Coherent d

-- The call of the lane ended in core c, where it was reported: with the reply that it has there, and with the next number. The job is that of
-- the call that the lane had in the core before.
pub record Collected (before : Core) (lane : ℕ) (n : Numbered) (job : Job) (c : Core) (es : List Event) : Type 0 where
  pub are : es ≡ End lane job.request n.reply ∷ []
  pub reported : is_reported (flight_at c.calls lane).phase ≡ true
  pub request_is : job.request ≡ (flight_at before.calls lane).claim.request
  pub reply_is : n.reply ≡ reply_at c lane job.request
  pub answered : IsAnswered c (End lane job.request n.reply) lane job.request.call n
  pub waits : StillWaits before c lane

-- it ended, or is queued or running
abbrev pub CollectSays : Core → ℕ → Result (Numbered × Job) NotYet → Core → List Event → Type 0
CollectSays before lane (Ok x) c es = Collected before lane x.0 x.1 c es
CollectSays before lane (Err y) c es =
    (es ≡ []) × (is_reported (flight_at c.calls lane).phase ≡ false) × (y ≡ Unfinished lane) × StillWaits before c lane
