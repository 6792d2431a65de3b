-- When a call may end with what its job gives: what `end_call` asks. This project's own.
use Rattle.std.specs.Prelude.{◌≡◌, ◌<◌, ◌≤◌, ℕ, true, false, List, length, Some}
use Rattle.plain_files.specs.declared.calls.Reply.{Reply}
use Rattle.plain_files.specs.declared.calls.Request.{Request}
use Rattle.core_state.specs.State.{Flight, Core}
use Rattle.core_state.specs.Reach.{is_lambda}
use Rattle.core_state.specs.PlainOf.{plain, outcome_of}
use Rattle.core_state.specs.PageEvents.{flight_at}
use Rattle.core_state.specs.EndEvent.{MayEnd, has_changed}
use Rattle.core_ends.specs.Stores.{StoresNothing}
use Rattle.system_ends.specs.Landed.{Stores, HasUsed}
use Rattle.span_bytes.specs.Spans.{page_in}
use Rattle.call_job.specs.Suits.{given}
use Rattle.call_job.specs.declared.job.Job.{Job}

-- the function of the call has run, if it has one, and the job has its result
abbrev pub HasRun : Core → Flight → Job → Type 0
HasRun c call job = is_lambda call.claim.request.call ≡ true → given job ≡ Some (outcome_of (plain c) call.claim.request.call)

-- The lane's call may end with this reply: its file is then so long, if it stored, and these are the pages of its span; else they are
-- those that it has taken. Its function has used so much fuel.
pub record MayEndWith (c : Core) (lane : ℕ) (request : Request) (reply : Reply) (used len : ℕ) (pages : List (List ℕ)) : Type 0 where
  pub may : MayEnd c lane request reply
  pub stores : (c.lanes lane).mark ≡ false → has_changed (flight_at c.calls lane) reply ≡ true → Stores c lane reply len pages
  pub many : (flight_at c.calls lane).claim.reach.pages ≤ length pages
  pub back : StoresNothing c lane reply → (i : ℕ) (p : List ℕ) → i < (flight_at c.calls lane).claim.reach.pages → (flight_at c.calls lane).gathered i ≡ Some p → page_in pages i ≡ p
  pub fuel : HasUsed c lane used
