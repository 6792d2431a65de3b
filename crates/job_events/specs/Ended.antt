-- Calls that may end, and what they end with. This project's own.
use Rattle.std.specs.Prelude.{◌≡◌, ℕ, ◌<◌, ◌≤◌, true, false, List, length, Some}
use Rattle.page_base.specs.Drive.{meta_pages}
use Rattle.plain_files.specs.declared.calls.Request.{Request}
use Rattle.core_ends.specs.Stores.{StoresNothing}
use Rattle.core_state.specs.State.{Flight, Core}
use Rattle.core_state.specs.Coherent.{Coherent}
use Rattle.core_state.specs.Reach.{is_sync}
use Rattle.core_state.specs.PageEvents.{flight_at}
use Rattle.core_state.specs.LaneEvents.{HasGathered}
use Rattle.core_state.specs.EndEvent.{IsAtEnd, MayEnd, has_changed}
use Rattle.system_state.specs.Jobs.{view_of}
use Rattle.system_state.specs.declared.state.State.{State}
use Rattle.span_bytes.specs.Spans.{page_in}
use Rattle.system_ends.specs.Landed.{Stores, HasUsed}
use Rattle.call_job.specs.Ends.{HasRun}
use Rattle.call_job.specs.Suits.{Suits}
use Rattle.call_job.specs.declared.job.Job.{Job}
use Rattle.call_job.specs.declared.storing.Finished.{Finished}

-- The lane's call may end, with its job: it is held at the host, or reported. Where the lane has no mark, it has gathered its pages, a
-- `sync` has written all pages of the meta data, and the function of a call has run: whoever ran it over its pages knows that of a coherent
-- core.
pub record CanEnd (c : Core) (lane : ℕ) (job : Job) : Type 0 where
  pub call : Flight
  pub flies : c.calls lane ≡ Some call
  pub at_end : IsAtEnd call
  pub suits : Suits job (view_of c.names call)
  pub all : (c.lanes lane).mark ≡ false → HasGathered call
  pub synced : (c.lanes lane).mark ≡ false → is_sync call.claim.request.call ≡ true → call.meta ≡ meta_pages c.shape.blocks
  pub ran : Coherent c → (c.lanes lane).mark ≡ false → HasRun c call job

-- A call may end so: with this reply, which is a `fault` with a mark and Answer's without one, with this length of its file and these pages
-- of its span where it stored, and with its gathered pages where it didn't.
pub record EndsWith (c : Core) (lane : ℕ) (request : Request) (end : Finished) (pages : List (List ℕ)) : Type 0 where
  pub may : MayEnd c lane request end.ending.reply
  pub stores : (c.lanes lane).mark ≡ false → has_changed (flight_at c.calls lane) end.ending.reply ≡ true → Stores c lane end.ending.reply end.len pages
  pub many : (flight_at c.calls lane).claim.reach.pages ≤ length pages
  pub back : StoresNothing c lane end.ending.reply →
      (i : ℕ) (p : List ℕ) → i < (flight_at c.calls lane).claim.reach.pages → (flight_at c.calls lane).gathered i ≡ Some p → page_in pages i ≡ p
  pub used : HasUsed c lane end.ending.used

-- the tables of a state are of its drive, and it has this lane
pub record HasTables {D : Type 0} (s : State D Job) (lane : ℕ) : Type 0 where
  pub blocks : s.meta.extents.blocks ≡ s.sizes.blocks
  pub lanes : lane < length s.lanes.items
