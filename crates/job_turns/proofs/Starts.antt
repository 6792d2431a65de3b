-- The job of a call that has just begun, in the core that the turn leaves.
use Rattle.std.proofs.Common.{◌≡◌, ℕ, false, List, Some, refl, ap, ◌∙◌, subst}
use Rattle.std.specs.Prelude.{Result, Ok, Err, IfOk, IfErr}
use Rattle.std.specs.declared.snapshot.Snapshot.{Snapshot}
use Rattle.turn_cell.specs.declared.book.Entry.{Entry}
use Rattle.turn_cell.specs.declared.view.View.{View}
use Rattle.turn_cell.specs.Steps.{Extends, seeing}
use Rattle.turn_cell.specs.History.{entries_of}
use Rattle.index_lists.proofs.Puts.{put-same}
use Rattle.dispatcher.specs.declared.side.Side.{Side}
use Rattle.plain_files.specs.declared.calls.Request.{Request}
use Rattle.flash_die.specs.Dies.{DieView}
use Rattle.core_state.specs.declared.actor.Actor.{Actor}
use Rattle.core_state.specs.declared.event.Event.{Event}
use Rattle.core_state.specs.State.{Flight, Core}
use Rattle.core_state.specs.Reach.{claim_for}
use Rattle.core_state.specs.LaneEvents.{first_flight}
use Rattle.system_state.specs.Cores.{core_of}
use Rattle.system_state.specs.Jobs.{JobView, view_of}
use Rattle.system_state.specs.Made.{Made}
use Rattle.system_state.specs.Stands.{Stands}
use Rattle.system_state.specs.declared.not_yet.NotYet.{NotYet}
use Rattle.system_state.specs.declared.state.State.{State}
use Rattle.job_events.specs.BegunAnswer.{Begun}
use Rattle.job_events.specs.BegunAnswer.TheVariants.{Ended, Started}
use Rattle.job_events.specs.Ways.{begin_event}
use Rattle.desk_turns.specs.Passing.{core_seen}
use Rattle.desk_turns.proofs.Turning.{seen_core}
use Rattle.job_events.proofs.Taking.{DidAt}
use Rattle.job_events.proofs.Keeping.{at_flight}
use Rattle.call_job.specs.Suits.{Suits}
use Rattle.call_job.specs.declared.job.Job.{Job}
use Rattle.job_events.specs.Armed.{HasJob, IsArmed}
use Rattle.job_turns.specs.Starting.{HasStarted, StartSays}

-- the core of the book that was given is the one that the pass has seen then
pub given_core : {D J : Type 0} (seen : D → DieView) (suits : J → JobView → Type 0) (s t : State D J) (p q : Snapshot (State D J)) (v u w : View (Snapshot (State D J)) Event) (a : Actor) (P : List Event → Type 0) → p ≡ q → DidAt seen suits a t p u P →
    ((h : List (Entry Event)) → Stands seen suits t p.value h → Extends u h → w ≡ seeing u false h (entries_of u.number h)) → core_of seen t ≡ core_seen (core_of seen) q w
given_core seen suits s t p q v u w a P same d give =
    seen_core (core_of seen) (Stands seen suits) (λ s o h k. k.run) (λ s o h k. k.coherent) s t p q v u w d.events same d.few d.made give

-- where a call waits, the state is the same
pub same_state : {D : Type 0} (s t : State D Job) (old new : Job) (r : Result Begun NotYet) → IfErr r (λ y. (t ≡ s) × (new ≡ old)) → IfErr r (λ y. t ≡ s)
same_state s t old new (Ok x) same = tt
same_state s t old new (Err y) same = same.0

module _ {D : Type 0} (seen : D → DieView) (s t : State D Job) where
  has_started : (lane : ℕ) (request : Request) (side : Side) (span : ℕ) (job : Job) → ((core_of seen s).lanes lane).mark ≡ false → Made seen Suits s (begin_event lane request (Started side span)) t → HasJob (core_of seen t) lane job → HasStarted (core_of seen t) lane job
  has_started lane request side span job unmarked made k =
      let c = core_of seen s in
      let call : Flight = first_flight c.blocks c.places (claim_for c.names.files request side) in
      let flies : (core_of seen t).calls lane ≡ Some call = ap (λ (d : Core). d.calls lane) made.happens.leaves ∙ put-same c.calls lane (Some call) in
      record {
        call = call;
        flies = flies;
        held = refl;
        unmarked = ap (λ (d : Core). (d.lanes lane).mark) made.happens.leaves ∙ unmarked;
        none = λ i. refl;
        suits = subst (λ (f : Flight). Suits job (view_of (core_of seen t).names f)) (at_flight (core_of seen t).calls lane call flies) k.suits;
        fresh = k.fresh;
      }

  pub starts : (lane : ℕ) (request : Request) (old new : Job) (r : Result Begun NotYet) → ((core_of seen s).lanes lane).mark ≡ false → IfOk r (λ x. Made seen Suits s (begin_event lane request x) t) →
      IfOk r (λ x. IsArmed (core_of seen t) lane old new x) → IfErr r (λ y. (t ≡ s) × (new ≡ old)) → StartSays (core_of seen t) lane old new r
  starts lane request old new (Ok (Ended n)) unmarked made armed same = armed
  starts lane request old new (Ok (Started side span)) unmarked made armed same = has_started lane request side span new unmarked made armed
  starts lane request old new (Err y) unmarked made armed same = same.1

  -- whatever came of it, the job is for the same request
  pub same_request : (lane : ℕ) (old new : Job) (r : Result Begun NotYet) → IfOk r (λ x. Made seen Suits s (begin_event lane old.request x) t) →
      IfOk r (λ x. IsArmed (core_of seen t) lane old new x) → IfErr r (λ y. (t ≡ s) × (new ≡ old)) → new.request ≡ old.request
  same_request lane old new (Ok (Ended n)) made armed same = ap (λ (j : Job). j.request) armed
  same_request lane old new (Ok (Started side span)) made armed same =
      let c = core_of seen s in
      let call : Flight = first_flight c.blocks c.places (claim_for c.names.files old.request side) in
      let flies : (core_of seen t).calls lane ≡ Some call = ap (λ (d : Core). d.calls lane) made.happens.leaves ∙ put-same c.calls lane (Some call) in
      armed.suits.request ∙ ap (λ (f : Flight). f.claim.request) (at_flight (core_of seen t).calls lane call flies)
  same_request lane old new (Err y) made armed same = ap (λ (j : Job). j.request) same.1
