-- A call has just begun where a begin was made.
use Rattle.std.proofs.Common.{◌≡◌, ℕ, [], ◌∷◌, ◌++◌, Some, refl, ap, ◌∙◌, subst}
use Rattle.dispatcher.specs.declared.side.Side.{Side}
use Rattle.flash_die.specs.Dies.{DieView}
use Rattle.index_lists.proofs.Puts.{put-same}
use Rattle.turn_cell.specs.History.{entry}
use Rattle.plain_files.specs.declared.calls.Request.{Request}
use Rattle.core_state.specs.declared.event.Event.{Event}
use Rattle.core_state.specs.State.{Core}
use Rattle.core_state.specs.Reach.{claim_for}
use Rattle.core_state.specs.LaneEvents.{first_flight}
use Rattle.system_state.specs.Cores.{core_of}
use Rattle.system_state.specs.Made.{Made}
use Rattle.system_state.specs.Stands.{IsStanding, Stands}
use Rattle.system_state.specs.declared.state.State.{State}
use Rattle.call_turns.specs.BegunAnswer.{Begun}
use Rattle.call_turns.specs.BegunAnswer.TheVariants.{Started}
use Rattle.call_turns.specs.Ways.{begin_event}
use Rattle.desk_turns.specs.Making.{Makes}
use Rattle.call_job.specs.Prepares.{IsPrepared}
use Rattle.call_job.specs.Suits.{Suits}
use Rattle.call_job.specs.declared.job.Job.{Job}
use Rattle.job_events.specs.Armed.{HasBegun}

module _ {D : Type 0} (seen : D → DieView) (s t : State D Job) where
  pub standing_after : (e : Event) → IsStanding seen Suits s → Makes (Stands seen Suits) s (e ∷ []) t → IsStanding seen Suits t
  standing_after e st goes_on = record { o = st.o; h = st.h ++ entry 0 e ∷ []; stands = goes_on st.o st.h 0 st.stands }

  pub has_begun : (lane : ℕ) (request : Request) (x : Begun) (side : Side) (span : ℕ) (job : Job) → IsPrepared request job → Made seen Suits s (begin_event lane request x) t → x ≡ Started side span → HasBegun (core_of seen t) lane job
  has_begun lane request x side span job prepared made is =
      let c = core_of seen s in
      let m = subst (λ (y : Begun). Made seen Suits s (begin_event lane request y) t) is made in
      record {
        call = first_flight c.blocks c.places (claim_for c.names.files request side);
        flies = ap (λ (d : Core). d.calls lane) m.happens.leaves ∙ put-same c.calls lane (Some (first_flight c.blocks c.places (claim_for c.names.files request side)));
        held = refl;
        none = λ i. refl;
        prepared = prepared;
      }
