-- A die writes for a `sync`, and comes home.
use Rattle.std.proofs.Common.{◌≡◌, ℕ, ◌<◌, Bool, false, [], ◌∷◌, ◌++◌, sym, ap, ◌∙◌, subst, append-nil}
use Rattle.std.specs.declared.snapshot.Snapshot.{Snapshot}
use Rattle.turn_cell.specs.declared.view.View.{View}
use Rattle.turn_cell.specs.History.{StartsWith}
use Rattle.flash_die.specs.Dies.{DieView}
use Rattle.core_state.specs.declared.actor.Actor.{Actor}
use Rattle.core_state.specs.declared.actor.Actor.TheVariants.{Lane}
use Rattle.core_state.specs.declared.event.Event.{Event}
use Rattle.core_state.specs.declared.event.Event.TheVariants.{FlushIn, MetaIn}
use Rattle.core_state.specs.State.{Page, Errand as Purpose}
use Rattle.system_state.specs.Cores.{core_of}
use Rattle.system_state.specs.Errands.{HasWritten, IsSameErrand, left_by, succeeded}
use Rattle.system_state.specs.declared.errand.Errand.{Errand}
use Rattle.system_state.specs.declared.state.State.{State}
use Rattle.system_dies.specs.Coming.{flush_in_event}
use Rattle.system_metas.specs.Coming.{meta_in_event}
use Rattle.desk_turns.specs.Passing.{Turn}
use Rattle.desk_turns.proofs.Went.{says_too}
use Rattle.quick_calls.specs.Flushing.{IsInHand, HasFailed}
use Rattle.sync_calls.specs.Writes.{BlockBack, PageBack}

module _ {D J : Type 0} (seen : D → DieView) where
  pub block_back : (o : Snapshot (State D J)) (v w : View (Snapshot (State D J)) Event) (lane : ℕ) (page : Page) (good : Bool) (e f : Errand D) → IsSameErrand e f → HasWritten seen f good page →
      Turn (core_of seen) o v w (λ c es. es ≡ flush_in_event seen (Lane lane) f ∷ []) → Turn (core_of seen) o v w (BlockBack lane e good)
  block_back o v w lane page good e f s w' t =
      let left = left_by seen f in
      says_too (core_of seen) o v w (λ c es. es ≡ flush_in_event seen (Lane lane) f ∷ []) (BlockBack lane e good)
      (λ c es is. (left, is ∙ (λ i. FlushIn (Lane lane) (s.number i) (ap succeeded w'.used i) left ∷ []))) t

  pub page_back : (o : Snapshot (State D J)) (v w : View (Snapshot (State D J)) Event) (lane : ℕ) (page : Page) (good : Bool) (e f : Errand D) → IsSameErrand e f → HasWritten seen f good page →
      Turn (core_of seen) o v w (λ c es. es ≡ meta_in_event seen (Lane lane) f ∷ []) → Turn (core_of seen) o v w (PageBack lane e good)
  page_back o v w lane page good e f s w' t =
      let left = left_by seen f in
      says_too (core_of seen) o v w (λ c es. es ≡ meta_in_event seen (Lane lane) f ∷ []) (PageBack lane e good)
      (λ c es is. (left, is ∙ (λ i. MetaIn (Lane lane) (s.number i) (ap succeeded w'.used i) left ∷ []))) t

  -- the count of a die rose that failed to write
  pub rose_by : (o : Snapshot (State D J)) (v w : View (Snapshot (State D J)) Event) (a : Actor) (purpose : Purpose) (at : ℕ) (page : Page) (good : Bool) (e f : Errand D) → IsInHand seen o v.seen a purpose at e → IsSameErrand e f → HasWritten seen f good page → StartsWith w.seen v.seen → good ≡ false →
      HasFailed seen o v w e.number
  rose_by o v w a purpose at page good e f p s w' starts bad =
      record {
        h = v.seen;
        since = ([], sym (append-nil v.seen));
        until = starts;
        left = seen e.left.value;
        now = seen f.die;
        stood = p.stood;
        rose = subst (λ (z : Snapshot D). (seen z.value).faults < (seen f.die).faults) s.left (w'.wrote.counts.failed bad);
      }
