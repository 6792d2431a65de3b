-- What callers know before the pages of a call are gathered, and after.
use Rattle.std.proofs.Common.{◌≡◌, ℕ, ◌<◌, Bool, true, false, List, ◌++◌, Option, Some, None, refl, sym, ap, ◌∙◌, subst, ⊎_elim, append_assoc, arith}
use Rattle.std.specs.Prelude.{◌&&◌, is_some, is_none}
use Rattle.std.specs.declared.snapshot.Snapshot.{Snapshot}
use Rattle.turn_cell.specs.declared.book.Entry.{Entry}
use Rattle.turn_cell.specs.declared.view.View.{View}
use Rattle.turn_cell.specs.History.{StartsWith}
use Rattle.flash_die.specs.Dies.{DieView}
use Rattle.core_state.specs.declared.event.Event.{Event}
use Rattle.core_state.specs.declared.actor.Actor.{Actor}
use Rattle.core_state.specs.declared.actor.Actor.TheVariants.{Worker}
use Rattle.core_state.specs.State.{Page, Phase, Held, Queued, Running, Reported, Flight, Core}
use Rattle.core_state.specs.Reach.{gathers}
use Rattle.core_state.specs.Dies.{owner}
use Rattle.core_state.specs.LaneEvents.{HasGathered, MayReport}
use Rattle.core_state.specs.Happens.{HoldsNone}
use Rattle.core_solo.specs.Solo.{page_to_gather}
use Rattle.core_solo.proofs.Words.{none_or_some, first_found}
use Rattle.system_state.specs.Jobs.{view_of}
use Rattle.system_state.specs.Cores.{core_of}
use Rattle.system_state.specs.declared.state.State.{State}
use Rattle.call_job.specs.Suits.{Suits}
use Rattle.call_job.specs.declared.job.Job.{Job}
use Rattle.desk_turns.specs.Passing.{FoundAt}
use Rattle.event_turns.specs.Flushing.{HasFailed}
use Rattle.event_turns.proofs.Keeping.{at_flight}
use Rattle.fill_steps.specs.Gathering.{call_at, IsBetween, IsGathering, HasSpan}

-- a call of which nothing is gathered yet
pub begins_gathering : (c : Core) (a : Actor) (lane : ℕ) (f : Flight) (job : Job) → c.calls lane ≡ Some f → owner lane f.phase ≡ Some a → (c.lanes lane).mark ≡ false → HoldsNone c a → ((j : ℕ) → j < f.claim.reach.pages → f.gathered j ≡ None) → Suits job (view_of c.names f) → job.ran ≡ None → IsGathering c a lane 0 job
begins_gathering c a lane f job flies owns unmarked none empty suits fresh =
    let at = sym (at_flight c.calls lane f flies) in
    record {
      between = record { owned = record { flies = flies ∙ ap (λ (g : Flight). Some g) at; owns = subst (λ (g : Flight). owner lane g.phase ≡ Some a) at owns; mark = unmarked }; none = none };
      to = record {
        below = λ j l m w. absurd (omega arith);
        above = λ j l m. subst (λ (g : Flight). g.gathered j ≡ None) at (empty j (subst (λ (g : Flight). j < g.claim.reach.pages) (sym at) m));
      };
      suits = subst (λ (g : Flight). Suits job (view_of c.names g)) at suits;
      fresh = fresh;
    }

-- what is there then, of the call itself
pub span_there : (c : Core) (a : Actor) (lane : ℕ) (f : Flight) (job : Job) → c.calls lane ≡ Some f → HasSpan c a lane job → HasGathered f × Suits job (view_of c.names f)
span_there c a lane f job flies p =
    let at = at_flight c.calls lane f flies in
    (subst HasGathered at p.all, subst (λ (g : Flight). Suits job (view_of c.names g)) at p.suits)

runs_with : (w lane : ℕ) (p : Phase) → owner lane p ≡ Some (Worker w) → p ≡ Running w
runs_with w lane Held e = absurd (cc)
runs_with w lane Queued e = absurd (cc)
runs_with w lane (Running x) e = let z : Some (Worker x) ≡ Some (Worker w) = e in let y : x ≡ w = cc in ap (λ (k : ℕ). Running k) y
runs_with w lane (Reported result) e = absurd (cc)

-- the worker may report the call, with its pages or with a mark
pub span_reports : (c : Core) (w lane : ℕ) (job : Job) → HasSpan c (Worker w) lane job → MayReport c w lane
span_reports c w lane job p =
    let o = p.between.owned in
    record { call = call_at c lane; flies = o.flies; runs = runs_with w lane (call_at c lane).phase o.owns; all = λ unmarked. p.all }

pub mark_reports : (c : Core) (w lane : ℕ) → IsBetween true c (Worker w) lane → MayReport c w lane
mark_reports c w lane p =
    let o = p.owned in
    record { call = call_at c lane; flies = o.flies; runs = runs_with w lane (call_at c lane).phase o.owns; all = λ unmarked. let m = o.mark in absurd (cc) }

-- no page is left then
pub none_left : (x : Flight) → HasGathered x → page_to_gather x ≡ None
none_left x all =
    ⊎_elim (λ e. e)
    (λ (s : (i : ℕ) × (page_to_gather x ≡ Some i)).
    let k = first_found x.claim.reach.pages (λ i. gathers x.claim.request.call x.claim.reach i && is_none (x.gathered i)) s.0 s.1 in
    absurd (no (gathers x.claim.request.call x.claim.reach s.0) (x.gathered s.0) (all s.0 k.0) k.1))
    (none_or_some (page_to_gather x))
  where
    no : (t : Bool) (o : Option Page) → (t ≡ true → is_some o ≡ true) → (t && is_none o) ≡ true → ⊥
    no false o k e = absurd (cc)
    no true None k e = let z = k refl in absurd (cc)
    no true (Some p) k e = absurd (cc)

-- ---- what was seen, from an earlier view and to a later one

pub starts_on : (xs ys zs : List (Entry Event)) → StartsWith ys xs → StartsWith zs ys → StartsWith zs xs
starts_on xs ys zs p q = (p.0 ++ q.0, q.1 ∙ (ap (λ z. z ++ q.0) p.1 ∙ append_assoc xs p.0 q.0))

module _ {D J : Type 0} (seen : D → DieView) where
  abbrev C : State D J → Core
  C = core_of seen

  pub failed_still : (o : Snapshot (State D J)) (v u w : View (Snapshot (State D J)) Event) (die : ℕ) → StartsWith w.seen u.seen → HasFailed seen o v u die → HasFailed seen o v w die
  failed_still o v u w die starts f = record { h = f.h; since = f.since; until = starts_on f.h u.seen w.seen f.until starts; left = f.left; now = f.now; stood = f.stood; rose = f.rose }

  pub found_since : (o : Snapshot (State D J)) (v u w : View (Snapshot (State D J)) Event) (e : Event) (P : Core → Type 0) → StartsWith u.seen v.seen → FoundAt C o u w e P → FoundAt C o v w e P
  found_since o v u w e P starts f = record { before = f.before; rest = f.rest; since = starts_on v.seen u.seen f.before starts f.since; seen = f.seen; says = f.says }
