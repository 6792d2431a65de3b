-- A die comes home from the read of a page.
use Rattle.std.proofs.Common.{◌≡◌, ℕ, ◌<◌, Bool, false, List, [], ◌∷◌, ◌++◌, Some, sym, ap, ◌∙◌, subst, append-nil}
use Rattle.std.specs.declared.snapshot.Snapshot.{Snapshot}
use Rattle.turn_cell.specs.declared.book.Entry.{Entry}
use Rattle.turn_cell.specs.declared.view.View.{View}
use Rattle.turn_cell.specs.History.{StartsWith}
use Rattle.flash_die.specs.Dies.{DieView}
use Rattle.core_state.specs.declared.actor.Actor.{Actor}
use Rattle.core_state.specs.declared.event.Event.{Event}
use Rattle.core_state.specs.declared.event.Event.TheVariants.{FillIn}
use Rattle.core_state.specs.State.{Page, ToFill, Core}
use Rattle.core_state.specs.DieEvents.{flash_at}
use Rattle.system_state.specs.Jobs.{JobView}
use Rattle.system_state.specs.Cores.{core_of}
use Rattle.system_state.specs.Errands.{succeeded, HasRead, IsSameErrand}
use Rattle.system_state.specs.Stands.{Stands}
use Rattle.system_state.specs.declared.errand.Errand.{Errand}
use Rattle.system_state.specs.declared.state.State.{State}
use Rattle.system_pages.specs.Back.{FillBack, fill_in_event}
use Rattle.system_pages.proofs.Filled.{page_is}
use Rattle.desk_turns.specs.Passing.{Turn}
use Rattle.desk_turns.proofs.Went.{says_too}
use Rattle.event_turns.specs.Flushing.{HasFailed}
use Rattle.event_turns.specs.PageTurns.{FillSays, IsFillInHand}
use Rattle.fill_steps.specs.Pages.{ComesHome, IsRead}

module _ {D J : Type 0} (seen : D → DieView) (suits : J → JobView → Type 0) where
  pub comes_home : (s : State D J) (o : Snapshot (State D J)) (h : List (Entry Event)) (a : Actor) (lane i : ℕ) (e : Errand D) (before page : Page) → Stands seen suits s o.value h → FillBack seen s a lane i e before →
      FillSays a lane e before page (core_of seen s) (fill_in_event a e ∷ []) → ComesHome a lane i e before page (core_of seen s) (fill_in_event a e ∷ [])
  comes_home s o h a lane i e before page known back says =
      record { fill = says; out = back.out; block = back.block; read = page_is seen suits s a lane i e before (record { o = o.value; h = h; stands = known }) back }

module _ {D : Type 0} (seen : D → DieView) where
  is_read : (a : Actor) (lane i : ℕ) (first before page : Page) (good : Bool) (e f : Errand D) → IsSameErrand e f → HasRead seen f good first before → (c : Core) (es : List Event) → ComesHome a lane i f before page c es → IsRead a lane i e.number page good c es
  is_read a lane i first before page good e f same read c es p =
      let is : succeeded f.outcome ≡ good = ap succeeded read.used in
      record {
        are = p.fill.are ∙ (λ k. FillIn a (same.number k) (is k) ∷ []);
        out = subst (λ (n : ℕ). (c.dies n).out ≡ Some (record { holder = a; errand = ToFill lane i })) same.number p.out;
        lent = λ ok mode. p.fill.lent mode ∙ (p.read (is ∙ ok) ∙ sym (ap (flash_at c.blocks) p.block));
      }

module _ {D J : Type 0} (seen : D → DieView) where
  abbrev C : State D J → Core
  C = core_of seen

  pub read_back : (o : Snapshot (State D J)) (v w : View (Snapshot (State D J)) Event) (a : Actor) (lane i : ℕ) (first before page : Page) (good : Bool) (e f : Errand D) → IsSameErrand e f → HasRead seen f good first before → Turn C o v w (ComesHome a lane i f before page) →
      Turn C o v w (IsRead a lane i e.number page good)
  read_back o v w a lane i first before page good e f same read t =
      says_too C o v w (ComesHome a lane i f before page) (IsRead a lane i e.number page good) (is_read seen a lane i first before page good e f same read) t

  -- the count of a die rose that failed to read
  pub rose_by : (o : Snapshot (State D J)) (v w : View (Snapshot (State D J)) Event) (a : Actor) (lane i : ℕ) (before page : Page) (good : Bool) (e f : Errand D) → IsFillInHand seen o v.seen a lane i e → IsSameErrand e f → HasRead seen f good before page → StartsWith w.seen v.seen → good ≡ false → HasFailed seen o v w e.number
  rose_by o v w a lane i before page good e f p same read starts bad =
      record {
        h = v.seen;
        since = ([], sym (append-nil v.seen));
        until = starts;
        left = seen e.left.value;
        now = seen f.die;
        stood = p.hand.stood;
        rose = subst (λ (z : Snapshot D). (seen z.value).faults < (seen f.die).faults) same.left (read.read.counts.failed bad);
      }
