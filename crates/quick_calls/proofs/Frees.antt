-- What one event that ends a call leaves, and that nobody is in the way of a call that is alone.
use Rattle.std.proofs.Common.{◌≡◌, ℕ, ◌<◌, ◌≤◌, Bool, true, false, List, [], ◌∷◌, Option, Some, None, refl, sym, ap, ◌∙◌, subst, ⊎_elim, arith}
use Rattle.std.specs.Prelude.{nat_lt, IfSome, if◌then◌else◌, option_map}
use Rattle.std.proofs.lemmas.Bool.Decides.{nat_tests}
use Rattle.plain_files.specs.declared.calls.Call.{Call}
use Rattle.plain_files.specs.declared.calls.Call.TheVariants.{Create, OpenFile, Stat, Remove, Read, Write, Append, Trunc, Seal, Load, Unload, Readl, Writel, Sync}
use Rattle.plain_files.specs.declared.calls.Reply.{Reply}
use Rattle.plain_files.specs.declared.calls.Request.{Request}
use Rattle.plain_files.specs.Plain.{State, early, answer}
use Rattle.index_lists.specs.Words.{put}
use Rattle.index_lists.proofs.Puts.{put-same}
use Rattle.core_state.specs.declared.actor.Actor.TheVariants.{Lane}
use Rattle.core_state.specs.declared.event.Event.{Event}
use Rattle.core_state.specs.declared.event.Event.TheVariants.{Quick, Skip}
use Rattle.core_state.specs.Words.{first_to}
use Rattle.core_state.specs.State.{Page, Shape, LaneState, Inside, File, Flight, DieState, Core}
use Rattle.core_state.specs.Reach.{file_for}
use Rattle.core_state.specs.PlainOf.{plain}
use Rattle.core_state.specs.InFlight.{claims, claim_of}
use Rattle.core_state.specs.LaneEvents.{IsIdle, replied, is_unsealed}
use Rattle.core_state.specs.Resizing.{follows}
use Rattle.core_state.specs.Happens.{HoldsNone, CoreRun, after}
use Rattle.core_solo.specs.Solo.{SoloCall}
use Rattle.core_solo.proofs.Words.{none_or_some, first_found}
use Rattle.core_solo.proofs.Nexts.{quick_next}
use Rattle.system_state.specs.declared.not_yet.NotYet.{NotYet}
use Rattle.system_state.specs.declared.not_yet.NotYet.TheVariants.{Awaited, Conflict, FnInUse}
use Rattle.system_lanes.specs.Waiting.{awaited_still}
use Rattle.call_turns.specs.QuickWaits.{holds, uses, conflict_on, use_of, in_the_way, waits_by, quick_waits}
use Rattle.call_turns.specs.Making.{IsFree}

-- ---- after the event

-- all but the row of a lane
pub record KeepsFlights (c d : Core) : Type 0 where
  pub shape : d.shape ≡ c.shape
  pub calls : d.calls ≡ c.calls
  pub dies : d.dies ≡ c.dies
  pub lanes : d.lanes ≡ c.lanes

pub follows_keeps : (c : Core) (o : Option File) (s : State) → KeepsFlights c (follows c o s)
follows_keeps c None s = record { shape = refl; calls = refl; dies = refl; lanes = refl }
follows_keeps c (Some f) s = record { shape = refl; calls = refl; dies = refl; lanes = refl }

-- a lane that has its reply
pub free_replied : (c d : Core) (lane : ℕ) → d.shape ≡ c.shape → d.calls lane ≡ None → d.dies ≡ c.dies → d.lanes ≡ put c.lanes lane (replied (c.lanes lane)) → lane < c.shape.lanes → (c.lanes lane).stage ≡ Inside → HoldsNone c (Lane lane) → IsFree d lane
free_replied c d lane shape calls dies lanes within inside none =
    let row : d.lanes lane ≡ replied (c.lanes lane) = ap (λ (f : ℕ → LaneState). f lane) lanes ∙ put-same c.lanes lane (replied (c.lanes lane)) in
    record {
      idle = record {
        within = subst (λ (z : Shape). lane < z.lanes) (sym shape) within;
        inside = ap (λ (x : LaneState). x.stage) row ∙ inside;
        idle = calls;
      };
      mark = ap (λ (x : LaneState). x.mark) row;
      none = λ die out e. none die out (ap (λ (f : ℕ → DieState). (f die).out) (sym dies) ∙ e);
    }

pub free_quick : (lane : ℕ) (request : Request) (reply : Reply) (c : Core) → IsIdle c lane → HoldsNone c (Lane lane) → IsFree (after c (Quick lane request reply)) lane
free_quick lane request reply c idle none =
    let k = follows_keeps c (file_for c.names.files request.call) (answer (plain c) request.call).state in
    free_replied c (after c (Quick lane request reply)) lane k.shape (ap (λ (f : ℕ → Option Flight). f lane) k.calls ∙ idle.idle) k.dies refl idle.within idle.inside none

pub free_skip : (lane : ℕ) (request : Request) (fault : Bool) (c : Core) → IsIdle c lane → HoldsNone c (Lane lane) → IsFree (after c (Skip lane request fault)) lane
free_skip lane request fault c idle none = free_replied c (after c (Skip lane request fault)) lane refl idle.idle refl refl idle.within idle.inside none

-- ---- the run of one thread

pub quick_solo : (encode : Core → ℕ → Page) (c d : Core) (lane : ℕ) (request : Request) (reply : Reply) (es : List Event) → es ≡ Quick lane request reply ∷ [] → CoreRun c es d → SoloCall encode c lane request es
quick_solo encode c d lane request reply es are run =
    record {
      most = [];
      last = Quick lane request reply;
      whole = are;
      steps = tt;
      next = quick_next encode c lane request reply (subst (λ (xs : List Event). CoreRun c xs d) are run).0.may;
      answers = refl;
    }

-- ---- nobody is in the way

pub awaited_none : (lanes : ℕ → LaneState) (o : Option (ℕ × ℕ)) → IfSome o (λ a. a.1 ≤ (lanes a.0).ended) → awaited_still lanes o ≡ None
awaited_none lanes None h = refl
awaited_none lanes (Some a) h =
    let t : nat_lt (lanes a.0).ended a.1 ≡ false = grind (arith, nat_tests) in
    ap (λ (b : Bool). if b then Some (Awaited a.0 (lanes a.0).ended) else None) t

pub first_of_none : (n : ℕ) (test : ℕ → Bool) → ((i : ℕ) → test i ≡ false) → first_to n test ≡ None
first_of_none n test all = ⊎_elim (λ e. e) (λ x. let y = (first_found n test x.0 x.1).1 in let z = all x.0 in absurd (cc)) (none_or_some (first_to n test))

no_claim : (c : Core) → ((l : ℕ) → c.calls l ≡ None) → (l : ℕ) → claims c.calls l ≡ None
no_claim c still l = ap claim_of (still l)

no_conflict : (c : Core) (o : Option File) → ((l : ℕ) → c.calls l ≡ None) → conflict_on c o ≡ None
no_conflict c None still = refl
no_conflict c (Some f) still =
    ap (λ (x : Option ℕ). option_map (λ l. Conflict l) x) (first_of_none c.shape.lanes (λ l. holds f.id (claims c.calls l)) (λ l. ap (holds f.id) (no_claim c still l)))

no_use : (c : Core) (name : List ℕ) → ((l : ℕ) → c.calls l ≡ None) → use_of c name ≡ None
no_use c name still =
    ap (λ (x : Option ℕ). option_map (λ l. FnInUse l) x) (first_of_none c.shape.lanes (λ l. uses name (claims c.calls l)) (λ l. ap (uses name) (no_claim c still l)))

none_either : (t : Bool) (o : Option NotYet) → o ≡ None → (if t then o else None) ≡ None
none_either true o e = e
none_either false o e = refl

none_in_the_way : (c : Core) (call : Call) → ((l : ℕ) → c.calls l ≡ None) → in_the_way c call ≡ None
none_in_the_way c (Remove name) still = no_conflict c (file_for c.names.files (Remove name)) still
none_in_the_way c (Seal name) still =
    none_either (is_unsealed (file_for c.names.files (Seal name))) (conflict_on c (file_for c.names.files (Seal name))) (no_conflict c (file_for c.names.files (Seal name)) still)
none_in_the_way c (Unload name) still = no_use c name still
none_in_the_way c (Create name) still = refl
none_in_the_way c (OpenFile name) still = refl
none_in_the_way c (Stat name) still = refl
none_in_the_way c (Read name off n) still = refl
none_in_the_way c (Write name off bytes) still = refl
none_in_the_way c (Append name bytes) still = refl
none_in_the_way c (Trunc name n) still = refl
none_in_the_way c (Load name bytes) still = refl
none_in_the_way c (Readl file off n function fuel cap param) still = refl
none_in_the_way c (Writel file off n function fuel param input) still = refl
none_in_the_way c Sync still = refl

waits_not : (a : Option NotYet) (r : Option Reply) (w : Option NotYet) → a ≡ None → w ≡ None → waits_by a r w ≡ None
waits_not (Some y) r w a_is w_is = absurd (cc)
waits_not None (Some reply) w a_is w_is = refl
waits_not None None w a_is w_is = w_is

pub quick_unblocked : (c : Core) (request : Request) → IfSome request.awaits (λ a. a.1 ≤ (c.lanes a.0).ended) → ((l : ℕ) → c.calls l ≡ None) → quick_waits c request ≡ None
quick_unblocked c request awaited still =
    waits_not (awaited_still c.lanes request.awaits) (early (plain c) request.call) (in_the_way c request.call) (awaited_none c.lanes request.awaits awaited) (none_in_the_way c request.call still)
