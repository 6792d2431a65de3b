-- The pages of a call are gathered, its function has run over them, and it ends at the host.
use Rattle.std.proofs.Common.{◌≡◌, ℕ, Bool, true, false, List, Some, None, refl, sym, ap, ◌∙◌, subst}
use Rattle.std.specs.Prelude.{not, Result, Ok, Err}
use Rattle.std.specs.declared.snapshot.Snapshot.{Snapshot}
use Rattle.turn_cell.specs.declared.view.View.{View}
use Rattle.turn_cell.specs.declared.pass.Worn.{Worn}
use Rattle.flash_die.specs.Dies.{DieView}
use Rattle.dispatcher.specs.declared.side.Side.TheVariants.{Host}
use Rattle.plain_files.specs.declared.calls.Call.{Call}
use Rattle.plain_files.specs.declared.calls.Call.TheVariants.{Readl, Writel}
use Rattle.plain_files.specs.declared.calls.Numbered.{Numbered}
use Rattle.plain_files.specs.declared.calls.Request.{Request}
use Rattle.core_state.specs.declared.actor.Actor.TheVariants.{Lane}
use Rattle.core_state.specs.declared.event.Event.{Event}
use Rattle.core_state.specs.State.{Phase, Held, Core}
use Rattle.core_state.specs.Reach.{is_data, is_lambda}
use Rattle.core_outcomes.specs.Known.{run_on}
use Rattle.span_bytes.specs.Spans.{page_in}
use Rattle.system_state.specs.Cores.{core_of}
use Rattle.system_state.specs.declared.state.State.{State}
use Rattle.desk_turns.specs.Making.{AreOf}
use Rattle.desk_turns.specs.Passing.{core_seen, Does}
use Rattle.call_job.specs.Suits.{given, IsReady, HasResult, Suits, SameButRun}
use Rattle.call_job.specs.declared.job.Job.{Job}
use Rattle.call_job.proofs.Ended.{executed_run}
use Rattle.call_job.proofs.Kept.{suits_run}
use Rattle.call_finishes.specs.Gathering.{call_at, told_at}
use Rattle.call_finishes.specs.Spans.{IsSameButPages, SpanSays}
use Rattle.call_finishes.specs.Finishing.{FinishSays}
use Rattle.call_finishes.proofs.Ending.{IsAtHost, Filled, filled_from}
use Rattle.lambda_finishes.specs.Finishing.{IsBegunAt, LambdaSays}

pub lambda_data : (k : Call) → is_lambda k ≡ true → is_data k ≡ true
lambda_data (Readl file off n function fuel cap param) e = refl
lambda_data (Writel file off n function fuel param input) e = refl
lambda_data k e = absurd (cc)

held_result : (job : Job) (p : Phase) → p ≡ Held → HasResult job p
held_result job p e = subst (HasResult job) (sym e) tt

-- the job that gathered is for the same request, and its function hasn't run
pub same_request : (old mid : Job) → IsSameButPages old mid → mid.request ≡ old.request
same_request old mid same = ap (λ (j : Job). j.request) same

pub fresh_still : (old mid : Job) → IsSameButPages old mid → old.ran ≡ None → mid.ran ≡ None
fresh_still old mid same fresh = ap (λ (j : Job). j.ran) same ∙ fresh

pub runs_still : (c : Core) (lane : ℕ) (old mid : Job) → IsBegunAt Host c lane old → IsSameButPages old mid → is_lambda mid.request.call ≡ true
runs_still c lane old mid b same = ap (λ (r : Request). is_lambda r.call) (same_request old mid same ∙ b.gathering.suits.request) ∙ b.runs

at_host : (c : Core) (lane : ℕ) (old mid new : Job) → IsBegunAt Host c lane old → IsSameButPages old mid → SameButRun mid new → IsAtHost c lane new
at_host c lane old mid new b same run =
    record {
      mark = b.gathering.between.owned.mark;
      held = b.held;
      host = b.side_is;
      is_on_file = lambda_data (call_at c lane).claim.request.call b.runs;
      request = run.request ∙ (same_request old mid same ∙ b.gathering.suits.request);
    }

pub begun_host : (c : Core) (lane : ℕ) (job : Job) → IsBegunAt Host c lane job → IsAtHost c lane job
begun_host c lane job b =
    record { mark = b.gathering.between.owned.mark; held = b.held; host = b.side_is; is_on_file = lambda_data (call_at c lane).claim.request.call b.runs; request = b.gathering.suits.request }

pub run_request : (old mid new : Job) → IsSameButPages old mid → SameButRun mid new → new.request ≡ old.request
run_request old mid new same run = run.request ∙ same_request old mid same

module _ {D : Type 0} (seen : D → DieView) where
  abbrev C : State D Job → Core
  C = core_of seen

  abbrev S : Type 0
  S = Snapshot (State D Job)

  abbrev V : Type 0
  V = View (Snapshot (State D Job)) Event

  pub ready_there : (o : S) (v u : V) (lane : ℕ) (mid : Job) (good : Bool) → (good ≡ false → Suits mid (told_at (core_seen C o u) lane)) → Does v u (SpanSays seen o v u (Lane lane) lane mid (Ok good)) → IsReady mid
  ready_there o v u lane mid true left p = p.says.says.suits.ready
  ready_there o v u lane mid false left p = (left refl).ready

  filled_run : (o : S) (v u : V) (lane : ℕ) (old mid new : Job) (good : Bool) (es : List Event) → IsBegunAt Host (core_seen C o v) lane old → IsSameButPages old mid → (good ≡ false → Suits mid (told_at (core_seen C o u) lane)) → SameButRun mid new → IsReady new →
      (good ≡ true → given new ≡ Some (run_on mid.request.call mid.code.insns mid.readable (page_in mid.pages.items))) → SpanSays seen o v u (Lane lane) lane mid (Ok good) es → Filled seen o v u lane (not good) new es
  filled_run o v u lane old mid new true es b same left run ready ran g =
      let d = core_seen C o u in
      filled_from seen o v u lane new _ false es (at_host (core_seen C o v) lane old mid new b same run) g g.says.between (λ e. g.says.all)
      (suits_run mid new d.names (call_at d lane) run ready (held_result new (call_at d lane).phase (g.call.phase ∙ b.held)) g.says.suits)
      (λ h f. executed_run d lane (call_at d lane) mid new h g.says.between.owned.flies g.says.all g.says.suits (ran refl)) (λ e. absurd (cc))
  filled_run o v u lane old mid new false es b same left run ready ran g =
      let d = core_seen C o u in
      filled_from seen o v u lane new _ true es (at_host (core_seen C o v) lane old mid new b same run) g.0 g.0.says (λ e. absurd (cc))
      (suits_run mid new d.names (call_at d lane) run ready (held_result new (call_at d lane).phase (g.0.call.phase ∙ b.held)) (left refl)) (λ h f. absurd (cc)) (λ e. g.1)

  pub does_run : (o : S) (v u : V) (lane : ℕ) (old mid new : Job) (good : Bool) → IsBegunAt Host (core_seen C o v) lane old → IsSameButPages old mid → (good ≡ false → Suits mid (told_at (core_seen C o u) lane)) → SameButRun mid new → IsReady new →
      (good ≡ true → given new ≡ Some (run_on mid.request.call mid.code.insns mid.readable (page_in mid.pages.items))) → Does v u (SpanSays seen o v u (Lane lane) lane mid (Ok good)) → Does v u (Filled seen o v u lane (not good) new)
  does_run o v u lane old mid new good b same left run ready ran p =
      record { events = p.events; went = p.went; says = filled_run o v u lane old mid new good p.events b same left run ready ran p.says }

  pub host_says : (o : S) (v w : V) (lane : ℕ) (request : Request) (r : Result Numbered Worn) → Does v w (FinishSays seen o v w lane request r) → Does v w (LambdaSays seen (AreOf (Lane lane)) o v w lane request r)
  host_says o v w lane request (Ok n) p =
      let k = p.says in
      record {
        events = p.events;
        went = p.went;
        says = (
          k.of,
          record { before = k.before; are = k.are; open_still = k.open_still; failed = k.failed; rose = k.rose; found = k.found; after = k.after; coherent = k.coherent; run = k.run; solo = k.solo },
        );
      }
  host_says o v w lane request (Err x) p = record { events = p.events; went = p.went; says = p.says }
