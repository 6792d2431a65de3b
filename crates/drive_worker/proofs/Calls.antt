-- A call from its Fetch to its Report, over the core alone.
use Rattle.std.proofs.Common.{◌≡◌, ℕ, ◌<◌, Bool, true, false, List, [], ◌∷◌, Some, None, refl, sym, ap, ◌∙◌, subst, inl, inr, ⊎_elim, arith}
use Rattle.std.specs.Prelude.{◌≢◌, not, if◌then◌else◌}
use Rattle.index_lists.specs.Words.{first, count}
use Rattle.index_lists.proofs.Counts.{count-here, same_or_not}
use Rattle.index_lists.proofs.Puts.{put-same, put-other}
use Rattle.dispatcher.specs.declared.side.Side.{Side}
use Rattle.dispatcher.specs.declared.side.Side.TheVariants.{Host, Drive}
use Rattle.plain_files.specs.declared.calls.Request.{Request}
use Rattle.sbpf_insn.specs.Machine.{Outcome}
use Rattle.core_state.specs.declared.actor.Actor.TheVariants.{Worker}
use Rattle.core_state.specs.declared.event.Event.{Event}
use Rattle.core_state.specs.declared.event.Event.TheVariants.{Fetch, Report}
use Rattle.core_state.specs.Words.{any_to}
use Rattle.core_state.specs.State.{Page, Stage, Outside, Inside, Gone, Claim, Phase, Queued, Running, Reported, Flight, Core}
use Rattle.core_state.specs.InFlight.{claim_of}
use Rattle.core_state.specs.Frames.{is_queued}
use Rattle.core_state.specs.PlainOf.{plain, outcome_of}
use Rattle.core_state.specs.Reach.{is_lambda}
use Rattle.core_state.specs.PageEvents.{flight_at}
use Rattle.core_state.specs.LaneEvents.{HasGathered, MayFetch, fetched, reported, result_of}
use Rattle.core_state.specs.Coherent.{Coherent}
use Rattle.core_state.specs.Happens.{HoldsNone, IsClosing, CoreRun, after}
use Rattle.core_solo.specs.Solo.{IsStep, IsNext, page_to_gather}
use Rattle.core_solo.specs.Left.{GathersNone}
use Rattle.core_solo.proofs.Nexts.{fetch_next, report_next}
use Rattle.core_lanes.proofs.Phases.{InQueue, queued_call_of, true_of}
use Rattle.core_pages.proofs.Idle.{any_none}
use Rattle.system_state.specs.Jobs.{JobView, view_of}
use Rattle.system_lanes.specs.Leaving.{is_gone, have_left}
use Rattle.system_lanes.specs.Phases.{flight_in}
use Rattle.call_job.specs.Suits.{HasResult, Suits, given}
use Rattle.call_job.specs.Views.{TellsSame}
use Rattle.call_job.specs.declared.job.Job.{Job}
use Rattle.call_job.proofs.Kept.{suits_kept, suits_in_phase, suits_run}
use Rattle.call_job.proofs.Ended.{executed_run}
use Rattle.fill_steps.specs.JobTurns.{IsToldSame, SuitsInSpan}
use Rattle.fill_steps.specs.Gathering.{call_at, told_at, IsOwned, IsBetween, HasSpan, IsSameCall}
use Rattle.fill_steps.specs.Cut.{IsCutOff}
use Rattle.fill_steps.proofs.Keeping.{at_flight, closes}
use Rattle.fill_steps.proofs.Callers.{begins_gathering, none_left}
use Rattle.drive_worker.specs.Running.{MayRun, RanOnPages}
use Rattle.drive_worker.specs.Serving.{IsFreeWorker, IsWith, ReportsIn, IsReported}

-- ---- what is fetched

-- the first call of the queue is queued
front_queued : (c : Core) (worker lane : ℕ) → Coherent c → MayFetch c worker lane → InQueue (c.calls lane)
front_queued c worker lane h may = queued_call_of (c.calls lane) (true_of (is_queued (c.calls lane)) (count lane may.rest) (sym (count-here lane may.rest) ∙ (ap (count lane) (sym may.first) ∙ h.orders.queued.lists lane)))

is_drive : (s : Side) → (s ≡ Host → ⊥) → s ≡ Drive
is_drive Host differs = absurd (differs refl)
is_drive Drive differs = refl

-- and so it has a function
front_lambda : (c : Core) (lane : ℕ) → Coherent c → (q : InQueue (c.calls lane)) → is_lambda q.call.claim.request.call ≡ true
front_lambda c lane h q =
    (h.in_flight.right lane q.call.claim (ap claim_of q.flies)).drive
    (is_drive q.call.claim.side (λ s. let k = h.in_flight.host lane q.call q.flies s in let p = q.phase in absurd (cc)))

pub fetch_begins : (c : Core) (worker lane : ℕ) (job : Job) → Coherent c → HoldsNone c (Worker worker) → MayFetch c worker lane → Suits job (view_of c.names (flight_at c.calls lane)) → IsWith (after c (Fetch worker lane)) worker lane job
fetch_begins c worker lane job h none may suits =
    let q = front_queued c worker lane h may in
    let f : Flight = flight_at c.calls lane in
    let at : f ≡ q.call = at_flight c.calls lane q.call q.flies in
    let g : Flight = record f { phase = Running worker } in
    let d = fetched c worker lane in
    let flies : d.calls lane ≡ Some g = put-same c.calls lane (Some g) in
    let here : call_at d lane ≡ g = at_flight d.calls lane g flies in
    let phase : f.phase ≡ Queued = ap (λ (x : Flight). x.phase) at ∙ q.phase in
    record {
      gathering = begins_gathering d (Worker worker) lane g job flies refl (h.orders.queued.unmarked lane q.call q.flies q.phase) none
          (λ j l. ap (λ (x : Flight). x.gathered j) at ∙ h.orders.queued.empty lane q.call q.flies q.phase j (subst (λ (x : Flight). j < x.claim.reach.pages) at l))
          (suits_in_phase job c.names f (Running worker) tt suits) (subst (HasResult job) phase suits.result);
      runs = ap (λ (x : Flight). x.phase) here;
      lambda = ap (λ (x : Flight). is_lambda x.claim.request.call) (here ∙ ap (λ (x : Flight). record x { phase = Running worker }) at) ∙ front_lambda c lane h q;
    }

-- it is the same call
pub fetch_claim : (c : Core) (worker lane : ℕ) → (call_at (after c (Fetch worker lane)) lane).claim ≡ (call_at c lane).claim
fetch_claim c worker lane =
    let g : Flight = record (flight_at c.calls lane) { phase = Running worker } in
    ap (λ (x : Flight). x.claim) (at_flight (fetched c worker lane).calls lane g (put-same c.calls lane (Some g)))

-- the Fetch by worker 0 is its next event in the run of one thread
pub fetch_step : (encode : Core → ℕ → Page) (c : Core) (worker lane : ℕ) (request : Request) → Coherent c → MayFetch c worker lane → worker ≡ 0 → IsStep encode lane request c (Fetch worker lane)
fetch_step encode c worker lane request h may zero =
    let q = front_queued c worker lane h may in
    record { next = subst (λ (w : ℕ). IsNext encode lane request c (Fetch w lane)) (sym zero) (fetch_next encode c lane request q.call q.flies q.phase); open_still = refl }

-- what comes after it is cut short
pub cut_on : (encode : Core → ℕ → Page) (c d : Core) (worker lane : ℕ) (es : List Event) → Coherent c → worker ≡ 0 → CoreRun c (Fetch worker lane ∷ []) d → IsCutOff encode d lane (call_at d lane).claim.request es → IsCutOff encode c lane (call_at c lane).claim.request (Fetch worker lane ∷ es)
cut_on encode c d worker lane es h zero run b =
    let e = Fetch worker lane in
    let r = (call_at c lane).claim.request in
    let claim : (call_at d lane).claim ≡ (call_at c lane).claim = ap (λ (z : Core). (call_at z lane).claim) run.1 ∙ fetch_claim c worker lane in
    let at : IsCutOff encode (after c e) lane r es = subst (λ (z : Core × Claim). IsCutOff encode z.0 lane z.1.request es) (λ i. (run.1 i, claim i)) b in
    record { most = e ∷ at.most; rest = at.rest; are = ap (λ (fs : List Event). e ∷ fs) at.are; short = at.short; steps = (fetch_step encode c worker lane r h run.0.may zero, at.steps); run = (run.0, at.run) }

pub none_cut : (encode : Core → ℕ → Page) (c : Core) (lane : ℕ) (request : Request) → IsCutOff encode c lane request []
none_cut encode c lane request = record { most = []; rest = []; are = refl; short = omega arith; steps = tt; run = refl }

-- the first call of the queue is one
pub one_front : (q : List ℕ) (l m : ℕ) → first q ≡ Some l → first q ≡ Some m → l ≡ m
one_front q l m p r = let z : Some l ≡ Some m = sym p ∙ r in cc

-- ---- the run

pub may_run : (c d : Core) (worker lane : ℕ) (old new : Job) → IsWith c worker lane old → IsSameCall (call_at c lane) (call_at d lane) → HasSpan d (Worker worker) lane new → MayRun new
may_run c d worker lane old new p same s =
    record {
      ready = s.suits.ready;
      lambda = ap (λ (r : Request). is_lambda r.call) s.suits.request ∙ (ap (λ (k : Claim). is_lambda k.request.call) same.claim ∙ p.lambda);
      fresh = s.fresh;
    }

-- ---- what is reported

tells : (v w : JobView) → IsToldSame v w → TellsSame v w
tells v w t = record { claim = t.call.claim; code = t.code; readable = t.readable; phase = t.call.phase; gathered = t.call.gathered }

-- a job that suits the call and has what is reported
in_span : (c : Core) (lane : ℕ) (job : Job) → HasResult job (result_of c lane) → Suits job (told_at c lane) → SuitsInSpan Suits job (view_of c.names (flight_in c lane (result_of c lane)))
in_span c lane job has suits = λ w told. suits_kept job (view_of c.names (flight_in c lane (result_of c lane))) w (tells (view_of c.names (flight_in c lane (result_of c lane))) w told) (suits_in_phase job c.names (call_at c lane) (result_of c lane) has suits)

abbrev reported_with : Bool → Outcome → Phase
reported_with mark x = Reported (if mark then None else Some x)

has_at : (job : Job) (m t : Bool) (x : Outcome) → m ≡ t → (t ≡ false → given job ≡ Some x) → HasResult job (Reported (if m then None else Some x))
has_at job m true x is has = subst (λ (b : Bool). HasResult job (Reported (if b then None else Some x))) (sym is) tt
has_at job m false x is has = subst (λ (b : Bool). HasResult job (Reported (if b then None else Some x))) (sym is) (has refl)

-- where its function ran
pub ran_reports : (c : Core) (worker lane : ℕ) (old new : Job) → MayRun old → (call_at c lane).phase ≡ Running worker → HasSpan c (Worker worker) lane old → RanOnPages old new → Coherent c → SuitsInSpan Suits new (view_of c.names (flight_in c lane (result_of c lane)))
ran_reports c worker lane old new may runs s r h =
    let f = call_at c lane in
    let lambda : is_lambda f.claim.request.call ≡ true = ap (λ (k : Request). is_lambda k.call) (sym s.suits.request) ∙ may.lambda in
    let has : given new ≡ Some (outcome_of (plain c) f.claim.request.call) = executed_run c lane f old new h s.between.owned.flies s.all s.suits r.ran lambda in
    in_span c lane new (has_at new (c.lanes lane).mark false (outcome_of (plain c) f.claim.request.call) s.between.owned.mark (λ e. has))
    (suits_run old new c.names f r.same r.ready (subst (HasResult new) (sym runs) tt) s.suits)

-- where a read failed
pub mark_suits : (c : Core) (worker lane : ℕ) (job : Job) → IsBetween true c (Worker worker) lane → Suits job (told_at c lane) → SuitsInSpan Suits job (view_of c.names (flight_in c lane (result_of c lane)))
mark_suits c worker lane job p suits =
    in_span c lane job (has_at job (c.lanes lane).mark true (outcome_of (plain c) (call_at c lane).claim.request.call) p.owned.mark (λ e. absurd (cc))) suits

-- ---- what a report leaves

not_running : (f : Flight) (c : Core) (lane worker : ℕ) → f.phase ≡ result_of c lane → f.phase ≡ Running worker → ⊥
not_running f c lane worker p q = let z : result_of c lane ≡ Running worker = sym p ∙ q in cc

pub report_leaves : (c : Core) (worker lane : ℕ) (failed : Bool) → Coherent c → HoldsNone c (Worker worker) → ReportsIn failed worker lane c →
    IsReported failed lane (after c (Report worker lane)) × IsFreeWorker (after c (Report worker lane)) worker × ((call_at (after c (Report worker lane)) lane).claim ≡ (call_at c lane).claim)
report_leaves c worker lane failed h none p =
    let may = p.may in
    let f = flight_at c.calls lane in
    let g : Flight = record f { phase = result_of c lane } in
    let d = reported c lane in
    let flies : d.calls lane ≡ Some g = put-same c.calls lane (Some g) in
    let here : call_at d lane ≡ g = at_flight d.calls lane g flies in
    let at : f ≡ may.call = at_flight c.calls lane may.call may.flies in (
      record {
        flies = flies ∙ ap (λ (x : Flight). Some x) (sym here);
        phase = ap (λ (x : Flight). x.phase) here ∙ ap (λ (x : Flight). reported_with (c.lanes lane).mark (outcome_of (plain c) x.claim.request.call)) (sym here);
        mark = p.mark;
        all = λ e. subst HasGathered (sym here) (subst HasGathered (sym at) (may.all (p.mark ∙ e)));
      },
      record {
        unbusy = λ l x is runs.
            ⊎_elim (λ (s : l ≡ lane).
            let z : Some g ≡ Some x = sym flies ∙ (ap d.calls (sym s) ∙ is) in
            let y : x ≡ g = cc in
            not_running x c lane worker (ap (λ (k : Flight). k.phase) y) runs)
            (λ (n : l ≢ lane). n (h.orders.queued.one_each l lane worker x may.call (sym (put-other c.calls lane (Some g) l n) ∙ is) may.flies runs may.runs))
            (same_or_not l lane);
        none = none;
      },
      ap (λ (x : Flight). x.claim) here,
    )

-- where nothing is left to gather, or a read failed, the Report is the call's next event
pub report_step : (encode : Core → ℕ → Page) (c : Core) (worker lane : ℕ) (request : Request) (failed : Bool) → IsOwned failed c (Worker worker) lane → (call_at c lane).phase ≡ Running worker → (failed ≡ false → HasGathered (call_at c lane)) → IsStep encode lane request c (Report worker lane)
report_step encode c worker lane request failed p runs all =
    record { next = report_next encode c lane worker request (call_at c lane) p.flies runs (none failed p.mark (λ e. none_left (call_at c lane) (all e))); open_still = refl }
  where
    none : (t : Bool) → (c.lanes lane).mark ≡ t → (t ≡ false → page_to_gather (call_at c lane) ≡ None) → GathersNone c lane (call_at c lane)
    none true is left = inl is
    none false is left = inr (left refl)

-- ---- an empty queue

gone_of : (s : Stage) → not (is_gone s) ≡ false → s ≡ Gone
gone_of Outside e = absurd (cc)
gone_of Inside e = absurd (cc)
gone_of Gone e = refl

no_true : (b : Bool) → not b ≡ true → b ≡ false
no_true true e = absurd (cc)
no_true false e = refl

-- the system is closing then, where every lane has left
pub left_closes : (c : Core) → Coherent c → have_left c ≡ true → IsClosing c
left_closes c h e =
    closes c h (λ l m. gone_of (c.lanes l).stage (any_none c.shape.lanes (λ lane. not (is_gone (c.lanes lane).stage)) (no_true (any_to c.shape.lanes (λ lane. not (is_gone (c.lanes lane).stage))) e) l m))
