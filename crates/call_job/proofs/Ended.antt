-- The end of a call of any kind, and what it lets `end_call` do.
use Rattle.std.proofs.Common.{◌≡◌, ℕ, ◌+◌, ◌<◌, ◌≤◌, Bool, true, false, List, length, Option, Some, None, refl, sym, ap, ◌∙◌, subst, ⊎_elim, arith, unwrap_or}
use Rattle.std.specs.Prelude.{◌==◌, ◌/◌, ◌-◌, ◌&&◌, min, is_some, option_map, if◌then◌else◌}
use Rattle.page_base.specs.Bytes.{Pages}
use Rattle.sbpf_insn.specs.Machine as machine
use Rattle.sbpf_exec.specs.declared.interpreter.Outcome.{Outcome}
use Rattle.sbpf_exec.specs.Outcomes as exec
use Rattle.plain_files.specs.declared.calls.Call.{Call}
use Rattle.plain_files.specs.declared.calls.Call.TheVariants.{Read, Write, Append, Trunc, Readl, Writel, Sync}
use Rattle.plain_files.specs.declared.calls.Reply.{Reply}
use Rattle.plain_files.specs.declared.calls.Reply.TheVariants.{Fault}
use Rattle.plain_files.specs.declared.calls.Request.{Request}
use Rattle.plain_files.specs.Plain.{answer}
use Rattle.core_state.specs.State.{Page, Shared, Phase, Held, Queued, Running, Reported, Flight, Core, Reach as CoreReach}
use Rattle.core_state.specs.Reach as core_reach
use Rattle.core_state.specs.Reach.{is_exclusive, is_data, is_sync, is_lambda, is_read, is_trunc, file_word, no_reach, read_reach}
use Rattle.core_state.specs.PlainOf.{plain, outcome_of, used_of, fuel_of, has_stored, bytes_by_id, page_at}
use Rattle.core_state.specs.PageEvents.{no_flight, flight_at}
use Rattle.core_state.specs.EndEvent.{has_changed, is_reported, IsAtEnd}
use Rattle.core_state.specs.Dies.{IsResult}
use Rattle.core_state.specs.Coherent.{Coherent}
use Rattle.core_state.specs.LaneEvents.{HasGathered}
use Rattle.core_outcomes.specs.Known.{run_on}
use Rattle.system_state.specs.Jobs.{view_of}
use Rattle.span_bytes.specs.Spans.{page_in}
use Rattle.call_answers.specs.Ends.{Lands, EndsAs}
use Rattle.call_answers.proofs.Found.{finds}
use Rattle.call_job.specs.Puts.{puts_bytes}
use Rattle.call_job.specs.Writes.{is_writel}
use Rattle.call_job.specs.Suits.{put_out, given, HasResult, Suits}
use Rattle.call_job.specs.Ends.{HasRun, MayEndWith}
use Rattle.call_job.specs.declared.job.Job.{Job}
use Rattle.call_job.proofs.Executed.{pool_has}
use Rattle.call_job.proofs.Endings.{ran_is}

-- ---- kinds of calls

-- a data call that is none of the others
pub writel_left : (call : Call) → is_data call ≡ true → is_read call ≡ false → puts_bytes call ≡ false → is_trunc call ≡ false → is_writel call ≡ true
writel_left (Writel file off n function fuel param input) d r p t = refl
writel_left call d r p t = cc

pub writel_runs : (call : Call) → is_writel call ≡ true → is_lambda call ≡ true
writel_runs (Writel file off n function fuel param input) w = refl
writel_runs call w = cc

-- one that puts bytes or sets a length runs nothing
pub put_runs_none : {P : Type 0} (call : Call) → puts_bytes call ≡ true → is_lambda call ≡ true → P
put_runs_none (Write name off bytes) p l = absurd (cc)
put_runs_none (Append name bytes) p l = absurd (cc)
put_runs_none call p l = absurd (cc)

pub trunc_runs_none : {P : Type 0} (call : Call) → is_trunc call ≡ true → is_lambda call ≡ true → P
trunc_runs_none (Trunc name n) p l = absurd (cc)
trunc_runs_none call p l = absurd (cc)

data_no_sync : (call : Call) → is_data call ≡ true → is_sync call ≡ true → ⊥
data_no_sync Sync d s = cc
data_no_sync call d s = cc

-- ---- a call that reads stores nothing

read_shared : (r : CoreReach) (off n len : ℕ) → r ≡ read_reach off n len → is_exclusive r.mode ≡ false
read_shared r off n len e = go (n == 0) e
  where
    w : Bool → CoreReach
    w z = if z then no_reach else record { mode = Shared; from = off / 4096; to = min (Pages (off + n)) 65537; first = off / 4096; pages = min (Pages (off + n)) (Pages len) - off / 4096; begin = off; end = off + n }

    go : (z : Bool) → r ≡ w z → is_exclusive r.mode ≡ false
    go true s = ap (λ (x : CoreReach). is_exclusive x.mode) s
    go false s = ap (λ (x : CoreReach). is_exclusive x.mode) s

reads_shared : (c : Core) (lane : ℕ) (call : Flight) → Coherent c → c.calls lane ≡ Some call → (k : Call) → call.claim.request.call ≡ k → is_read k ≡ true → is_exclusive call.claim.reach.mode ≡ false
reads_shared c lane call h e (Read name off n) q t =
    let f = finds c lane call name h e (ap file_word q) in read_shared call.claim.reach off n f.file.len (f.reach ∙ ap (λ (k : Call). core_reach.reach_of k f.file.len) q)
reads_shared c lane call h e (Readl file off n function fuel cap param) q t =
    let f = finds c lane call file h e (ap file_word q) in read_shared call.claim.reach off n f.file.len (f.reach ∙ ap (λ (k : Call). core_reach.reach_of k f.file.len) q)
reads_shared c lane call h e k q t = absurd (cc)

pub reads_end : (c : Core) (lane : ℕ) (call : Flight) (job : Job) (said : Reply) (len : ℕ) (pages : List Page) → Coherent c → c.calls lane ≡ Some call → Suits job (view_of c.names call) → is_read job.request.call ≡ true → said ≡ (answer (plain c) call.claim.request.call).reply → pages ≡ job.pages.items → EndsAs c call said len pages
reads_end c lane call job said len pages h e s reads said_is same = record {
  reply_is = said_is;
  stores = λ k. absurd (not_both (ap (λ (t : Bool). t && has_stored said) (sym (reads_shared c lane call h e call.claim.request.call refl (ap (λ (x : Request). is_read x.call) (sym s.request) ∙ reads))) ∙ k));
  back = λ k i p l g. ap (λ (ps : List Page). page_in ps i) same ∙ s.gathered i p l g;
}
  where
    not_both : false ≡ true → ⊥
    not_both z = cc

-- ---- functions that have run

-- so the job has a result
pub run_there : (job : Job) (o : machine.Outcome) → given job ≡ Some o → is_some job.ran ≡ true
run_there job o g = go job.ran g
  where
    go : (x : Option Outcome) → option_map (λ (r : Outcome). exec.outcome_of r (put_out job job.request.call)) x ≡ Some o → is_some x ≡ true
    go None q = absurd (cc)
    go (Some r) q = refl

pub has_run_there : (c : Core) (call : Flight) (job : Job) → Suits job (view_of c.names call) → HasRun c call job → is_lambda job.request.call ≡ true → is_some job.ran ≡ true
has_run_there c call job s ran l = run_there job (outcome_of (plain c) call.claim.request.call) (ran (ap (λ (x : Request). is_lambda x.call) (sym s.request) ∙ l))

-- where its owner ran it
pub executed_run : (c : Core) (lane : ℕ) (call : Flight) (old new : Job) → Coherent c → c.calls lane ≡ Some call → HasGathered call → Suits old (view_of c.names call) → given new ≡ Some (run_on old.request.call old.code.insns old.readable (page_in old.pages.items)) → HasRun c call new
executed_run c lane call old new h e all s g = λ l. g ∙ ap Some (ran_is c lane call old h e all s)

-- where a worker did, and reported it
pub reported_run : (c : Core) (lane : ℕ) (call : Flight) (job : Job) → Coherent c → c.calls lane ≡ Some call → (c.lanes lane).mark ≡ false → is_reported call.phase ≡ true → Suits job (view_of c.names call) → HasRun c call job
reported_run c lane call job h e m r s = go call.phase r (h.gathered.results lane call e m) s.result
  where
    some_it : (x : Option machine.Outcome) (o : machine.Outcome) → x ≡ Some o → HasResult job (Reported x) → given job ≡ Some o
    some_it None o q g = absurd (cc)
    some_it (Some y) o q g = g ∙ q

    go : (phase : Phase) → is_reported phase ≡ true → IsResult (plain c) call.claim.request.call phase → HasResult job phase → HasRun c call job
    go Held t q g = absurd (cc)
    go Queued t q g = absurd (cc)
    go (Running worker) t q g = absurd (cc)
    go (Reported x) t q g = λ l. some_it x (outcome_of (plain c) call.claim.request.call) q g

-- ---- what `end_call` asks

at_lane : (c : Core) (lane : ℕ) (call : Flight) → c.calls lane ≡ Some call → flight_at c.calls lane ≡ call
at_lane c lane call e = ap (λ (o : Option Flight). unwrap_or o no_flight) e

-- of a data call without a mark
pub may_end : (c : Core) (lane : ℕ) (call : Flight) (job : Job) (said : Reply) (used len : ℕ) (pages : List Page) → c.calls lane ≡ Some call → (c.lanes lane).mark ≡ false → IsAtEnd call → is_data call.claim.request.call ≡ true → HasGathered call → Suits job (view_of c.names call) →
    EndsAs c call said len pages → job.reach.pages ≤ length pages → (is_lambda call.claim.request.call ≡ true → used ≡ used_of (outcome_of (plain c) call.claim.request.call) (fuel_of call.claim.request.call)) → MayEndWith c lane job.request said used len pages
may_end c lane call job said used len pages e m end kind all s ends enough fuel = record {
  may = record {
    call = call;
    flies = e;
    request_is = s.request;
    at_end = end;
    marked = λ t. absurd (no_mark (sym m ∙ t));
    unmarked = λ t. record { all = all; synced = λ y. absurd (data_no_sync call.claim.request.call kind y); reply_is = ends.reply_is };
  };
  stores = λ t k.
      let l : Lands c call len pages = ends.stores (subst (λ (f : Flight). has_changed f said ≡ true) at k) in
      record {
        mark = t;
        stored = k;
        len_is = subst (λ (f : Flight). len ≡ length (bytes_by_id (answer (plain c) f.claim.request.call).state f.claim.file)) (sym at) l.len_is;
        many = many;
        pages_are = λ i b. subst (λ (f : Flight). page_in pages i ≡ page_at (bytes_by_id (answer (plain c) f.claim.request.call).state f.claim.file) (f.claim.reach.first + i)) (sym at) (l.pages_are i (subst (λ (f : Flight). i < f.claim.reach.pages) at b));
      };
  many = many;
  back = λ z i p l g.
      ⊎_elim (λ (t : (c.lanes lane).mark ≡ true). absurd (no_mark (sym m ∙ t)))
      (λ (t : has_changed (flight_at c.calls lane) said ≡ false). ends.back (subst (λ (f : Flight). has_changed f said ≡ false) at t) i p (subst (λ (f : Flight). i < f.claim.reach.pages) at l) (subst (λ (f : Flight). f.gathered i ≡ Some p) at g)) z;
  fuel = λ t l. subst (λ (f : Flight). used ≡ used_of (outcome_of (plain c) f.claim.request.call) (fuel_of f.claim.request.call)) (sym at) (fuel (subst (λ (f : Flight). is_lambda f.claim.request.call ≡ true) at l));
}
  where
    no_mark : false ≡ true → ⊥
    no_mark z = cc

    at : flight_at c.calls lane ≡ call
    at = at_lane c lane call e

    many : (flight_at c.calls lane).claim.reach.pages ≤ length pages
    many = subst (λ (f : Flight). f.claim.reach.pages ≤ length pages) (sym at) (let k : job.reach.pages ≡ call.claim.reach.pages = ap (λ (x : CoreReach). x.pages) s.reach in omega arith)

-- of a call with a mark: it is a fault, and its pages go back as they were taken
pub may_end_marked : (c : Core) (lane : ℕ) (call : Flight) (job : Job) (used len : ℕ) → c.calls lane ≡ Some call → (c.lanes lane).mark ≡ true → IsAtEnd call → Suits job (view_of c.names call) → MayEndWith c lane job.request Fault used len job.pages.items
may_end_marked c lane call job used len e m end s = record {
  may = record {
    call = call;
    flies = e;
    request_is = s.request;
    at_end = end;
    marked = λ t. refl;
    unmarked = λ t. absurd (marked (sym m ∙ t));
  };
  stores = λ t k. absurd (marked (sym m ∙ t));
  many = subst (λ (f : Flight). f.claim.reach.pages ≤ length job.pages.items) (sym at) (let k : job.reach.pages ≡ call.claim.reach.pages = ap (λ (x : CoreReach). x.pages) s.reach in let p = pool_has job s.ready in omega arith);
  back = λ z i p l g. s.gathered i p (subst (λ (f : Flight). i < f.claim.reach.pages) at l) (subst (λ (f : Flight). f.gathered i ≡ Some p) at g);
  fuel = λ t l. absurd (marked (sym m ∙ t));
}
  where
    marked : true ≡ false → ⊥
    marked z = cc

    at : flight_at c.calls lane ≡ call
    at = at_lane c lane call e
