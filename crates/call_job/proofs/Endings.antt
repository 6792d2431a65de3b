-- A job's pages are those of its call's span, and its result is that of its function.
use Rattle.std.proofs.Common.{◌≡◌, ℕ, ◌+◌, ◌<◌, ◌≤◌, true, List, [], length, Option, Some, None, refl, sym, ap, ◌∙◌, subst, arith, unwrap_or}
use Rattle.std.specs.Prelude.{◌-◌, ◌*◌, ◌%◌, min, is_some, option_map}
use Rattle.sbpf_insn.specs.Machine as machine
use Rattle.sbpf_insn.specs.declared.insn.Insn.{Insn}
use Rattle.sbpf_exec.specs.declared.interpreter.Outcome.{Outcome}
use Rattle.sbpf_exec.specs.Outcomes as exec
use Rattle.plain_files.specs.declared.calls.Call.{Call}
use Rattle.plain_files.specs.declared.calls.Call.TheVariants.{Read, Readl, Writel}
use Rattle.plain_files.specs.declared.calls.Reply.{Reply}
use Rattle.plain_files.specs.declared.calls.Reply.TheVariants.{DataBytes}
use Rattle.plain_files.specs.declared.calls.Request.{Request}
use Rattle.plain_files.specs.Plain.{answer}
use Rattle.core_state.specs.State.{Flight, Core, Reach as CoreReach}
use Rattle.core_state.specs.Contents.{contents, page_of, span_block}
use Rattle.core_state.specs.Reach as core_reach
use Rattle.core_state.specs.Reach.{is_lambda, is_read, gathers, read_reach}
use Rattle.core_state.specs.PlainOf.{plain, outcome_of, used_of, fuel_of}
use Rattle.core_state.specs.Coherent.{Coherent}
use Rattle.core_state.specs.LaneEvents.{HasGathered}
use Rattle.core_outcomes.specs.Known.{paged_bytes, run_on}
use Rattle.core_outcomes.proofs.Outcomes.{outcome_is}
use Rattle.system_state.specs.Cores.{reach_of}
use Rattle.system_state.specs.Jobs.{view_of}
use Rattle.span_bytes.specs.Spans.{page_in}
use Rattle.call_answers.specs.Ends.{read_reply}
use Rattle.call_answers.proofs.Replies.{read_is, readl_reply}
use Rattle.call_job.specs.Buffers.{readable_in, HasRest}
use Rattle.call_job.specs.Suits.{put_out, given, IsReady, Suits}
use Rattle.call_job.specs.declared.job.Job.{Job}
use Rattle.call_job.proofs.Pools.{read_has, read_long, has_fits}
use Rattle.call_job.proofs.Executed.{pool_has}

-- ---- pages

some_of : {A : Type 0} (o : Option A) → is_some o ≡ true → (x : A) × (o ≡ Some x)
some_of None e = absurd (cc)
some_of (Some x) e = (x, refl)

pub span_pages : (c : Core) (lane : ℕ) (call : Flight) (job : Job) (i : ℕ) → Coherent c → c.calls lane ≡ Some call → HasGathered call → Suits job (view_of c.names call) → i < call.claim.reach.pages → gathers call.claim.request.call call.claim.reach i ≡ true →
    page_in job.pages.items i ≡ page_of (contents c.blocks) (span_block c.places call.claim i)
span_pages c lane call job i h e all s l g =
    let p = some_of (call.gathered i) (all i l g) in
    s.gathered i p.0 l p.1 ∙ h.gathered.pages_are lane call e i p.0 l p.1

lambda_gathers : (k : Call) (r : CoreReach) (i : ℕ) → is_lambda k ≡ true → gathers k r i ≡ true
lambda_gathers (Readl file off n function fuel cap param) r i e = refl
lambda_gathers (Writel file off n function fuel param input) r i e = refl
lambda_gathers k r i e = absurd (cc)

-- ---- a run

-- the result of a run over the job's pages is that of Answer's
pub ran_is : (c : Core) (lane : ℕ) (call : Flight) (job : Job) → Coherent c → c.calls lane ≡ Some call → HasGathered call → Suits job (view_of c.names call) →
    run_on job.request.call job.code.insns job.readable (page_in job.pages.items) ≡ outcome_of (plain c) call.claim.request.call
ran_is c lane call job h e all s =
    let code = (view_of c.names call).code in
    let readable = (view_of c.names call).readable in
    ap (λ (q : Request). run_on q.call job.code.insns job.readable (page_in job.pages.items)) s.request
    ∙ (ap (λ (k : List Insn). run_on call.claim.request.call k job.readable (page_in job.pages.items)) s.code
    ∙ (ap (λ (n : ℕ). run_on call.claim.request.call (unwrap_or code []) n (page_in job.pages.items)) s.readable
    ∙ sym (outcome_is c lane call (page_in job.pages.items) h e (λ k i l. span_pages c lane call job i h e all s l (lambda_gathers call.claim.request.call call.claim.reach i k)))))

-- ---- reads

-- what the reply of a `read` asks of its job
pub record Reads (job : Job) (off : ℕ) : Type 0 where
  pub few : length job.pages.items ≤ 65
  pub fits : 0 < job.readable → off % 4096 + job.readable ≤ 4096 * length job.pages.items
  pub room : job.readable ≤ length job.data.items

pub read_asks : (job : Job) (name : List ℕ) (off n : ℕ) → job.request.call ≡ Read name off n → IsReady job → Reads job off
read_asks job name off n is r =
    let rest : length job.data.items ≡ n = subst (HasRest job) is r.buffers.rest in
    let reach : reach_of job.reach ≡ read_reach off n r.len = r.reach ∙ ap (λ (k : Call). core_reach.reach_of k r.len) is in
    let m : job.readable ≡ min n (r.len - off) = r.readable ∙ (ap (λ (k : Call). readable_in k (reach_of job.reach) r.len) is ∙ (ap (λ (k : CoreReach). min k.end r.len - k.begin) reach ∙ read_long off n r.len)) in
    let pages : job.reach.pages ≡ (read_reach off n r.len).pages = ap (λ (k : CoreReach). k.pages) reach in
    let has = pool_has job r in
    let most = r.buffers.few in
    record {
      few = most;
      fits = λ l. let f = has_fits (read_reach off n r.len) off (min n (r.len - off)) (read_has off n r.len) (omega arith) in omega arith;
      room = omega arith;
    }

pub read_answer : (c : Core) (lane : ℕ) (call : Flight) (job : Job) (name : List ℕ) (off n : ℕ) (reply : Reply) → Coherent c → c.calls lane ≡ Some call → HasGathered call → Suits job (view_of c.names call) → job.request.call ≡ Read name off n →
    reply ≡ DataBytes (paged_bytes (page_in job.pages.items) (off % 4096) job.readable) → reply ≡ (answer (plain c) call.claim.request.call).reply
read_answer c lane call job name off n reply h e all s is r =
    let q : call.claim.request.call ≡ Read name off n = ap (λ (x : Request). x.call) (sym s.request) ∙ is in
    r
    ∙ (ap (λ (m : ℕ). DataBytes (paged_bytes (page_in job.pages.items) (off % 4096) m)) s.readable
    ∙ sym (read_is c lane call name off n (page_in job.pages.items) h e q (λ i l. span_pages c lane call job i h e all s l (ap (λ (k : Call). gathers k call.claim.reach i) q))))

-- ---- functions that read

pub record IsRun (job : Job) : Type 0 where
  pub outcome : Outcome
  pub is : job.ran ≡ Some outcome

pub run_of : (job : Job) → is_some job.ran ≡ true → IsRun job
run_of job e = go job.ran refl e
  where
    go : (o : Option Outcome) → job.ran ≡ o → is_some o ≡ true → IsRun job
    go None q f = absurd (cc)
    go (Some r) q f = record { outcome = r; is = q }

some_same : {A : Type 0} (x y : A) → Some x ≡ Some y → x ≡ y
some_same x y e = cc

-- how it ended, as Answer has it
pub ended_is : (job : Job) (file function : List ℕ) (off n fuel cap : ℕ) (param : List ℕ) (outcome : machine.Outcome) → job.request.call ≡ Readl file off n function fuel cap param → (r : IsRun job) → given job ≡ Some outcome → exec.outcome_of r.outcome job.flat ≡ outcome
ended_is job file function off n fuel cap param outcome is r g =
    some_same (exec.outcome_of r.outcome job.flat) outcome
    (sym (ap (λ (o : Option Outcome). option_map (λ (x : Outcome). exec.outcome_of x (put_out job job.request.call)) o) r.is ∙ ap (λ (k : Call). Some (exec.outcome_of r.outcome (put_out job k))) is) ∙ g)

pub flat_long : (job : Job) (file function : List ℕ) (off n fuel cap : ℕ) (param : List ℕ) → job.request.call ≡ Readl file off n function fuel cap param → IsReady job → length job.flat ≡ cap
flat_long job file function off n fuel cap param is r =
    let h : HasRest job (Readl file off n function fuel cap param) = subst (HasRest job) is r.buffers.rest in
    h.1

pub readl_answer : (c : Core) (lane : ℕ) (call : Flight) (job : Job) (file function : List ℕ) (off n fuel cap : ℕ) (param : List ℕ) (reply : Reply) (r : IsRun job) → Coherent c → c.calls lane ≡ Some call → Suits job (view_of c.names call) → job.request.call ≡ Readl file off n function fuel cap param →
    (is_lambda call.claim.request.call ≡ true → given job ≡ Some (outcome_of (plain c) call.claim.request.call)) → reply ≡ read_reply cap (exec.outcome_of r.outcome job.flat) → reply ≡ (answer (plain c) call.claim.request.call).reply
readl_answer c lane call job file function off n fuel cap param reply r h e s is g q =
    let k : call.claim.request.call ≡ Readl file off n function fuel cap param = ap (λ (x : Request). x.call) (sym s.request) ∙ is in
    q
    ∙ (ap (read_reply cap) (ended_is job file function off n fuel cap param (outcome_of (plain c) call.claim.request.call) is r (g (ap is_lambda k)))
    ∙ sym (readl_reply c lane call file function off n fuel cap param h e k))

-- only those read
pub read_only : (call : Call) → is_read call ≡ true → ((name : List ℕ) (off n : ℕ) → call ≡ Read name off n → ⊥) → ((file function : List ℕ) (off n fuel cap : ℕ) (param : List ℕ) → call ≡ Readl file off n function fuel cap param → ⊥) → ⊥
read_only (Read name off n) l a b = a name off n refl
read_only (Readl file off n function fuel cap param) l a b = b file function off n fuel cap param refl
read_only call l a b = cc

-- a plain read runs nothing
pub read_runs_none : {P : Type 0} (job : Job) (request : Request) (name : List ℕ) (off n : ℕ) → job.request.call ≡ Read name off n → job.request ≡ request → is_lambda request.call ≡ true → P
read_runs_none job request name off n is s l = absurd (let e : is_lambda (Read name off n) ≡ true = ap is_lambda (sym is ∙ ap (λ (q : Request). q.call) s) ∙ l in cc)

pub readl_used : (c : Core) (call : Flight) (job : Job) (file function : List ℕ) (off n fuel cap used : ℕ) (param : List ℕ) (r : IsRun job) → job.request.call ≡ Readl file off n function fuel cap param → job.request ≡ call.claim.request → given job ≡ Some (outcome_of (plain c) call.claim.request.call) →
    used ≡ used_of (exec.outcome_of r.outcome job.flat) fuel → used ≡ used_of (outcome_of (plain c) call.claim.request.call) (fuel_of call.claim.request.call)
readl_used c call job file function off n fuel cap used param r is s g q =
    q
    ∙ (ap (λ (o : machine.Outcome). used_of o fuel) (ended_is job file function off n fuel cap param (outcome_of (plain c) call.claim.request.call) is r g)
    ∙ ap (λ (k : Call). used_of (outcome_of (plain c) call.claim.request.call) (fuel_of k)) (sym is ∙ ap (λ (x : Request). x.call) s))
