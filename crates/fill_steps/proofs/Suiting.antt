-- A job with another page at one place of its span.
use Rattle.std.proofs.Common.{◌≡◌, ℕ, ◌<◌, List, [], length, Some, None, sym, ap, ◌∙◌, subst, ⊎_elim, arith}
use Rattle.std.specs.Prelude.{◌≢◌, slice_set, option_map, unwrap_or}
use Rattle.std.proofs.lemmas.List.{length-set, get_or-set_same, get_or-set_other}
use Rattle.page_base.specs.Bytes.{zero_page}
use Rattle.plain_files.specs.declared.calls.Call.{Call}
use Rattle.plain_files.specs.declared.calls.Call.TheVariants.{Read, Readl, Writel}
use Rattle.index_lists.proofs.Counts.{same_or_not}
use Rattle.sbpf_exec.specs.declared.interpreter.Outcome.{Outcome}
use Rattle.core_state.specs.State.{Page, Claim, Phase, Held, Queued, Running, Reported}
use Rattle.system_state.specs.Jobs.{JobView}
use Rattle.span_bytes.specs.Spans.{page_in}
use Rattle.call_job.specs.Buffers.{HasRest}
use Rattle.call_job.specs.Lending.{with_page}
use Rattle.call_job.specs.Suits.{IsReady, HasResult, Suits, given, put_out}
use Rattle.sbpf_exec.specs.Outcomes as exec
use Rattle.call_job.specs.declared.job.Job.{Job}

pub page_there : (items : List Page) (i : ℕ) (w : Page) → i < length items → page_in (slice_set items i w) i ≡ w
page_there items i w l = get_or-set_same items i w zero_page l

pub page_elsewhere : (items : List Page) (i j : ℕ) (w : Page) → j ≢ i → page_in (slice_set items i w) j ≡ page_in items j
page_elsewhere items i j w d = get_or-set_other items i j w zero_page d

rest_with : (job : Job) (i : ℕ) (w : Page) (call : Call) → job.ran ≡ None → HasRest job call → HasRest (with_page job i w) call
rest_with job i w (Read name off n) fresh h = h
rest_with job i w (Readl file off n function fuel cap param) fresh h = (record { regions = h.0.regions; room = h.0.room }, h.1, h.2)
rest_with job i w (Writel file off n function fuel param input) fresh h = (record { regions = h.0.regions; room = h.0.room }, h.1, h.2, λ d. absurd (d fresh))
rest_with job i w call fresh h = tt

ready_with : (job : Job) (i : ℕ) (w : Page) → job.ran ≡ None → IsReady job → IsReady (with_page job i w)
ready_with job i w fresh r =
    let long = length-set job.pages.items i w in
    record {
      len = r.len;
      short = r.short;
      reach = r.reach;
      readable = r.readable;
      low = r.low;
      buffers = record { pool = let a = r.buffers.pool in omega arith; few = let a = r.buffers.few in omega arith; rest = rest_with job i w job.request.call fresh r.buffers.rest };
    }

result_with : (job : Job) (i : ℕ) (w : Page) (p : Phase) → job.ran ≡ None → HasResult job p → HasResult (with_page job i w) p
result_with job i w Held fresh h = tt
result_with job i w Queued fresh h = h
result_with job i w (Running worker) fresh h = tt
result_with job i w (Reported None) fresh h = tt
result_with job i w (Reported (Some outcome)) fresh h = let z : given job ≡ None = ap (option_map (λ (r : Outcome). exec.outcome_of r (put_out job job.request.call))) fresh in absurd (cc)

-- It suits a call that has the same but one page more, if it has that page there.
pub suits_page : (job : Job) (i : ℕ) (w : Page) (v u : JobView) → job.ran ≡ None → i < length job.pages.items → u.flight.claim ≡ v.flight.claim → u.flight.phase ≡ v.flight.phase → u.code ≡ v.code → u.readable ≡ v.readable → ((p : Page) → u.flight.gathered i ≡ Some p → w ≡ p) →
    ((j : ℕ) → j ≢ i → j < v.flight.claim.reach.pages → u.flight.gathered j ≡ v.flight.gathered j) → Suits job v → Suits (with_page job i w) u
suits_page job i w v u fresh within claim phase code readable page others s =
    record {
      request = s.request ∙ ap (λ (x : Claim). x.request) (sym claim);
      side = s.side ∙ ap (λ (x : Claim). x.side) (sym claim);
      reach = s.reach ∙ ap (λ (x : Claim). x.reach) (sym claim);
      code = s.code ∙ ap (λ o. unwrap_or o []) (sym code);
      readable = s.readable ∙ ap (λ o. unwrap_or o 0) (sym readable);
      ready = ready_with job i w fresh s.ready;
      gathered = λ j p l e.
          ⊎_elim (λ (same : j ≡ i). ap (page_in (slice_set job.pages.items i w)) same ∙ (page_there job.pages.items i w within ∙ page p (ap u.flight.gathered (sym same) ∙ e)))
          (λ (d : j ≢ i).
          let m : j < v.flight.claim.reach.pages = subst (λ (x : Claim). j < x.reach.pages) claim l in
          page_elsewhere job.pages.items i j w d ∙ s.gathered j p m (sym (others j d m) ∙ e))
          (same_or_not j i);
      result = result_with job i w u.flight.phase fresh (subst (HasResult job) (sym phase) s.result);
    }
