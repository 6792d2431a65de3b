-- A job that suits its call still does when the call is told again, and when it gathers a page.
use Rattle.std.proofs.Common.{◌≡◌, ◌<◌, ℕ, Bool, true, false, List, [], length, set, Option, Some, None, refl, sym, ap, ◌∙◌, subst, ⊎_elim, arith, length-set, unwrap_or, inl, inr}
use Rattle.std.specs.Prelude.{◌≢◌, ◌⊎◌, ◌==◌, if◌then◌else◌}
use Rattle.std.proofs.lemmas.Bool.Decides.{nat_tests}
use Rattle.std.proofs.lemmas.List.{get_or-set_same, get_or-set_other}
use Rattle.page_base.specs.Bytes.{zero_page}
use Rattle.plain_files.specs.declared.calls.Call.{Call}
use Rattle.plain_files.specs.declared.calls.Call.TheVariants.{Read, Readl, Writel}
use Rattle.core_state.specs.State.{Page, Names, Claim, Frame, Phase, Held, Queued, Running, Reported, Flight}
use Rattle.core_state.specs.PageEvents.{with_gathered}
use Rattle.system_state.specs.Jobs.{JobView, view_of}
use Rattle.span_bytes.specs.Spans.{page_in}
use Rattle.call_job.specs.Buffers.{HasRest}
use Rattle.call_job.specs.Suits.{HasResult, IsReady, Suits, SameButRun}
use Rattle.call_job.specs.Views.{TellsSame, TellsOneMore}
use Rattle.call_job.specs.Lending.{with_page}
use Rattle.call_job.specs.declared.job.Job.{Job}
use Rattle.call_job.proofs.Executed.{suits_ran}

-- ---- told again

pub suits_kept : (job : Job) (old new : JobView) → TellsSame old new → Suits job old → Suits job new
suits_kept job old new t s = record {
  request = s.request ∙ ap (λ (k : Claim). k.request) (sym t.claim);
  side = s.side ∙ ap (λ (k : Claim). k.side) (sym t.claim);
  reach = s.reach ∙ ap (λ (k : Claim). k.reach) (sym t.claim);
  code = s.code ∙ ap (λ o. unwrap_or o []) (sym t.code);
  readable = s.readable ∙ ap (λ (o : Option ℕ). unwrap_or o 0) (sym t.readable);
  ready = s.ready;
  gathered = λ i p l e. let m : i < old.flight.claim.reach.pages = subst (λ (k : Claim). i < k.reach.pages) t.claim l in s.gathered i p m (sym (t.gathered i m) ∙ e);
  result = subst (HasResult job) (sym t.phase) s.result;
}

-- ---- a page more

is_or_not : (k i : ℕ) → (k ≡ i) ⊎ (k ≢ i)
is_or_not k i = go (k == i) refl
  where
    go : (t : Bool) → (k == i) ≡ t → (k ≡ i) ⊎ (k ≢ i)
    go true e = inl (grind (arith, nat_tests))
    go false e = inr (λ s. let z : (k == i) ≡ true = grind (arith, nat_tests) in cc)

-- the place that is written, and the others
page_here : (items : List Page) (i : ℕ) (w : Page) → i < length items → page_in (set items i w) i ≡ w
page_here items i w l = get_or-set_same items i w zero_page l

page_elsewhere : (items : List Page) (i k : ℕ) (w : Page) → k ≢ i → page_in (set items i w) k ≡ page_in items k
page_elsewhere items i k w n = get_or-set_other items i k w zero_page n

-- what it has besides its pages, where it hasn't run
rest_kept : (job : Job) (i : ℕ) (w : Page) (call : Call) → job.ran ≡ None → HasRest job call → HasRest (with_page job i w) call
rest_kept job i w (Read name off n) fresh r = r
rest_kept job i w (Readl file off n function fuel cap param) fresh r = (record { regions = r.0.regions; room = r.0.room }, r.1, r.2)
rest_kept job i w (Writel file off n function fuel param input) fresh r = (record { regions = r.0.regions; room = r.0.room }, r.1, r.2, λ d. absurd (d fresh))
rest_kept job i w call fresh r = tt

ready_written : (job : Job) (i : ℕ) (w : Page) → job.ran ≡ None → IsReady job → IsReady (with_page job i w)
ready_written job i w fresh r = record {
  len = r.len;
  short = r.short;
  reach = r.reach;
  readable = r.readable;
  low = r.low;
  buffers = record {
    pool = let a = r.buffers.pool in let b = length-set job.pages.items i w in omega arith;
    few = let a = r.buffers.few in let b = length-set job.pages.items i w in omega arith;
    rest = rest_kept job i w job.request.call fresh r.buffers.rest;
  };
}

not_some : (q : Page) → None ≡ Some q → ⊥
not_some q e = cc

-- a page that isn't gathered yet may be any
pub suits_written : (job : Job) (view : JobView) (i : ℕ) (w : Page) → job.ran ≡ None → ((p : Page) → i < view.flight.claim.reach.pages → view.flight.gathered i ≡ Some p → ⊥) → Suits job view → Suits (with_page job i w) view
suits_written job view i w fresh free s = record {
  request = s.request;
  side = s.side;
  reach = s.reach;
  code = s.code;
  readable = s.readable;
  ready = ready_written job i w fresh s.ready;
  gathered = λ k p l e. page_elsewhere job.pages.items i k w (λ same. free p (subst (λ (n : ℕ). n < view.flight.claim.reach.pages) same l) (subst (λ (n : ℕ). view.flight.gathered n ≡ Some p) same e)) ∙ s.gathered k p l e;
  result = result view.flight.phase s.result;
}
  where
    result : (phase : Phase) → HasResult job phase → HasResult (with_page job i w) phase
    result Held r = tt
    result Queued r = r
    result (Running worker) r = tt
    result (Reported None) r = tt
    result (Reported (Some outcome)) r = r

-- the page lies there when it is gathered
pub suits_told : (job : Job) (old new : JobView) (i : ℕ) (p : Page) → TellsOneMore old new i p → page_in job.pages.items i ≡ p → Suits job old → Suits job new
suits_told job old new i p t there s = record {
  request = s.request ∙ ap (λ (k : Claim). k.request) (sym t.claim);
  side = s.side ∙ ap (λ (k : Claim). k.side) (sym t.claim);
  reach = s.reach ∙ ap (λ (k : Claim). k.reach) (sym t.claim);
  code = s.code ∙ ap (λ o. unwrap_or o []) (sym t.code);
  readable = s.readable ∙ ap (λ (o : Option ℕ). unwrap_or o 0) (sym t.readable);
  ready = s.ready;
  gathered = λ k q l e.
      let m : k < old.flight.claim.reach.pages = subst (λ (x : Claim). k < x.reach.pages) t.claim l in
      ⊎_elim
      (λ (same : k ≡ i). ap (page_in job.pages.items) same ∙ (there ∙ some_is p q (sym t.here ∙ (ap new.flight.gathered (sym same) ∙ e))))
      (λ (n : k ≢ i). s.gathered k q m (sym (t.others k m n) ∙ e))
      (is_or_not k i);
  result = subst (HasResult job) (sym t.phase) s.result;
}
  where
    some_is : (p q : Page) → Some p ≡ Some q → p ≡ q
    some_is p q e = cc

-- it is put there, and gathered
pub suits_gathered : (job : Job) (old new : JobView) (i : ℕ) (p : Page) → job.ran ≡ None → i < length job.pages.items → old.flight.gathered i ≡ None → TellsOneMore old new i p → Suits job old → Suits (with_page job i p) new
suits_gathered job old new i p fresh within none t s =
    suits_told (with_page job i p) old new i p t (page_here job.pages.items i p within)
    (suits_written job old i p fresh (λ q l e. not_some q (sym none ∙ e)) s)

-- one more page of a call in flight
pub tells_gathered : (names : Names) (call : Flight) (i : ℕ) (p : Page) (frame : Frame) → TellsOneMore (view_of names call) (view_of names (with_gathered call i p frame)) i p
tells_gathered names call i p frame = record {
  claim = refl;
  code = refl;
  readable = refl;
  phase = refl;
  here = ap (λ (t : Bool). if t then Some p else call.gathered i) (itself i);
  others = λ k l n. ap (λ (t : Bool). if t then Some p else call.gathered k) (other k i n);
}
  where
    itself : (n : ℕ) → (n == n) ≡ true
    itself n = grind (arith, nat_tests)

    other : (k n : ℕ) → k ≢ n → (k == n) ≡ false
    other k n e = grind (arith, nat_tests)

-- the same of a call in flight
pub suits_free : (job : Job) (names : Names) (call : Flight) (i : ℕ) (w : Page) → job.ran ≡ None → call.gathered i ≡ None → Suits job (view_of names call) → Suits (with_page job i w) (view_of names call)
suits_free job names call i w fresh none s = suits_written job (view_of names call) i w fresh (λ p l e. not_some p (sym none ∙ e)) s

pub suits_one_more : (job : Job) (names : Names) (call : Flight) (i : ℕ) (p : Page) (frame : Frame) → job.ran ≡ None → i < length job.pages.items → call.gathered i ≡ None → Suits job (view_of names call) → Suits (with_page job i p) (view_of names (with_gathered call i p frame))
suits_one_more job names call i p frame fresh within none s =
    suits_gathered job (view_of names call) (view_of names (with_gathered call i p frame)) i p fresh within none (tells_gathered names call i p frame) s

-- ---- another phase, and a run

pub suits_in_phase : (job : Job) (names : Names) (call : Flight) (phase : Phase) → HasResult job phase → Suits job (view_of names call) → Suits job (view_of names (record call { phase = phase }))
suits_in_phase job names call phase r s = record {
  request = s.request;
  side = s.side;
  reach = s.reach;
  code = s.code;
  readable = s.readable;
  ready = s.ready;
  gathered = s.gathered;
  result = r;
}

pub suits_run : (old new : Job) (names : Names) (call : Flight) → SameButRun old new → IsReady new → HasResult new call.phase → Suits old (view_of names call) → Suits new (view_of names call)
suits_run old new names call same ready r s = suits_ran old new (view_of names call) same ready s r
