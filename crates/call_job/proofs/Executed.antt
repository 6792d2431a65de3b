-- A run over the pages of a job is the run on their bytes, and the job is as ready as before.
use Rattle.std.proofs.Common.{◌≡◌, ℕ, zero, suc, ◌+◌, ◌*◌, ◌<◌, ◌≤◌, Bool, true, false, List, [], ◌∷◌, ◌++◌, length, take, drop, Option, Some, None, refl, sym, ap, ◌∙◌, subst, ⊎_elim, arith}
use Rattle.std.specs.Prelude.{◌≢◌, ◌-◌, ◌/◌, ◌%◌, ◌^◌, ◌||◌, nat_lt, min, is_some, get_or, option_map}
use Rattle.std.proofs.lemmas.Grind.{common_steps}
use Rattle.std.proofs.lemmas.Bool.Decides.{nat_tests}
use Rattle.std.proofs.lemmas.List.{ext_get_or}
use Rattle.sbpf_insn.specs.Program.{Program}
use Rattle.sbpf_insn.specs.Machine as machine
use Rattle.sbpf_exec.specs.declared.interpreter.Outcome.{Outcome}
use Rattle.sbpf_exec.specs.Outcomes.{outcome_of}
use Rattle.sbpf_exec.specs.declared.regions.Regions.{Regions}
use Rattle.sbpf_exec.specs.Buffers.{AreWhole}
use Rattle.sbpf_exec.specs.Parts.{param_of}
use Rattle.plain_files.specs.declared.calls.Call.{Call}
use Rattle.plain_files.specs.declared.calls.Call.TheVariants.{Readl, Writel}
use Rattle.plain_files.specs.declared.calls.Request.{Request}
use Rattle.plain_files.specs.Plain.{is_long, is_run_long, is_too_long}
use Rattle.core_state.specs.Words.{from_fn}
use Rattle.core_state.specs.State.{Page, Reach as CoreReach}
use Rattle.core_state.specs.Reach as core_reach
use Rattle.core_state.specs.Reach.{is_exclusive, is_lambda, read_reach, write_reach}
use Rattle.core_lemmas.proofs.Words.{same_some}
use Rattle.core_outcomes.specs.Known.{paged_bytes, ArePages, run_on}
use Rattle.core_outcomes.proofs.Joined.{joined}
use Rattle.core_outcomes.proofs.Bytes.{length_fn, get_fn}
use Rattle.span_bytes.specs.Spans.{page_in, byte_in, over, span_part}
use Rattle.span_bytes.proofs.Pointwise.{less_or_not, low_over, high_over}
use Rattle.system_state.specs.declared.lanes.Reach.{Reach}
use Rattle.system_state.specs.Cores.{reach_of}
use Rattle.system_state.specs.Jobs.{JobView}
use Rattle.call_job.specs.Buffers.{pool_of, readable_in, HasParam, HasWritten, HasRest}
use Rattle.call_job.specs.Suits.{put_out, given, IsReady, HasResult, Suits, SameButRun}
use Rattle.call_job.proofs.Pools.{pool_enough, write_pool, read_has, read_long, write_has, has_fits}
use Rattle.call_job.specs.declared.job.Job.{Job}

are_pages : (items : List Page) → AreWhole items → ArePages items (page_in items)
are_pages [] w k l = absurd (omega arith)
are_pages (p ∷ ps) w zero l = (refl, w.0)
are_pages (p ∷ ps) w (suc k) l = are_pages ps w.1 k (omega arith)

pub part_paged : (items : List Page) (start n : ℕ) → AreWhole items → start + n ≤ 4096 * length items → span_part items start n ≡ paged_bytes (page_in items) start n
part_paged items start n w fits = joined items (page_in items) start n (are_pages items w) fits

-- of no bytes the place is none
pub none_paged : (pages : ℕ → Page) (s t n : ℕ) → (0 < n → s ≡ t) → paged_bytes pages s n ≡ paged_bytes pages t n
unfolding from_fn
none_paged pages s t zero h = refl
none_paged pages s t (suc n) h = ap (λ (k : ℕ). paged_bytes pages k (suc n)) (h (omega arith))

-- the regions that are there have the parameter
pub param_is : (o : Option Regions) (r : Regions) (param : List ℕ) → o ≡ Some r → HasParam o param → param_of r ≡ param
param_is o r param e h = let s : h.there ≡ r = same_some o h.there r h.is e in ap param_of (sym s) ∙ h.holds

-- ---- what is as it was

ready_as : (old new : Job) → SameButRun old new → HasRest new new.request.call → IsReady old → IsReady new
ready_as old new s rest r = record {
  len = r.len;
  short = ap (λ (q : Request). is_too_long q.call) s.request ∙ r.short;
  reach = ap reach_of s.reach ∙ (r.reach ∙ ap (λ (q : Request). core_reach.reach_of q.call r.len) (sym s.request));
  readable = s.readable ∙ (r.readable ∙ (ap (λ (q : Request). readable_in q.call (reach_of old.reach) r.len) (sym s.request) ∙ ap (λ (k : Reach). readable_in new.request.call (reach_of k) r.len) (sym s.reach)));
  low = λ m. subst (λ (k : Reach). k.end ≤ 2 ^ 28) (sym s.reach) (r.low (ap (λ (k : Reach). is_exclusive (reach_of k).mode) (sym s.reach) ∙ m));
  buffers = record {
    pool = let a = r.buffers.pool in let b = ap length s.pages in let c = ap (λ (q : Request). pool_of q.call) s.request in omega arith;
    few = let a = r.buffers.few in let b = ap length s.pages in omega arith;
    rest = rest;
  };
}

pub readl_ready : (old new : Job) (file function : List ℕ) (off n fuel cap : ℕ) (param : List ℕ) → old.request.call ≡ Readl file off n function fuel cap param → SameButRun old new → length new.flat ≡ length old.flat → ((p : List ℕ) → HasParam old.regions p → HasParam new.regions p) → new.ran ≢ None → IsReady old → IsReady new
readl_ready old new file function off n fuel cap param is s long has ran r =
    let q : new.request.call ≡ Readl file off n function fuel cap param = ap (λ (x : Request). x.call) s.request ∙ is in
    let h : HasRest old (Readl file off n function fuel cap param) = subst (HasRest old) is r.buffers.rest in
    ready_as old new s
    (subst (HasRest new) (sym q) (record { regions = has param h.0.regions; room = ap (λ (k : Program). k.room) s.code ∙ h.0.room }, long ∙ h.1, λ e. absurd (ran e))) r

pub writel_ready : (old new : Job) (file function : List ℕ) (off n fuel : ℕ) (param input : List ℕ) → old.request.call ≡ Writel file off n function fuel param input → SameButRun old new → new.flat ≡ old.flat → length new.second.items ≡ length old.second.items → ((p : List ℕ) → HasParam old.regions p → HasParam new.regions p) → HasWritten new (off % 4096) n → IsReady old → IsReady new
writel_ready old new file function off n fuel param input is s flat many has wrote r =
    let q : new.request.call ≡ Writel file off n function fuel param input = ap (λ (x : Request). x.call) s.request ∙ is in
    let h : HasRest old (Writel file off n function fuel param input) = subst (HasRest old) is r.buffers.rest in
    ready_as old new s
    (subst (HasRest new) (sym q) (record { regions = has param h.0.regions; room = ap (λ (k : Program). k.room) s.code ∙ h.0.room }, flat ∙ h.1, omega (arith, many, h.2), λ d. wrote)) r

pub suits_ran : (old new : Job) (view : JobView) → SameButRun old new → IsReady new → Suits old view → HasResult new view.flight.phase → Suits new view
suits_ran old new view s ready h result = record {
  request = s.request ∙ h.request;
  side = s.side ∙ h.side;
  reach = ap reach_of s.reach ∙ h.reach;
  code = ap (λ (k : Program). k.insns) s.code ∙ h.code;
  readable = s.readable ∙ h.readable;
  ready = ready;
  gathered = λ i p l e. ap (λ (ps : List Page). page_in ps i) s.pages ∙ h.gathered i p l e;
  result = result;
}

-- ---- a run over the second set of pages

-- bytes of pages are told by the pages that they meet
pub paged_same : (p q : ℕ → Page) (start n k : ℕ) → start + n ≤ 4096 * k → ((i : ℕ) → i < k → p i ≡ q i) → paged_bytes p start n ≡ paged_bytes q start n
paged_same p q start n k fits same =
    let f = λ (r : ℕ → Page) (j : ℕ). get_or (r ((start + j) / 4096)) ((start + j) % 4096) 0 in
    let a = length_fn n (f p) in
    let b = length_fn n (f q) in
    ext_get_or 0 (paged_bytes p start n) (paged_bytes q start n) (omega arith)
    (λ j l. let m : j < n = omega arith in get_fn n (f p) j m ∙ (ap (λ (w : Page). get_or w ((start + j) % 4096) 0) (same ((start + j) / 4096) (omega arith)) ∙ sym (get_fn n (f q) j m)))

-- of no bytes nothing is written over
pub over_none : (s t n q was : ℕ) (bytes : List ℕ) → length bytes ≡ n → (0 < n → s ≡ t) → over s bytes q was ≡ over t bytes q was
over_none s t zero q was bytes long h = none s ∙ sym (none t)
  where
    none : (s : ℕ) → over s bytes q was ≡ was
    none s = ⊎_elim (λ (l : q < s). low_over s q was bytes l) (λ (l : s ≤ q). high_over s q was bytes (omega arith)) (less_or_not q s)
over_none s t (suc n) q was bytes long h = ap (λ (k : ℕ). over k bytes q was) (h (omega arith))

pub none_part : (items : List Page) (s t n : ℕ) → (0 < n → s ≡ t) → span_part items s n ≡ span_part items t n
none_part items s t zero h = refl
none_part items s t (suc n) h = ap (λ (k : ℕ). span_part items k (suc n)) (h (omega arith))

pub place_fits : (off n start k : ℕ) → (0 < n → start ≡ off % 4096) → (n ≡ 0 → start ≡ 0) → (0 < n → off % 4096 + n ≤ 4096 * k) → start + n ≤ 4096 * k
place_fits off zero start k value none fits = let s = none refl in omega arith
place_fits off (suc n) start k value none fits = let s = value (omega arith) in let f = fits (omega arith) in omega arith

-- a vector whose slice was changed has what the slice has
pub slice_back : {A : Type 0} (xs ys : List A) (n : ℕ) → n ≡ length ys → length ys ≡ length xs → take n (ys ++ drop (length ys) xs) ≡ ys
slice_back xs ys n e l = grind (arith, common_steps)

-- only those run a function
pub lambda_only : (call : Call) → is_lambda call ≡ true → ((file function : List ℕ) (off n fuel cap : ℕ) (param : List ℕ) → call ≡ Readl file off n function fuel cap param → ⊥) → ((file function : List ℕ) (off n fuel : ℕ) (param input : List ℕ) → call ≡ Writel file off n function fuel param input → ⊥) → ⊥
lambda_only (Readl file off n function fuel cap param) l a b = a file function off n fuel cap param refl
lambda_only (Writel file off n function fuel param input) l a b = b file function off n fuel param input refl
lambda_only call l a b = cc

-- ---- what a run asks of its job

long_of : (n : ℕ) → is_long n ≡ false → n ≤ 262144
long_of n e = grind (arith, nat_tests)

param_of_short : (param : List ℕ) (fuel : ℕ) → is_run_long param fuel ≡ false → length param ≤ 4096
param_of_short param fuel = go (nat_lt 4096 (length param)) refl
  where
    go : (t : Bool) → nat_lt 4096 (length param) ≡ t → (t || nat_lt (2 ^ 32) fuel) ≡ false → length param ≤ 4096
    go true e f = absurd (cc)
    go false e f = grind (arith, nat_tests)

three : (a b d : Bool) → (a || b || d) ≡ false → (a ≡ false) × (b ≡ false) × (d ≡ false)
three true b d e = absurd (cc)
three false true d e = absurd (cc)
three false false true e = absurd (cc)
three false false false e = (refl, refl, refl)

pub record Asks (job : Job) (off m : ℕ) (param : List ℕ) : Type 0 where
  pub there : is_some job.regions ≡ true
  pub has : HasParam job.regions param
  pub short : length param ≤ 4096
  pub fits : 0 < m → off % 4096 + m ≤ 4096 * job.reach.pages
  pub pages : job.reach.pages ≤ length job.pages.items
  pub flat : length job.flat ≤ 262144

same_param : (o : Option Regions) (p q : List ℕ) → HasParam o p → HasParam o q → p ≡ q
same_param o p q a b = sym a.holds ∙ (ap param_of (same_some o a.there b.there a.is b.is) ∙ b.holds)

pub param_short : (job : Job) (off m : ℕ) (param : List ℕ) → Asks job off m param → (p : List ℕ) → HasParam job.regions p → length p ≤ 2 ^ 32
param_short job off m param a p h = let e = ap (λ (x : List ℕ). length x) (same_param job.regions p param h a.has) in let s = a.short in omega arith

pub pages_is : (job : Job) (r : IsReady job) → job.reach.pages ≡ (core_reach.reach_of job.request.call r.len).pages
pages_is job r = ap (λ (k : CoreReach). k.pages) r.reach

pub pool_has : (job : Job) → IsReady job → job.reach.pages ≤ length job.pages.items
pool_has job r = let a = pool_enough job.request.call r.len in let b = r.buffers.pool in let c = pages_is job r in omega arith

pub readl_asks : (job : Job) (file function : List ℕ) (off n fuel cap : ℕ) (param : List ℕ) → job.request.call ≡ Readl file off n function fuel cap param → IsReady job → Asks job off job.readable param
readl_asks job file function off n fuel cap param is r =
    let h : HasRest job (Readl file off n function fuel cap param) = subst (HasRest job) is r.buffers.rest in
    let s = three (is_long n) (is_long cap) (is_run_long param fuel) (ap is_too_long (sym is) ∙ r.short) in
    let reach : reach_of job.reach ≡ read_reach off n r.len = r.reach ∙ ap (λ (k : Call). core_reach.reach_of k r.len) is in
    let m : job.readable ≡ min n (r.len - off) = r.readable ∙ (ap (λ (k : Call). readable_in k (reach_of job.reach) r.len) is ∙ (ap (λ (k : CoreReach). min k.end r.len - k.begin) reach ∙ read_long off n r.len)) in
    let pages : job.reach.pages ≡ (read_reach off n r.len).pages = ap (λ (k : CoreReach). k.pages) reach in
    record {
      there = ap is_some h.0.regions.is;
      has = h.0.regions;
      short = param_of_short param fuel s.2;
      fits = λ l. let f = has_fits (read_reach off n r.len) off (min n (r.len - off)) (read_has off n r.len) (omega arith) in omega arith;
      pages = pool_has job r;
      flat = let c = long_of cap s.1 in let d = h.1 in omega arith;
    }

pub writel_asks : (job : Job) (file function : List ℕ) (off n fuel : ℕ) (param input : List ℕ) → job.request.call ≡ Writel file off n function fuel param input → IsReady job → Asks job off n param × (n ≤ 262144) × (job.reach.pages ≤ length job.second.items)
writel_asks job file function off n fuel param input is r =
    let h : HasRest job (Writel file off n function fuel param input) = subst (HasRest job) is r.buffers.rest in
    let s = three (is_long n) (is_long (length input)) (is_run_long param fuel) (ap is_too_long (sym is) ∙ r.short) in
    let reach : reach_of job.reach ≡ write_reach off n r.len = r.reach ∙ ap (λ (k : Call). core_reach.reach_of k r.len) is in
    let pages : job.reach.pages ≡ (write_reach off n r.len).pages = ap (λ (k : CoreReach). k.pages) reach in (
      record {
        there = ap is_some h.0.regions.is;
        has = h.0.regions;
        short = param_of_short param fuel s.2;
        fits = λ l. let f = has_fits (write_reach off n r.len) off n (write_has off n r.len) l in omega arith;
        pages = pool_has job r;
        flat = let c = long_of (length input) s.1 in let d = ap (λ (x : List ℕ). length x) h.1 in omega arith;
      },
      long_of n s.0,
      let a = write_pool off n r.len in let b = h.2 in omega arith,
    )

-- ---- what a run gives

was_some : {A : Type 0} (f : Outcome → A) (o : Option Outcome) (x : A) → option_map f o ≡ Some x → o ≢ None
was_some f None x e n = cc
was_some f (Some r) x e n = cc

pub readl_gives : (old new : Job) (file function : List ℕ) (off n fuel cap : ℕ) (param : List ℕ) → old.request.call ≡ Readl file off n function fuel cap param → SameButRun old new → old.ran ≡ None → IsReady old →
    option_map (λ (r : Outcome). outcome_of r new.flat) new.ran ≡ Some (machine.run old.code.insns (machine.shaped (paged_bytes (page_in old.pages.items) (off % 4096) old.readable) old.flat param) fuel) →
    (given new ≡ Some (run_on old.request.call old.code.insns old.readable (page_in old.pages.items))) × (new.ran ≢ None)
readl_gives old new file function off n fuel cap param is s fresh r ran =
    let h : HasRest old (Readl file off n function fuel cap param) = subst (HasRest old) is r.buffers.rest in
    let q : new.request.call ≡ Readl file off n function fuel cap param = ap (λ (x : Request). x.call) s.request ∙ is in (
      ap (λ (k : Call). option_map (λ (r : Outcome). outcome_of r (put_out new k)) new.ran) q
          ∙ (ran ∙ (ap (λ (o : List ℕ). Some (machine.run old.code.insns (machine.shaped (paged_bytes (page_in old.pages.items) (off % 4096) old.readable) o param) fuel)) (h.2 fresh)
          ∙ ap (λ (k : Call). Some (run_on k old.code.insns old.readable (page_in old.pages.items))) (sym is))),
      was_some (λ (r : Outcome). outcome_of r new.flat) new.ran _ ran,
    )

pub writel_gives : (old new : Job) (file function : List ℕ) (off n fuel : ℕ) (param input : List ℕ) → old.request.call ≡ Writel file off n function fuel param input → SameButRun old new → IsReady old →
    option_map (λ (r : Outcome). outcome_of r (span_part new.second.items (off % 4096) n)) new.ran ≡ Some (machine.run old.code.insns (machine.shaped old.flat (paged_bytes (page_in old.pages.items) (off % 4096) n) param) fuel) →
    given new ≡ Some (run_on old.request.call old.code.insns old.readable (page_in old.pages.items))
writel_gives old new file function off n fuel param input is s r ran =
    let h : HasRest old (Writel file off n function fuel param input) = subst (HasRest old) is r.buffers.rest in
    let q : new.request.call ≡ Writel file off n function fuel param input = ap (λ (x : Request). x.call) s.request ∙ is in
    ap (λ (k : Call). option_map (λ (r : Outcome). outcome_of r (put_out new k)) new.ran) q
    ∙ (ran ∙ (ap (λ (i : List ℕ). Some (machine.run old.code.insns (machine.shaped i (paged_bytes (page_in old.pages.items) (off % 4096) n) param) fuel)) h.1
    ∙ ap (λ (k : Call). Some (run_on k old.code.insns old.readable (page_in old.pages.items))) (sym is)))

-- bytes that are those of pages, one by one
pub bytes_paged : (pages : List Page) (xs : List ℕ) (start n : ℕ) → length xs ≡ n → ((k : ℕ) → k < n → get_or xs k 0 ≡ byte_in pages (start + k)) → xs ≡ paged_bytes (page_in pages) start n
bytes_paged pages xs start n long same =
    let f = λ (j : ℕ). byte_in pages (start + j) in
    let z = length_fn n f in
    ext_get_or 0 xs (paged_bytes (page_in pages) start n) (long ∙ sym z) (λ k l. let m : k < n = omega arith in same k m ∙ sym (get_fn n f k m))
