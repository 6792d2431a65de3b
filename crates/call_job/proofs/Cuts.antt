-- The end of a call that sets a length.
use Rattle.std.proofs.Common.{◌≡◌, ℕ, ◌<◌, ◌≤◌, Bool, true, false, List, length, Option, Some, None, refl, sym, ap, ◌∙◌, subst, arith}
use Rattle.std.specs.Prelude.{◌==◌, ◌&&◌, ◌%◌, ◌^◌, nat_lt, not, is_some, if◌then◌else◌}
use Rattle.page_base.specs.Bytes.{cleared_from}
use Rattle.plain_files.specs.declared.calls.Call.{Call}
use Rattle.plain_files.specs.declared.calls.Call.TheVariants.{Trunc}
use Rattle.plain_files.specs.declared.calls.Reply.TheVariants.{Done}
use Rattle.plain_files.specs.declared.calls.Request.{Request}
use Rattle.core_state.specs.State.{Flight, Core, Reach as CoreReach}
use Rattle.core_state.specs.Reach as core_reach
use Rattle.core_state.specs.Reach.{is_exclusive, is_trunc, gathers, trunc_reach}
use Rattle.core_state.specs.Hold.{len_for}
use Rattle.core_state.specs.Coherent.{Coherent}
use Rattle.core_state.specs.LaneEvents.{HasGathered}
use Rattle.system_state.specs.Cores.{reach_of}
use Rattle.system_state.specs.Jobs.{view_of}
use Rattle.span_bytes.specs.Spans.{page_in}
use Rattle.call_answers.specs.Ends.{filled, has_room, EndsAs}
use Rattle.call_answers.proofs.Cutting.{cuts_end}
use Rattle.call_job.specs.Puts.{stored_reply, stored_len}
use Rattle.call_job.specs.Suits.{IsReady, Suits}
use Rattle.call_job.specs.declared.job.Job.{Job}
use Rattle.call_job.proofs.Endings.{span_pages}

pub trunc_low : (job : Job) (name : List ℕ) (n : ℕ) → job.request.call ≡ Trunc name n → IsReady job → n ≤ 2 ^ 28
trunc_low job name n is r =
    let reach : reach_of job.reach ≡ trunc_reach n r.len = r.reach ∙ ap (λ (k : Call). core_reach.reach_of k r.len) is in
    let a = r.low (ap (λ (x : CoreReach). is_exclusive x.mode) reach) in
    let b : job.reach.end ≡ n = ap (λ (x : CoreReach). x.end) reach in
    omega arith

pub record Cut (job : Job) (n len filled capacity : ℕ) (result : Option ℕ) (new : List (List ℕ)) : Type 0 where
  pub answer : result ≡ (if has_room filled capacity len n then Some n else None)
  pub none : result ≡ None → new ≡ job.pages.items
  pub cleared : is_some result ≡ true → 0 < job.reach.pages → page_in new 0 ≡ cleared_from (page_in job.pages.items 0) (n % 4096)
  pub was : is_some result ≡ true → 0 < job.reach.pages → length (page_in job.pages.items 0) ≡ 4096
  pub whole : is_some result ≡ true → 0 < job.reach.pages → length (page_in new 0) ≡ 4096

first_alone : (n len i : ℕ) → i < (trunc_reach n len).pages → i ≡ 0
first_alone n len i l = go (nat_lt n len && not (n % 4096 == 0)) l
  where
    go : (t : Bool) → i < (if t then 1 else 0) → i ≡ 0
    go true k = omega arith
    go false k = absurd (omega arith)

pub trunc_ends : (c : Core) (lane : ℕ) (call : Flight) (job : Job) (name : List ℕ) (n len fill capacity : ℕ) (result : Option ℕ) (new : List (List ℕ)) → job.request.call ≡ Trunc name n → IsReady job → Cut job n len fill capacity result new → Coherent c → c.calls lane ≡ Some call → HasGathered call → Suits job (view_of c.names call) →
    len ≡ len_for c.names call.claim → fill ≡ filled c.names.files → capacity ≡ c.shape.blocks → EndsAs c call (stored_reply result Done) (stored_len result len) new
trunc_ends c lane call job name n len fill capacity result new is r d h e all s l fl cap =
    let q : call.claim.request.call ≡ Trunc name n = ap (λ (x : Request). x.call) (sym s.request) ∙ is in
    cuts_end c lane call name n len (stored_reply result Done) (stored_len result len) job.pages.items new h e q l
    (λ i m. span_pages c lane call job i h e all s m (ap (λ (k : Call). gathers k call.claim.reach i) q)) s.gathered
    (record {
      room = λ t. let o = by true t in (ap (λ (x : Option ℕ). stored_reply x Done) o, ap (λ (x : Option ℕ). stored_len x len) o);
      full = λ t. let o = by false t in (ap (λ (x : Option ℕ). stored_reply x Done) o, d.none o);
      cleared = λ t i m.
          let o = ap is_some (by true t) in
          let z : i ≡ 0 = first_alone n r.len i (subst (λ (x : CoreReach). i < x.pages) (sym s.reach ∙ (r.reach ∙ ap (λ (k : Call). core_reach.reach_of k r.len) is)) m) in
          let some : 0 < job.reach.pages = let p : job.reach.pages ≡ call.claim.reach.pages = ap (λ (x : CoreReach). x.pages) s.reach in omega arith in
          (ap (page_in new) z ∙ (d.cleared o some ∙ ap (λ (k : ℕ). cleared_from (page_in job.pages.items k) (n % 4096)) (sym z)), ap (λ (k : ℕ). length (page_in job.pages.items k)) z ∙ d.was o some, ap (λ (k : ℕ). length (page_in new k)) z ∙ d.whole o some);
    })
  where
    by : (t : Bool) → has_room (filled c.names.files) c.shape.blocks len n ≡ t → result ≡ (if t then Some n else None)
    by t x =
        d.answer
        ∙ ap (λ (b : Bool). if b then Some n else None)
        (ap (λ (k : ℕ). has_room k capacity len n) fl ∙ (ap (λ (k : ℕ). has_room (filled c.names.files) k len n) cap ∙ x))

pub trunc_only : (call : Call) → is_trunc call ≡ true → ((name : List ℕ) (n : ℕ) → call ≡ Trunc name n → ⊥) → ⊥
trunc_only (Trunc name n) l a = a name n refl
trunc_only call l a = cc
