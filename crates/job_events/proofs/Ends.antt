-- How a call ends: with a mark, as a `sync`, and as a data call whose job is finished.
use Rattle.std.proofs.Common.{inr, map, ◌≡◌, ℕ, ◌+◌, ◌<◌, ◌≤◌, Bool, true, false, List, length, Option, Some, None, refl, sym, ap, ◌∙◌, subst, arith, unwrap_or, ⊎_elim}
use Rattle.std.specs.Prelude.{◌⊎◌, ◌&&◌, is_some, option_map}
use Rattle.name_table.specs.declared.files.FileRec.{FileRec}
use Rattle.flash_die.specs.Dies.{DieView}
use Rattle.sbpf_insn.specs.Machine as machine
use Rattle.sbpf_exec.specs.declared.interpreter.Outcome.{Outcome}
use Rattle.sbpf_exec.specs.Outcomes as exec
use Rattle.plain_files.specs.declared.calls.Call.{Call}
use Rattle.plain_files.specs.declared.calls.Call.TheVariants.{Readl, Writel, Sync}
use Rattle.plain_files.specs.declared.calls.Reply.TheVariants.{Fault, Done}
use Rattle.plain_files.specs.declared.calls.Request.{Request}
use Rattle.plain_files.specs.Plain.{State, Answered, effect, or_refusal, answer}
use Rattle.core_state.specs.State.{File, Names, Flight, Phase, Held, Queued, Running, Reported, Claim, Core, Reach}
use Rattle.core_state.specs.Dies.{IsResult}
use Rattle.core_state.specs.Hold.{len_for}
use Rattle.core_state.specs.Reach as core_reach
use Rattle.core_state.specs.Reach.{len_or_none, is_sync, is_data, is_lambda, is_exclusive}
use Rattle.core_state.specs.PlainOf.{plain, outcome_of, used_of, fuel_of, has_stored, bytes_by_id, page_at}
use Rattle.core_state.specs.InFlight.{claim_of}
use Rattle.core_state.specs.Coherent.{Coherent}
use Rattle.core_state.specs.PageEvents.{no_flight, flight_at}
use Rattle.core_state.specs.EndEvent.{is_reported, has_changed}
use Rattle.core_solo.proofs.Flights.{sync_is_held}
use Rattle.system_state.specs.Cores.{core_of, file_of}
use Rattle.system_state.specs.Kept as kept
use Rattle.system_state.specs.Stands.{IsStanding}
use Rattle.system_state.specs.declared.state.State.{State as SystemState}
use Rattle.system_state.proofs.Standing.{stands_coherent}
use Rattle.call_checks.specs.Checks.{row_for, len_or}
use Rattle.system_state.specs.Jobs.{view_of}
use Rattle.span_bytes.specs.Spans.{page_in}
use Rattle.system_ends.specs.Landed.{Stores, IsAway}
use Rattle.call_answers.specs.Ends.{EndsAs}
use Rattle.call_answers.proofs.Found.{answer_is}
use Rattle.call_job.specs.Suits.{put_out, given, HasResult, Suits}
use Rattle.call_job.specs.declared.job.Job.{Job}
use Rattle.call_job.specs.declared.storing.Finished.{Finished}
use Rattle.call_job.proofs.Pools.{pool_enough}
use Rattle.job_events.specs.Ended.{CanEnd, EndsWith, HasTables}
use Rattle.job_events.proofs.Found.{len_found}

-- ---- a `sync`

not_lambda : (call : Call) → is_sync call ≡ true → is_lambda call ≡ false
not_lambda (Readl file off n function fuel cap param) e = absurd (cc)
not_lambda (Writel file off n function fuel param input) e = absurd (cc)
not_lambda call e = refl

sync_done : (s : State) (call : Call) → is_sync call ≡ true → (or_refusal s (effect s call)).reply ≡ Done
sync_done s Sync e = refl
sync_done s call e = absurd (cc)

sync_shares : (call : Call) (len : ℕ) → is_sync call ≡ true → is_exclusive (core_reach.reach_of call len).mode ≡ false
sync_shares Sync len e = refl
sync_shares call len e = absurd (cc)

-- a call in flight is a data call, or a `sync`
pub is_either : (c : Core) (lane : ℕ) (call : Flight) → Coherent c → c.calls lane ≡ Some call → is_data call.claim.request.call ≡ false → is_sync call.claim.request.call ≡ true
is_either c lane call h flies other = ⊎_elim (λ d. absurd (cc)) (λ s. s) (h.in_flight.right lane call.claim (ap claim_of flies)).kind

-- ---- the end of a call

module _ (c : Core) (lane : ℕ) (job : Job) (h : Coherent c) (e : CanEnd c lane job) where
  pub here : flight_at c.calls lane ≡ e.call
  here = ap (λ (o : Option Flight). unwrap_or o no_flight) e.flies

  -- the job has the pages of its call's span
  pub has_pages : e.call.claim.reach.pages ≤ length job.pages.items
  has_pages =
      let r = e.suits.ready in
      let a : e.call.claim.reach.pages ≡ (core_reach.reach_of job.request.call r.len).pages = ap (λ (k : Reach). k.pages) (sym e.suits.reach ∙ r.reach) in
      let b = pool_enough job.request.call r.len in
      let d = r.buffers.pool in
      omega arith

  pub taken_back : (i : ℕ) (p : List ℕ) → i < (flight_at c.calls lane).claim.reach.pages → (flight_at c.calls lane).gathered i ≡ Some p → page_in job.pages.items i ≡ p
  taken_back = subst (λ (f : Flight). (i : ℕ) (p : List ℕ) → i < f.claim.reach.pages → f.gathered i ≡ Some p → page_in job.pages.items i ≡ p) (sym here) e.suits.gathered

  many_here : (pages : List (List ℕ)) → e.call.claim.reach.pages ≤ length pages → (flight_at c.calls lane).claim.reach.pages ≤ length pages
  many_here pages = subst (λ (f : Flight). f.claim.reach.pages ≤ length pages → (flight_at c.calls lane).claim.reach.pages ≤ length pages) here (λ l. l)

  -- a call with a mark ends with a fault, and its pages go back
  pub mark_ends : (end : Finished) → (c.lanes lane).mark ≡ true → end.ending.reply ≡ Fault → EndsWith c lane job.request end job.pages.items
  mark_ends end mark reply = record {
    may = record { call = e.call; flies = e.flies; request_is = e.suits.request; at_end = e.at_end; marked = λ m. reply; unmarked = λ u. absurd (cc) };
    stores = λ u. absurd (cc);
    many = many_here job.pages.items has_pages;
    back = λ nothing. taken_back;
    used = λ u. absurd (cc);
  }

  -- without a mark
  module _ (mark : (c.lanes lane).mark ≡ false) where
    pub data_ends : (end : Finished) (pages : List (List ℕ)) → EndsAs c e.call end.ending.reply end.len pages → e.call.claim.reach.pages ≤ length pages →
        (is_lambda e.call.claim.request.call ≡ true → end.ending.used ≡ used_of (outcome_of (plain c) e.call.claim.request.call) (fuel_of e.call.claim.request.call)) → EndsWith c lane job.request end pages
    data_ends end pages ends many used = record {
      may = record { call = e.call; flies = e.flies; request_is = e.suits.request; at_end = e.at_end; marked = λ m. absurd (cc); unmarked = λ u. record { all = e.all mark; synced = e.synced mark; reply_is = ends.reply_is } };
      stores = λ u. subst Stored (sym here) stored;
      many = many_here pages many;
      back = λ nothing. subst Back (sym here) back nothing;
      used = λ u. subst (λ (f : Flight). is_lambda f.claim.request.call ≡ true → end.ending.used ≡ used_of (outcome_of (plain c) f.claim.request.call) (fuel_of f.claim.request.call)) (sym here) used;
    }
      where
        Stored : Flight → Type 0
        Stored f = has_changed f end.ending.reply ≡ true → Stores c lane end.ending.reply end.len pages

        stored : has_changed e.call end.ending.reply ≡ true → Stores c lane end.ending.reply end.len pages
        stored changed =
            let l = ends.stores changed in
            record {
              mark = mark;
              stored = subst (λ (f : Flight). has_changed f end.ending.reply ≡ true) (sym here) changed;
              len_is = subst (λ (f : Flight). end.len ≡ length (bytes_by_id (answer (plain c) f.claim.request.call).state f.claim.file)) (sym here) l.len_is;
              many = many_here pages many;
              pages_are = subst (λ (f : Flight). (i : ℕ) → i < f.claim.reach.pages → page_in pages i ≡ page_at (bytes_by_id (answer (plain c) f.claim.request.call).state f.claim.file) (f.claim.reach.first + i)) (sym here) l.pages_are;
            }

        Back : Flight → Type 0
        Back f = ((c.lanes lane).mark ≡ true) ⊎ (has_changed f end.ending.reply ≡ false) → (i : ℕ) (p : List ℕ) → i < f.claim.reach.pages → f.gathered i ≡ Some p → page_in pages i ≡ p

        back : ((c.lanes lane).mark ≡ true) ⊎ (has_changed e.call end.ending.reply ≡ false) → (i : ℕ) (p : List ℕ) → i < e.call.claim.reach.pages → e.call.gathered i ≡ Some p → page_in pages i ≡ p
        back nothing = ⊎_elim (λ (m : (c.lanes lane).mark ≡ true). absurd (cc)) ends.back nothing

    -- a `sync` ends, and has stored nothing
    pub sync_ends : (end : Finished) → is_sync e.call.claim.request.call ≡ true → end.ending.reply ≡ Done → EndsWith c lane job.request end job.pages.items
    sync_ends end sync reply =
        let right = h.in_flight.right lane e.call.claim (ap claim_of e.flies) in
        let shared : is_exclusive e.call.claim.reach.mode ≡ false = ap (λ (k : Claim). is_exclusive k.reach.mode) right.same ∙ sync_shares e.call.claim.request.call _ sync in
        let none : has_changed e.call end.ending.reply ≡ false = ap (λ (t : Bool). t && has_stored end.ending.reply) shared in
        data_ends end job.pages.items
        (record {
          reply_is = reply ∙ sym (ap (λ (x : Answered). x.reply) (answer_is c lane e.call h e.flies) ∙ sync_done (plain c) e.call.claim.request.call sync);
          stores = λ changed. absurd (cc);
          back = λ kept i p l g. e.suits.gathered i p l g;
        }) has_pages (λ l. absurd (let k = not_lambda e.call.claim.request.call sync in cc))

-- ---- what the tables tell of a call in flight

-- the length of its file
pub len_told : (files : List FileRec) (names : Names) (call : Flight) (job : Job) (len : ℕ) → names.files ≡ map file_of files → job.request ≡ call.claim.request → len ≡ len_or (row_for files job.request.call) → len ≡ len_for names call.claim
len_told files names call job len files_are asks is =
    is ∙ (ap (λ (q : Request). len_or (row_for files q.call)) asks ∙ (sym (len_found files call.claim.request.call) ∙ ap (λ (fs : List File). len_or_none (core_reach.file_for fs call.claim.request.call)) (sym files_are)))

-- it is a data call, if it is no `sync`
pub data_told : (c : Core) (lane : ℕ) (job : Job) → Coherent c → CanEnd c lane job → is_sync job.request.call ≡ false → is_data job.request.call ≡ true
data_told c lane job h e other =
    let kind = (h.in_flight.right lane e.call.claim (ap claim_of e.flies)).kind in
    ap (λ (q : Request). is_data q.call) e.suits.request
    ∙ ⊎_elim (λ d. d) (λ s. let z : is_sync e.call.claim.request.call ≡ false = ap (λ (q : Request). is_sync q.call) (sym e.suits.request) ∙ other in absurd (cc)) kind

-- and its function has run
ran_there : (job : Job) (o : machine.Outcome) → given job ≡ Some o → is_some job.ran ≡ true
ran_there job o g = go job.ran g
  where
    go : (x : Option Outcome) → option_map (λ (r : Outcome). exec.outcome_of r (put_out job job.request.call)) x ≡ Some o → is_some x ≡ true
    go None q = absurd (cc)
    go (Some r) q = refl

pub run_told : (c : Core) (lane : ℕ) (job : Job) → Coherent c → CanEnd c lane job → (c.lanes lane).mark ≡ false → is_lambda job.request.call ≡ true → is_some job.ran ≡ true
run_told c lane job h e mark l = ran_there job (outcome_of (plain c) e.call.claim.request.call) (e.ran h mark (ap (λ (q : Request). is_lambda q.call) (sym e.suits.request) ∙ l))

-- ---- a reported call

pub can_collect : {D : Type 0} (seen : D → DieView) (s : SystemState D Job) (lane : ℕ) (job : Job) → IsStanding seen Suits s → (a : IsAway (core_of seen s) lane) → is_reported (flight_at (core_of seen s).calls lane).phase ≡ true →
    Suits job (view_of (core_of seen s).names (flight_at (core_of seen s).calls lane)) → CanEnd (core_of seen s) lane job
can_collect {D} seen s lane job st a reported suits = record {
  call = a.call;
  flies = a.flies;
  at_end = inr rep;
  suits = suit;
  all = λ m. st.stands.kept.reported.all lane a.call a.flies (kept_reported a.call.phase rep) m;
  synced = λ m sync. absurd (let z = (sync_is_held c lane a.call h a.flies sync).1 in a.not_held z);
  ran = λ k m l. has_result a.call.phase rep (h.gathered.results lane a.call a.flies m) suit.result;
}
  where
    c : Core
    c = core_of seen s

    h : Coherent (core_of seen s)
    h = stands_coherent seen Suits s st.o st.h st.stands

    at : flight_at (core_of seen s).calls lane ≡ a.call
    at = ap (λ (o : Option Flight). unwrap_or o no_flight) a.flies

    rep : is_reported a.call.phase ≡ true
    rep = sym (ap (λ (f : Flight). is_reported f.phase) at) ∙ reported

    suit : Suits job (view_of (core_of seen s).names a.call)
    suit = subst (λ (f : Flight). Suits job (view_of (core_of seen s).names f)) at suits

    kept_reported : (p : Phase) → is_reported p ≡ true → kept.is_reported p ≡ true
    kept_reported Held e = absurd (cc)
    kept_reported Queued e = absurd (cc)
    kept_reported (Running w) e = absurd (cc)
    kept_reported (Reported r) e = refl

    some_result : (x : Option machine.Outcome) (o : machine.Outcome) → x ≡ Some o → HasResult job (Reported x) → given job ≡ Some o
    some_result None o q g = absurd (cc)
    some_result (Some y) o q g = g ∙ q

    has_result : (p : Phase) → is_reported p ≡ true → IsResult (plain (core_of seen s)) a.call.claim.request.call p → HasResult job p → given job ≡ Some (outcome_of (plain (core_of seen s)) a.call.claim.request.call)
    has_result Held e q g = absurd (cc)
    has_result Queued e q g = absurd (cc)
    has_result (Running w) e q g = absurd (cc)
    has_result (Reported x) e q g = some_result x (outcome_of (plain (core_of seen s)) a.call.claim.request.call) q g

pub tables_there : {D : Type 0} (seen : D → DieView) (s : SystemState D Job) (lane : ℕ) (job : Job) → IsStanding seen Suits s → CanEnd (core_of seen s) lane job → HasTables s lane
tables_there {D} seen s lane job st e =
    let l = ((stands_coherent seen Suits s st.o st.h st.stands).dies.in_turn lane e.call e.flies).0 in
    let n = st.stands.kept.lanes.count in
    record { blocks = st.stands.kept.tables.extents; lanes = omega arith }
