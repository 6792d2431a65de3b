-- A call that has just begun is what its job is told.
use Rattle.std.proofs.Common.{Bor, ◌≡◌, ℕ, ◌<◌, ◌≤◌, ◌^◌, true, false, List, [], get_or, Option, Some, None, refl, sym, ap, ◌∙◌, subst, arith, unwrap_or}
use Rattle.std.specs.Prelude.{is_some, IfSome, option_copied, option_map}
use Rattle.flash_die.specs.Dies.{DieView}
use Rattle.sbpf_insn.specs.Program.{Program}
use Rattle.sbpf_insn.specs.Cells.{slots}
use Rattle.plain_files.specs.declared.calls.Request.{Request}
use Rattle.plain_files.specs.Plain.{is_too_long}
use Rattle.core_state.specs.State.{Page, Names, Flight, Claim, Held}
use Rattle.core_state.specs.Reach.{is_lambda, is_exclusive, file_word, reach_of, len_or_none, file_for}
use Rattle.core_state.specs.Reach as core_reach
use Rattle.core_state.specs.Hold.{code_of, len_for}
use Rattle.core_state.specs.PlainOf.{plain}
use Rattle.core_state.specs.InFlight.{claim_of, IsRight}
use Rattle.core_state.specs.Coherent.{Coherent}
use Rattle.core_state.specs.PageEvents.{no_flight, flight_at}
use Rattle.core_hold.proofs.Stores.{end_fits}
use Rattle.core_solo.proofs.Begins.{fits}
use Rattle.system_state.specs.Cores as cores
use Rattle.system_state.specs.Cores.{core_of, flight_of}
use Rattle.system_state.specs.Jobs.{view_of}
use Rattle.system_state.specs.Stands.{IsStanding}
use Rattle.system_state.specs.declared.lanes.Call.{Call as Row}
use Rattle.system_state.specs.declared.state.State.{State}
use Rattle.system_state.proofs.Entries.{get_or-any}
use Rattle.system_state.proofs.Standing.{stands_coherent}
use Rattle.call_checks.specs.Checks.{row_for, len_or}
use Rattle.call_answers.proofs.Found.{Finds, finds}
use Rattle.call_job.specs.Prepares.{IsPrepared}
use Rattle.call_job.specs.Suits.{Suits}
use Rattle.call_job.specs.declared.job.Job.{Job}
use Rattle.job_events.specs.Armed.{code_row, HasBegun, HasJob}
use Rattle.job_events.proofs.Found.{len_found, code_found, code_there, code_short, low_end}

claim_same : (o : Option Row) (g : List (Option Page)) (call : Flight) (row : Row) → flight_of o g ≡ Some call → o ≡ Some row → call.claim ≡ cores.claim_of row.claim
claim_same None g call row e is = absurd (cc)
claim_same (Some x) g call row e is =
    let d : x ≡ row = cc in
    let f : record { claim = cores.claim_of x.claim; frame = cores.frames_of x.frames; gathered = cores.gathered_of g; phase = cores.phase_of x.phase; meta = x.meta } ≡ call = cc in
    sym (ap (λ (w : Flight). w.claim) f) ∙ ap (λ (w : Row). cores.claim_of w.claim) d

pub copied_there : {A : Type 0} (o : Option (Bor A)) → is_some o ≡ is_some (option_copied o)
copied_there None = refl
copied_there (Some x) = refl

-- the row of the lane's call, as it was read
pub row_is : {D : Type 0} (seen : D → DieView) (s : State D Job) (lane : ℕ) (job : Job) (x : Option Row) (row : Row) → IsStanding seen Suits s → HasBegun (core_of seen s) lane job → x ≡ get_or s.calls.items lane x → x ≡ Some row → get_or s.calls.items lane None ≡ Some row
row_is {D} seen s lane job x row st b read is =
    let l = ((stands_coherent seen Suits s st.o st.h st.stands).dies.in_turn lane b.call b.flies).0 in
    let n = st.stands.kept.calls.count in
    get_or-any s.calls.items lane None x (omega arith) ∙ (sym read ∙ is)

-- the lane's call, in the tables
module _ {D : Type 0} (seen : D → DieView) (s : State D Job) (lane : ℕ) (job : Job) (row : Row) (st : IsStanding seen Suits s) (b : HasBegun (core_of seen s) lane job) (is : get_or s.calls.items lane None ≡ Some row) where
  coherent : Coherent (core_of seen s)
  coherent = stands_coherent seen Suits s st.o st.h st.stands

  right : IsRight (core_of seen s).names (plain (core_of seen s)) b.call.claim
  right = coherent.in_flight.right lane b.call.claim (ap claim_of b.flies)

  pub claimed : b.call.claim ≡ cores.claim_of row.claim
  claimed = claim_same (get_or s.calls.items lane None) (get_or s.told.value.gathered lane []) b.call row b.flies is

  asks : job.request ≡ b.call.claim.request
  asks = b.prepared.request_is

  pub prepared_so : IsPrepared row.claim.request.value job
  prepared_so = subst (λ (k : Claim). IsPrepared k.request job) claimed b.prepared

  pub is_short : is_too_long job.request.call ≡ false
  is_short = ap (λ (q : Request). is_too_long q.call) asks ∙ (fits (plain (core_of seen s)) b.call.claim.request.call right.not_early).short

  pub len_now : len_for (core_of seen s).names b.call.claim ≡ len_or (row_for s.meta.names.files job.request.call)
  len_now = len_found s.meta.names.files b.call.claim.request.call ∙ ap (λ (q : Request). len_or (row_for s.meta.names.files q.call)) (sym asks)

  pub reach_now : cores.reach_of row.claim.reach ≡ reach_of job.request.call (len_or (row_for s.meta.names.files job.request.call))
  reach_now =
      sym (ap (λ (k : Claim). k.reach) claimed)
      ∙ (ap (λ (k : Claim). k.reach) right.same ∙ (ap (reach_of b.call.claim.request.call) len_now ∙ ap (λ (q : Request). reach_of q.call (len_or (row_for s.meta.names.files job.request.call))) (sym asks)))

  pub low_now : is_exclusive (cores.reach_of row.claim.reach).mode ≡ true → row.claim.reach.end ≤ 2 ^ 28
  low_now m =
      let len = len_or (row_for s.meta.names.files job.request.call) in
      let call = b.call.claim.request.call in
      let same : cores.reach_of row.claim.reach ≡ reach_of call len = reach_now ∙ ap (λ (q : Request). reach_of q.call len) asks in
      let long = λ (name : List ℕ) (w : file_word call ≡ Some name). let f : Finds (core_of seen s) b.call.claim name = finds (core_of seen s) lane b.call name coherent b.flies w in f.long ∙ (sym f.len ∙ len_now) in
      let low = low_end (plain (core_of seen s)) call len long (end_fits (plain (core_of seen s)) call right.not_early) (ap (λ r. is_exclusive r.mode) (sym same) ∙ m) in
      subst (λ r. r.end ≤ 268435456) (sym same) low

  pub lambda_now : is_some (code_row s.functions.items job.request.call) ≡ is_lambda job.request.call
  lambda_now =
      code_there s.functions.items job.request.call
      (subst (λ (q : Request). is_lambda q.call ≡ true → is_some (core_reach.function_for (core_of seen s).names.functions q.call) ≡ true) (sym asks) (coherent.locked.there lane b.call.claim (ap claim_of b.flies)).function)

  pub code_now : IfSome (code_row s.functions.items job.request.call) (λ c. slots c.insns ≤ 4096)
  code_now = code_short s.functions.items job.request.call st.stands.kept.functions.short

  -- the code that was found, and the length
  module _ (code : Option (Bor Program)) (len : ℕ) (code_is : option_copied code ≡ code_row s.functions.items job.request.call) (len_is : len ≡ len_or (row_for s.meta.names.files job.request.call)) where
    pub lambda_found : is_some code ≡ is_lambda job.request.call
    lambda_found = copied_there code ∙ (ap (λ (o : Option Program). is_some o) code_is ∙ lambda_now)

    pub code_fits : IfSome (option_copied code) (λ c. slots c.insns ≤ 4096)
    code_fits = subst (λ (o : Option Program). IfSome o (λ c. slots c.insns ≤ 4096)) (sym code_is) code_now

    pub job_is : (new : Job) → new.ran ≡ None →
        ((names : Names) (call : Flight) → call.claim ≡ cores.claim_of row.claim → call.phase ≡ Held → ((i : ℕ) → i < call.claim.reach.pages → call.gathered i ≡ None) →
        code_of (core_reach.function_for names.functions job.request.call) ≡ option_map (λ c. c.insns) (option_copied code) → len_for names call.claim ≡ len → Suits new (view_of names call)) →
        HasJob (core_of seen s) lane new
    job_is new fresh armed =
        let at : flight_at (core_of seen s).calls lane ≡ b.call = ap (λ (o : Option Flight). unwrap_or o no_flight) b.flies in
        record {
          suits = subst (λ (f : Flight). Suits new (view_of (core_of seen s).names f)) (sym at)
              (armed (core_of seen s).names b.call claimed b.held (λ i l. b.none i) (code_found s.functions.items job.request.call ∙ ap (option_map (λ (c : Program). c.insns)) (sym code_is)) (len_now ∙ sym len_is));
          fresh = fresh;
        }
