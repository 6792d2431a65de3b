-- What the calls over a desk say of a call of a lane of a crew.
use Rattle.std.proofs.Common.{◌≡◌, ℕ, Bool, false, List, [], ◌∷◌, ◌++◌, Option, Some, None, refl, sym, ap, ◌∙◌, subst, ⊎_elim, eq-eqb}
use Rattle.std.specs.Prelude.{Result, Ok, Err, unwrap_or, if◌then◌else◌}
use Rattle.std.specs.declared.snapshot.Snapshot.{Snapshot}
use Rattle.turn_cell.specs.declared.view.View.{View}
use Rattle.turn_cell.specs.declared.pass.Worn.{Worn}
use Rattle.flash_die.specs.Dies.{DieView}
use Rattle.plain_files.specs.declared.calls.Call.{Call}
use Rattle.plain_files.specs.declared.calls.Numbered.{Numbered}
use Rattle.plain_files.specs.declared.calls.Reply.{Reply}
use Rattle.plain_files.specs.declared.calls.Reply.TheVariants.{NoMemory, Fault}
use Rattle.plain_files.specs.declared.calls.Request.{Request}
use Rattle.plain_files.specs.History.{Entry}
use Rattle.core_state.specs.declared.actor.Actor.TheVariants.{Lane}
use Rattle.core_state.specs.declared.event.Event.{Event}
use Rattle.core_state.specs.declared.event.Event.TheVariants.{Quick, Skip, End}
use Rattle.core_state.specs.State.{Core}
use Rattle.core_state.specs.History.{request_of, entry_of, and_then, calls_of}
use Rattle.system_state.specs.Cores.{core_of}
use Rattle.system_state.specs.declared.state.State.{State}
use Rattle.desk_turns.specs.Making.{AreOf}
use Rattle.desk_turns.specs.Passing.{Does}
use Rattle.lane_history.specs.Lanes.{Asked, asked_by, with_asked, requests_in}
use Rattle.lambda_calls.proofs.DataWhole.{last_ends}
use Rattle.lambda_calls.specs.Answers.{HasReplied as HasRun, CallSays as LambdaCallSays}
use Rattle.lambda_calls.specs.Calls.{IsEndedBy, QuickCallSays, SkipCallSays}
use Rattle.lambda_calls.specs.DataAnswers.{HasReplied as HasAnswered, DataSays}
use Rattle.sync_calls.specs.Sync.{SyncCallSays}
use Rattle.drive_worker.specs.Serving.{LoopSays}
use Rattle.crews.specs.Calls.{HasReplied, CallSays, WorkSays}

-- ---- which requests a lane ended

none_first : (x : Option Entry) (cs : List Entry) → and_then x cs ≡ [] → (x ≡ None) × (cs ≡ [])
none_first None cs p = (refl, p)
none_first (Some x) cs p = absurd (cc)

asks_none : (e : Event) → entry_of e ≡ None → asked_by e ≡ None
asks_none (Quick lane request reply) p = absurd (cc)
asks_none (Skip lane request fault) p = absurd (cc)
asks_none (End lane request reply) p = absurd (cc)
asks_none _ p = refl

silent_asks : (l : ℕ) (es : List Event) → calls_of es ≡ [] → requests_in l es ≡ []
silent_asks l [] p = refl
silent_asks l (e ∷ es) p =
    let n = none_first (entry_of e) (calls_of es) p in
    ap (λ (o : Option Asked). with_asked l o (requests_in l es)) (asks_none e n.0) ∙ silent_asks l es n.1

asks_on : (l : ℕ) (es fs : List Event) → calls_of es ≡ [] → requests_in l (es ++ fs) ≡ requests_in l fs
asks_on l [] fs p = refl
asks_on l (e ∷ es) fs p =
    let n = none_first (entry_of e) (calls_of es) p in
    ap (λ (o : Option Asked). with_asked l o (requests_in l (es ++ fs))) (asks_none e n.0) ∙ asks_on l es fs n.1

own_asks : (l : ℕ) (request : Request) (rs : List Request) → with_asked l (Some (record { lane = l; request = request })) rs ≡ request ∷ rs
own_asks l request rs = ap (λ (b : Bool). if b then request ∷ rs else rs) (eq-eqb l l refl)

abbrev whole : Entry → Option Entry
whole x = Some x

abbrev told : Asked → Option Asked
told x = Some x

asked_pair : (k lane : ℕ) (r request : Request) (a b : Reply) (call : Call) → whole (record { lane = k; call = r.call; reply = a }) ≡ whole (record { lane = lane; call = call; reply = b }) → Some r ≡ Some request → told (record { lane = k; request = r }) ≡ told (record { lane = lane; request = request })
asked_pair k lane r request a b call p q =
    let x : Entry = record { lane = lane; call = call; reply = b } in
    let l : k ≡ lane = ap (λ (o : Option Entry). (unwrap_or o x).lane) p in
    let s : r ≡ request = ap (λ (o : Option Request). unwrap_or o request) q in
    λ i. Some (record { lane = l i; request = s i })

-- the event ends a call of this lane, for this request
asked_as : (e : Event) (lane : ℕ) (call : Call) (reply : Reply) (request : Request) → entry_of e ≡ Some (record { lane = lane; call = call; reply = reply }) → request_of e ≡ Some request → asked_by e ≡ Some (record { lane = lane; request = request })
asked_as (Quick k r answer) lane call reply request p q = asked_pair k lane r request answer reply call p q
asked_as (Skip k r fault) lane call reply request p q = asked_pair k lane r request (if fault then Fault else NoMemory) reply call p q
asked_as (End k r answer) lane call reply request p q = asked_pair k lane r request answer reply call p q
asked_as _ lane call reply request p q = absurd (cc)

-- events of which the last alone ends a call, of this lane
ends_on : (es before : List Event) (last : Event) (lane : ℕ) (request : Request) → es ≡ before ++ last ∷ [] → calls_of before ≡ [] → asked_by last ≡ Some (record { lane = lane; request = request }) → requests_in lane es ≡ request ∷ []
ends_on es before last lane request are silent asked =
    ap (λ (xs : List Event). requests_in lane xs) are ∙ (asks_on lane before (last ∷ []) silent ∙ (ap (λ (o : Option Asked). with_asked lane o []) asked ∙ own_asks lane request []))

none_made : (lane : ℕ) (es : List Event) → es ≡ [] → AreOf (Lane lane) es × (requests_in lane es ≡ [])
none_made lane es p = (subst (AreOf (Lane lane)) (sym p) tt, ap (λ (xs : List Event). requests_in lane xs) p)

module _ {D J : Type 0} (seen : D → DieView) where
  abbrev C : State D J → Core
  C = core_of seen

  -- ---- calls that one event ends

  quick_replied : (o : Snapshot (State D J)) (v w : View (Snapshot (State D J)) Event) (lane : ℕ) (request : Request) (reply : Reply) (es : List Event) → IsEndedBy seen o v w lane (Quick lane request reply) es → HasReplied C o w lane request reply es
  quick_replied o v w lane request reply es p =
      record {
        of = subst (AreOf (Lane lane)) (sym p.are) (refl, tt);
        asked = ap (λ (xs : List Event). requests_in lane xs) p.are ∙ own_asks lane request [];
        calls = ap calls_of p.are;
        after = p.after;
      }

  skip_replied : (o : Snapshot (State D J)) (v w : View (Snapshot (State D J)) Event) (lane : ℕ) (request : Request) (reply : Reply) (es : List Event) → IsEndedBy seen o v w lane (Skip lane request false) es → reply ≡ NoMemory → HasReplied C o w lane request reply es
  skip_replied o v w lane request reply es p none =
      record {
        of = subst (AreOf (Lane lane)) (sym p.are) (refl, tt);
        asked = ap (λ (xs : List Event). requests_in lane xs) p.are ∙ own_asks lane request [];
        calls = ap calls_of p.are ∙ ap (λ (r : Reply). record { lane = lane; call = request.call; reply = r } ∷ []) (sym none);
        after = p.after;
      }

  quick_told : (o : Snapshot (State D J)) (v w : View (Snapshot (State D J)) Event) (lane : ℕ) (request : Request) (r : Result Numbered Worn) (es : List Event) → QuickCallSays seen o v w lane request r es → CallSays C o w lane request r es
  quick_told o v w lane request (Ok n) es p = quick_replied o v w lane request n.reply es p.0
  quick_told o v w lane request (Err x) es p = none_made lane es p

  skip_told : (o : Snapshot (State D J)) (v w : View (Snapshot (State D J)) Event) (lane : ℕ) (request : Request) (r : Result Numbered Worn) (es : List Event) → SkipCallSays seen o v w lane request r es → CallSays C o w lane request r es
  skip_told o v w lane request (Ok n) es p = skip_replied o v w lane request n.reply es p.0 p.1
  skip_told o v w lane request (Err x) es p = none_made lane es p

  pub quick_says : (o : Snapshot (State D J)) (v w : View (Snapshot (State D J)) Event) (lane : ℕ) (request : Request) (r : Result Numbered Worn) → Does v w (QuickCallSays seen o v w lane request r) → Does v w (CallSays C o w lane request r)
  quick_says o v w lane request r p = record { events = p.events; went = p.went; says = quick_told o v w lane request r p.events p.says }

  pub skip_says : (o : Snapshot (State D J)) (v w : View (Snapshot (State D J)) Event) (lane : ℕ) (request : Request) (r : Result Numbered Worn) → Does v w (SkipCallSays seen o v w lane request r) → Does v w (CallSays C o w lane request r)
  skip_says o v w lane request r p = record { events = p.events; went = p.went; says = skip_told o v w lane request r p.events p.says }

  -- ---- a `sync`

  sync_told : (o : Snapshot (State D J)) (v w : View (Snapshot (State D J)) Event) (lane : ℕ) (request : Request) (r : Result Numbered Worn) (es : List Event) → SyncCallSays seen o v w lane request r es → CallSays C o w lane request r es
  sync_told o v w lane request (Ok n) es p = record { of = p.of; asked = ends_on es p.before (End lane request n.reply) lane request p.are p.open_still refl; calls = p.one; after = p.after }
  sync_told o v w lane request (Err x) es p = (p.0.0, silent_asks lane es p.0.1)

  pub sync_says : (o : Snapshot (State D J)) (v w : View (Snapshot (State D J)) Event) (lane : ℕ) (request : Request) (r : Result Numbered Worn) → Does v w (SyncCallSays seen o v w lane request r) → Does v w (CallSays C o w lane request r)
  sync_says o v w lane request r p = record { events = p.events; went = p.went; says = sync_told o v w lane request r p.events p.says }

  -- ---- data calls

  data_replied : (o : Snapshot (State D J)) (v w : View (Snapshot (State D J)) Event) (lane : ℕ) (request : Request) (n : Numbered) (es : List Event) → HasAnswered seen o v w lane request n es → HasReplied C o w lane request n.reply es
  data_replied o v w lane request n es p =
      let x : Entry = record { lane = lane; call = request.call; reply = n.reply } in
      let s = p.found.says in
      record {
        of = p.of;
        asked = ends_on es p.before p.last lane request p.are p.open_still (asked_as p.last lane request.call n.reply request s.entry_is s.asked);
        calls = last_ends es p.before p.last x p.are p.open_still s.entry_is;
        after = p.after;
      }

  data_told : (o : Snapshot (State D J)) (v w : View (Snapshot (State D J)) Event) (lane : ℕ) (request : Request) (r : Result Numbered Worn) (es : List Event) → DataSays seen o v w lane request r es → CallSays C o w lane request r es
  data_told o v w lane request (Ok n) es p = ⊎_elim (λ s. skip_replied o v w lane request n.reply es s.0 s.1) (λ s. data_replied o v w lane request n es s) p
  data_told o v w lane request (Err x) es p = (p.of, silent_asks lane es p.open_still)

  pub data_says : (o : Snapshot (State D J)) (v w : View (Snapshot (State D J)) Event) (lane : ℕ) (request : Request) (r : Result Numbered Worn) → Does v w (DataSays seen o v w lane request r) → Does v w (CallSays C o w lane request r)
  data_says o v w lane request r p = record { events = p.events; went = p.went; says = data_told o v w lane request r p.events p.says }

  -- ---- calls with a function

  ran : (o : Snapshot (State D J)) (v w : View (Snapshot (State D J)) Event) (lane : ℕ) (request : Request) (n : Numbered) (es : List Event) → AreOf (Lane lane) es → HasRun seen o v w lane request n es → HasReplied C o w lane request n.reply es
  ran o v w lane request n es of p =
      let x : Entry = record { lane = lane; call = request.call; reply = n.reply } in
      let s = p.found.says in
      record {
        of = of;
        asked = ends_on es p.before p.last lane request p.are p.open_still (asked_as p.last lane request.call n.reply request s.entry_is s.asked);
        calls = last_ends es p.before p.last x p.are p.open_still s.entry_is;
        after = p.after;
      }

  lambda_told : (o : Snapshot (State D J)) (v w : View (Snapshot (State D J)) Event) (lane : ℕ) (request : Request) (r : Result Numbered Worn) (es : List Event) → LambdaCallSays seen (AreOf (Lane lane)) o v w lane request r es → CallSays C o w lane request r es
  lambda_told o v w lane request (Ok n) es p = ⊎_elim (λ s. skip_replied o v w lane request n.reply es s.0 s.1) (λ s. ran o v w lane request n es p.0 s) p.1
  lambda_told o v w lane request (Err x) es p = (p.0, silent_asks lane es p.1.open_still)

  pub lambda_says : (o : Snapshot (State D J)) (v w : View (Snapshot (State D J)) Event) (lane : ℕ) (request : Request) (r : Result Numbered Worn) → Does v w (LambdaCallSays seen (AreOf (Lane lane)) o v w lane request r) → Does v w (CallSays C o w lane request r)
  lambda_says o v w lane request r p = record { events = p.events; went = p.went; says = lambda_told o v w lane request r p.events p.says }

  -- ---- the work of a worker

  worked : (o : Snapshot (State D J)) (w : View (Snapshot (State D J)) Event) (worker : ℕ) (r : Result (Unit {0}) Worn) (es : List Event) → LoopSays seen o w worker r es → WorkSays C o w worker r es
  worked o w worker (Ok x) es p = (p.of, p.after.none)
  worked o w worker (Err x) es p = p.0

  pub work_says : (o : Snapshot (State D J)) (v w : View (Snapshot (State D J)) Event) (worker : ℕ) (r : Result (Unit {0}) Worn) → Does v w (LoopSays seen o w worker r) → Does v w (WorkSays C o w worker r)
  work_says o v w worker r p = record { events = p.events; went = p.went; says = worked o w worker r p.events p.says }
