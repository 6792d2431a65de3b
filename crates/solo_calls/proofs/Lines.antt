-- What the calls over the desk of the only pass say of a line of a script.
use Rattle.std.proofs.Common.{◌≡◌, ℕ, ◌≤◌, true, false, List, [], ◌∷◌, length, sym, ap, ◌∙◌, subst, inl, inr, ⊎_elim, arith, lit≤, length-append}
use Rattle.std.specs.Prelude.{Result, Ok, Err}
use Rattle.std.specs.declared.snapshot.Snapshot.{Snapshot}
use Rattle.turn_cell.specs.declared.view.View.{View}
use Rattle.turn_cell.specs.declared.pass.Worn.{Worn}
use Rattle.flash_die.specs.Dies.{DieView}
use Rattle.plain_files.specs.declared.calls.Numbered.{Numbered}
use Rattle.plain_files.specs.declared.calls.Reply.{Reply}
use Rattle.plain_files.specs.declared.calls.Reply.TheVariants.{NoMemory}
use Rattle.plain_files.specs.declared.calls.Request.{Request}
use Rattle.core_state.specs.declared.event.Event.{Event}
use Rattle.core_state.specs.declared.event.Event.TheVariants.{Skip}
use Rattle.core_state.specs.State.{Core}
use Rattle.core_state.specs.Happens.{after_all}
use Rattle.core_state.specs.History.{calls_of}
use Rattle.core_solo.specs.Alone.{HasFrames, OpeningFrames, IsAlone}
use Rattle.core_solo.proofs.Bounds.{steps_short}
use Rattle.core_solo.proofs.Rests.{shape_all, rest_alone}
use Rattle.turn_cell.specs.Events.{events_of}
use Rattle.system_state.specs.Cores.{core_of}
use Rattle.system_state.specs.declared.state.State.{State}
use Rattle.system_metas.specs.Encode.{encode}
use Rattle.desk_turns.specs.Passing.{core_seen, Does}
use Rattle.lambda_calls.specs.Making.{IsFree}
use Rattle.lambda_calls.specs.Cut.{IsCutOff}
use Rattle.lambda_calls.proofs.DataWhole.{last_ends}
use Rattle.lambda_calls.specs.DataAnswers.{HasReplied, DataSays}
use Rattle.lambda_calls.specs.Calls.{IsEndedBy, QuickCallSays, SkipCallSays}
use Rattle.lambda_calls.specs.Answers.{HasReplied as HasRun, CallSays}
use Rattle.sync_calls.specs.Sync.{SyncCallSays}
use Rattle.solo_runs.specs.Line.{MayAnswer, HasAnswered, LineSays}

-- ---- a lane that may be answered

pub free_of : (c : Core) (lane : ℕ) (request : Request) → MayAnswer c lane request → IsFree c lane
free_of c lane request m =
    record {
      idle = record { within = m.within; inside = m.rest.inside lane m.within; idle = m.rest.still lane };
      mark = m.unmarked;
      none = λ die out e. let h = m.rest.home die in absurd (cc);
    }

pub alone_of : (c : Core) (lane : ℕ) (request : Request) → MayAnswer c lane request → IsAlone c lane request
alone_of c lane request m = rest_alone c lane request m.rest m.within m.awaited

-- ---- how many events there are

cut_short : (c : Core) (lane : ℕ) (request : Request) (es : List Event) → MayAnswer c lane request → IsCutOff encode c lane request es → length es ≤ 4096
cut_short c lane request es m cut =
    let k = steps_short encode cut.most c (after_all c cut.most) lane request request m.frames m.coherent (alone_of c lane request m) (m.rest.still lane) cut.steps cut.run in
    let l = ap length cut.are in
    let s = cut.short in
    omega (arith, length-append cut.most cut.rest)

none_short : (es : List Event) → es ≡ [] → length es ≤ 4096
none_short es e = subst (λ (xs : List Event). length xs ≤ 4096) (sym e) (lit≤ tt)

module _ {D J : Type 0} (seen : D → DieView) where
  abbrev C : State D J → Core
  C = core_of seen

  pub frames_of : (o : Snapshot (State D J)) (v : View (Snapshot (State D J)) Event) (lane : ℕ) (request : Request) → MayAnswer (core_seen C o v) lane request → HasFrames (C o.value).shape
  frames_of o v lane request m =
      let e : (core_seen C o v).shape ≡ (C o.value).shape = shape_all (events_of v.seen) (C o.value) in
      let f : OpeningFrames (C o.value).shape = subst OpeningFrames e m.frames in
      let host = f.host in
      let drive = f.drive in
      record { host = omega arith; drive = omega arith }

  -- ---- a call that finds no memory

  skip_answered : (o : Snapshot (State D J)) (v w : View (Snapshot (State D J)) Event) (lane : ℕ) (request : Request) (n : Numbered) (es : List Event) → v.alone ≡ true → IsEndedBy seen o v w lane (Skip lane request false) es → n.reply ≡ NoMemory → HasAnswered seen o v w lane request n es
  skip_answered o v w lane request n es a p reply =
      record {
        solo = inl p.are;
        run = p.run a;
        one = ap calls_of p.are ∙ ap (λ (r : Reply). record { lane = lane; call = request.call; reply = r } ∷ []) (sym reply);
      }

  skip_line : (o : Snapshot (State D J)) (v w : View (Snapshot (State D J)) Event) (lane : ℕ) (request : Request) (r : Result Numbered Worn) (es : List Event) → v.alone ≡ true → SkipCallSays seen o v w lane request r es → LineSays seen o v w lane request r es
  skip_line o v w lane request (Ok n) es a p = skip_answered o v w lane request n es a p.0 p.1
  skip_line o v w lane request (Err x) es a p = none_short es p

  pub skip_says : (o : Snapshot (State D J)) (v w : View (Snapshot (State D J)) Event) (lane : ℕ) (request : Request) (r : Result Numbered Worn) → v.alone ≡ true → Does v w (SkipCallSays seen o v w lane request r) → Does v w (LineSays seen o v w lane request r)
  skip_says o v w lane request r a p = record { events = p.events; went = p.went; says = skip_line o v w lane request r p.events a p.says }

  -- ---- a call that needs no page

  quick_answered : (o : Snapshot (State D J)) (v w : View (Snapshot (State D J)) Event) (lane : ℕ) (request : Request) (r : Result Numbered Worn) (es : List Event) → v.alone ≡ true → QuickCallSays seen o v w lane request r es → LineSays seen o v w lane request r es
  quick_answered o v w lane request (Ok n) es a p = record { solo = inr (p.1 a); run = p.0.run a; one = ap calls_of p.0.are }
  quick_answered o v w lane request (Err x) es a p = none_short es p

  pub quick_says : (o : Snapshot (State D J)) (v w : View (Snapshot (State D J)) Event) (lane : ℕ) (request : Request) (r : Result Numbered Worn) → v.alone ≡ true → Does v w (QuickCallSays seen o v w lane request r) → Does v w (LineSays seen o v w lane request r)
  quick_says o v w lane request r a p = record { events = p.events; went = p.went; says = quick_answered o v w lane request r p.events a p.says }

  -- ---- a `sync`

  sync_answered : (o : Snapshot (State D J)) (v w : View (Snapshot (State D J)) Event) (lane : ℕ) (request : Request) (r : Result Numbered Worn) (es : List Event) → v.alone ≡ true → MayAnswer (core_seen C o v) lane request → SyncCallSays seen o v w lane request r es → LineSays seen o v w lane request r es
  sync_answered o v w lane request (Ok n) es a m p = record { solo = inr (p.solo a); run = p.run a; one = p.one }
  sync_answered o v w lane request (Err x) es a m p = p.1 a m.frames (alone_of (core_seen C o v) lane request m) (m.rest.still lane)

  pub sync_says : (o : Snapshot (State D J)) (v w : View (Snapshot (State D J)) Event) (lane : ℕ) (request : Request) (r : Result Numbered Worn) → v.alone ≡ true → MayAnswer (core_seen C o v) lane request → Does v w (SyncCallSays seen o v w lane request r) → Does v w (LineSays seen o v w lane request r)
  sync_says o v w lane request r a m p = record { events = p.events; went = p.went; says = sync_answered o v w lane request r p.events a m p.says }

  -- ---- a data call

  replied : (o : Snapshot (State D J)) (v w : View (Snapshot (State D J)) Event) (lane : ℕ) (request : Request) (n : Numbered) (es : List Event) → v.alone ≡ true → HasReplied seen o v w lane request n es → HasAnswered seen o v w lane request n es
  replied o v w lane request n es a p =
      record { solo = inr (p.solo a encode); run = p.run a; one = last_ends es p.before p.last (record { lane = lane; call = request.call; reply = n.reply }) p.are p.open_still p.found.says.entry_is }

  data_answered : (o : Snapshot (State D J)) (v w : View (Snapshot (State D J)) Event) (lane : ℕ) (request : Request) (r : Result Numbered Worn) (es : List Event) → v.alone ≡ true → MayAnswer (core_seen C o v) lane request → DataSays seen o v w lane request r es → LineSays seen o v w lane request r es
  data_answered o v w lane request (Ok n) es a m p = ⊎_elim (λ s. skip_answered o v w lane request n es a s.0 s.1) (λ s. replied o v w lane request n es a s) p
  data_answered o v w lane request (Err x) es a m p = cut_short (core_seen C o v) lane request es m (p.cut a encode)

  pub data_says : (o : Snapshot (State D J)) (v w : View (Snapshot (State D J)) Event) (lane : ℕ) (request : Request) (r : Result Numbered Worn) → v.alone ≡ true → MayAnswer (core_seen C o v) lane request → Does v w (DataSays seen o v w lane request r) → Does v w (LineSays seen o v w lane request r)
  data_says o v w lane request r a m p = record { events = p.events; went = p.went; says = data_answered o v w lane request r p.events a m p.says }

  -- ---- a call that runs a function

  ran : (o : Snapshot (State D J)) (v w : View (Snapshot (State D J)) Event) (lane : ℕ) (request : Request) (n : Numbered) (es : List Event) → v.alone ≡ true → HasRun seen o v w lane request n es → HasAnswered seen o v w lane request n es
  ran o v w lane request n es a p =
      record { solo = inr (p.solo a encode); run = p.run a; one = last_ends es p.before p.last (record { lane = lane; call = request.call; reply = n.reply }) p.are p.open_still p.found.says.entry_is }

  lambda_answered : (AreMine : List Event → Type 0) (o : Snapshot (State D J)) (v w : View (Snapshot (State D J)) Event) (lane : ℕ) (request : Request) (r : Result Numbered Worn) (es : List Event) → v.alone ≡ true → MayAnswer (core_seen C o v) lane request → CallSays seen AreMine o v w lane request r es → LineSays seen o v w lane request r es
  lambda_answered AreMine o v w lane request (Ok n) es a m p = ⊎_elim (λ s. skip_answered o v w lane request n es a s.0 s.1) (λ s. ran o v w lane request n es a s) p.1
  lambda_answered AreMine o v w lane request (Err x) es a m p = cut_short (core_seen C o v) lane request es m (p.1.cut a encode)

  pub lambda_says : (AreMine : List Event → Type 0) (o : Snapshot (State D J)) (v w : View (Snapshot (State D J)) Event) (lane : ℕ) (request : Request) (r : Result Numbered Worn) → v.alone ≡ true → MayAnswer (core_seen C o v) lane request → Does v w (CallSays seen AreMine o v w lane request r) → Does v w (LineSays seen o v w lane request r)
  lambda_says AreMine o v w lane request r a m p = record { events = p.events; went = p.went; says = lambda_answered AreMine o v w lane request r p.events a m p.says }
