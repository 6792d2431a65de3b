-- Whole calls: from rest to rest, in so many events, and that each can be made.
use Rattle.std.proofs.Common.{◌≡◌, ℕ, zero, suc, ◌+◌, ◌*◌, ◌<◌, ◌≤◌, true, false, List, [], ◌∷◌, Option, Some, None, length, refl, sym, ap, ◌∙◌, subst, ⊎_elim, arith, length-append}
use Rattle.std.specs.Prelude.{◌-◌, is_some, slice_get, unwrap_or}
use Rattle.plain_files.specs.declared.calls.Request.{Request}
use Rattle.core_state.specs.declared.event.Event.{Event}
use Rattle.core_state.specs.declared.event.Event.TheVariants.{Skip}
use Rattle.core_state.specs.State.{Page, Shape, LaneState, Core}
use Rattle.core_state.specs.Coherent.{Coherent}
use Rattle.core_state.specs.Happens.{CoreRun, Happens, after}
use Rattle.core_state.specs.History.{request_of}
use Rattle.core_state.specs.Happens.{after_all}
use Rattle.core_state.specs.LaneEvents.{replied}
use Rattle.index_lists.proofs.Puts.{put-each}
use Rattle.core_solo.specs.Solo.{IsNext, IsStep, SoloCall, SoloAnswer, SoloLines, Script}
use Rattle.core_solo.specs.Alone.{OpeningFrames, HasFrames, IsEncoding, IsAlone, IsAtRest, CallEnds, dies_out}
use Rattle.core_solo.proofs.Words.{true_or_false}
use Rattle.core_solo.proofs.Goes.{goes_on}
use Rattle.core_solo.proofs.Steps.{alone_after, fits_of}
use Rattle.core_solo.specs.Left.{call_left}
use Rattle.core_solo.proofs.Costs.{falls_after}
use Rattle.core_solo.proofs.Bounds.{stepped, outs_most, call_short, run_begins}
use Rattle.core_solo.proofs.Rests.{answer_quiet, rest_alone, stage_after, steps_stay, shape_all}
use Rattle.core_stores.proofs.Folds.{run_keeps}

-- the same call, awaiting nothing
abbrev pub free : Request → Request
free asked = record { call = asked.call; awaits = None }

pub leads : (es : List Event) (c c1 : Core) → CoreRun c es c1 → c1 ≡ after_all c es
leads [] c c1 r = r
leads (e ∷ es) c c1 r = leads es (after c e) c1 r.1

pub call_rest : (encode : Core → ℕ → Page) (es : List Event) (c c1 : Core) (lane : ℕ) (asked : Request) → Coherent c → IsAtRest c → lane < c.shape.lanes → SoloCall encode c lane asked es → CoreRun c es c1 → IsAtRest c1
call_rest encode es c c1 lane asked h rest within call run =
    let parts = run_begins call.most (call.last ∷ []) c c1 (subst (λ (xs : List Event). CoreRun c xs c1) call.whole run) in
    let at = after_all c call.most in
    let k = stepped encode call.most c at lane (free asked) asked h (rest_alone c lane (free asked) rest within tt) call.steps parts.0 in
    let fit = fits_of encode at lane asked call.last call.next in
    let quiet = answer_quiet call.last at lane (free asked) k.coherent k.alone fit parts.1.0 call.answers in
    subst IsAtRest (sym parts.1.1) (record {
      inside = λ l low.
          let s : (after at call.last).shape ≡ c.shape = shape_all (call.last ∷ []) at ∙ shape_all call.most c in
          stage_after call.last at lane fit l ∙ (steps_stay encode call.most c lane asked call.steps l ∙ rest.inside l (subst (λ (w : Shape). l < w.lanes) s low));
      still = quiet.still;
      home = quiet.home;
    })

skip_rest : (c : Core) (lane : ℕ) (asked : Request) → IsAtRest c → IsAtRest (after c (Skip lane asked false))
skip_rest c lane asked rest = record {
  inside = λ l low. put-each (λ (k : ℕ) (w : LaneState). w.stage ≡ (c.lanes k).stage) c.lanes lane (replied (c.lanes lane)) refl (λ k d. refl) l ∙ rest.inside l low;
  still = rest.still;
  home = rest.home;
}

pub answer_rest : (encode : Core → ℕ → Page) (es : List Event) (c c1 : Core) (lane : ℕ) (asked : Request) → OpeningFrames c.shape → Coherent c → IsAtRest c → lane < c.shape.lanes → SoloAnswer encode c lane asked es → CoreRun c es c1 → IsAtRest c1 × (length es ≤ 4096)
answer_rest encode es c c1 lane asked f h rest within answered run = ⊎_elim
    (λ (starved : es ≡ Skip lane asked false ∷ []).
    let r = subst (λ (xs : List Event). CoreRun c xs c1) starved run in
    let l = ap length starved in
    (subst IsAtRest (sym r.1) (skip_rest c lane asked rest), omega arith))
    (λ (call : SoloCall encode c lane asked es).
    let k = call_short encode es c c1 lane (free asked) asked f h (rest_alone c lane (free asked) rest within tt) (rest.still lane) call run in
    (call_rest encode es c c1 lane asked h rest within call run, omega arith)) answered

-- ---- each call can be made

prepended : (encode : Core → ℕ → Page) (c : Core) (lane : ℕ) (request : Request) (e : Event) → IsStep encode lane request c e → Happens c e (after c e) → CallEnds encode (after c e) lane request → CallEnds encode c lane request
prepended encode c lane request e step s k = record {
  events = e ∷ k.events;
  call = record {
    most = e ∷ k.call.most;
    last = k.call.last;
    whole = ap (λ (xs : List Event). e ∷ xs) k.call.whole;
    steps = (step, k.call.steps);
    next = k.call.next;
    answers = k.call.answers;
  };
  run = (s, k.run);
}

none_of : {A : Type 0} (o : Option A) → is_some o ≡ false → o ≡ None
none_of None e = refl
none_of (Some x) e = absurd (cc)

ended_now : (encode : Core → ℕ → Page) (c : Core) (lane : ℕ) (request : Request) (e : Event) → IsNext encode lane request c e → Happens c e (after c e) → is_some (request_of e) ≡ true → CallEnds encode c lane request
ended_now encode c lane request e next s answers = record {
  events = e ∷ [];
  call = record { most = []; last = e; whole = refl; steps = tt; next = next; answers = answers };
  run = (s, refl);
}

pub ends_in : (n : ℕ) (encode : Core → ℕ → Page) (c : Core) (lane : ℕ) (request : Request) → IsEncoding encode → HasFrames c.shape → Coherent c → IsAlone c lane request → call_left c lane + 1 ≤ n + dies_out c → CallEnds encode c lane request
ends_in zero encode c lane request whole frames h alone l =
    let g = goes_on encode c lane request whole frames h alone in
    ⊎_elim (λ answers. ended_now encode c lane request g.event g.next g.happens answers)
    (λ no.
    let none = none_of (request_of g.event) no in
    let fit = fits_of encode c lane request g.event g.next in
    let a2 = alone_after g.event c lane request h alone fit g.happens none in
    let less = falls_after g.event c lane request h alone fit g.happens none in
    let h2 = run_keeps c (after c g.event) (g.event ∷ []) h (g.happens, refl) in
    let most = outs_most (after c g.event) lane request h2 a2 in
    absurd (omega arith)) (true_or_false (is_some (request_of g.event)))
ends_in (suc n) encode c lane request whole frames h alone l =
    let g = goes_on encode c lane request whole frames h alone in
    ⊎_elim (λ answers. ended_now encode c lane request g.event g.next g.happens answers)
    (λ no.
    let none = none_of (request_of g.event) no in
    let fit = fits_of encode c lane request g.event g.next in
    let a2 = alone_after g.event c lane request h alone fit g.happens none in
    let less = falls_after g.event c lane request h alone fit g.happens none in
    let h2 = run_keeps c (after c g.event) (g.event ∷ []) h (g.happens, refl) in
    let f2 = subst HasFrames (sym (shape_all (g.event ∷ []) c)) frames in
    prepended encode c lane request g.event (record { next = g.next; open_still = none }) g.happens (ends_in n encode (after c g.event) lane request whole f2 h2 a2 (omega arith))) (true_or_false (is_some (request_of g.event)))

pub call_ends : (encode : Core → ℕ → Page) (c : Core) (lane : ℕ) (request : Request) → IsEncoding encode → HasFrames c.shape → Coherent c → IsAlone c lane request → CallEnds encode c lane request
call_ends encode c lane request whole frames h alone = ends_in (call_left c lane + 1) encode c lane request whole frames h alone (omega arith)

-- ---- lines

some_low : (lanes : List (List Request)) (n : ℕ) (x : List Request) → slice_get lanes n ≡ Some x → n < length lanes
some_low [] n x e = absurd (cc)
some_low (y ∷ lanes) zero x e = omega arith
some_low (y ∷ lanes) (suc n) x e = let k = some_low lanes n x e in omega arith

pub line_low : (lanes : List (List Request)) (line : ℕ × ℕ) (request : Request) → slice_get (unwrap_or (slice_get lanes line.0) []) (line.1 - 1) ≡ Some request → line.0 < length lanes
line_low lanes line request e = go (slice_get lanes line.0) refl e
  where
    go : (o : Option (List Request)) → slice_get lanes line.0 ≡ o → slice_get (unwrap_or o []) (line.1 - 1) ≡ Some request → line.0 < length lanes
    go None f g = absurd (cc)
    go (Some x) f g = some_low lanes line.0 x f

pub record HasRun (c c1 : Core) (n : ℕ) (es : List Event) : Type 0 where
  pub rest : IsAtRest c1
  pub short : length es ≤ 4096 * n

pub lines_rest : (encode : Core → ℕ → Page) (script : Script) (lines : List (ℕ × ℕ)) (es : List Event) (c c1 : Core) → OpeningFrames c.shape → length script.lanes ≡ c.shape.lanes → Coherent c → IsAtRest c → SoloLines encode c script lines es → CoreRun c es c1 → HasRun c c1 (length lines) es
lines_rest encode script [] es c c1 f wide h rest lines run =
    let r = subst (λ (xs : List Event). CoreRun c xs c1) lines run in
    let l = ap length lines in
    record { rest = subst IsAtRest (sym r) rest; short = omega arith }
lines_rest encode script (line ∷ later) es c c1 f wide h rest lines run =
    let own = lines.0 in
    let others = lines.1 in
    let parts = run_begins own others c c1 (subst (λ (xs : List Event). CoreRun c xs c1) lines.2 run) in
    let at = after_all c own in
    let asks = lines.3 in
    let s = shape_all own c in
    let within : line.0 < c.shape.lanes = subst (λ (n : ℕ). line.0 < n) wide (line_low script.lanes line asks.request asks.asks) in
    let first = answer_rest encode own c at line.0 asks.request f h rest within asks.answered parts.0 in
    let k = lines_rest encode script later others at c1 (subst OpeningFrames (sym s) f) (wide ∙ ap (λ (w : Shape). w.lanes) (sym s)) (run_keeps c at own h parts.0) first.0 lines.4 parts.1 in
    let a = first.1 in
    let b = k.short in
    let l = ap length lines.2 in
    record { rest = k.rest; short = omega (arith, length-append own others) }
