-- The core between two lines.
use Rattle.std.proofs.Common.{◌≡◌, ℕ, ◌+◌, ◌<◌, ◌≤◌, List, [], ◌∷◌, ◌++◌, Option, Some, None, sym, ap, ◌∙◌, subst, arith}
use Rattle.std.specs.Prelude.{◌==◌, IfSome}
use Rattle.index_lists.specs.Words.{one_if}
use Rattle.plain_files.specs.declared.calls.Reply.{Reply}
use Rattle.plain_files.specs.declared.calls.Request.{Request}
use Rattle.core_state.specs.declared.event.Event.{Event}
use Rattle.core_state.specs.State.{Shape, Core}
use Rattle.core_state.specs.Happens.{CoreRun, after_all}
use Rattle.core_state.specs.History.{calls_of}
use Rattle.core_state.proofs.Runs.{leads_to}
use Rattle.core_lemmas.proofs.Words.{same_some}
use Rattle.core_stores.proofs.Folds.{run_keeps}
use Rattle.core_solo.specs.Solo.{Script, request_at, SoloAnswer}
use Rattle.core_solo.specs.Alone.{OpeningFrames}
use Rattle.core_solo.specs.Settling.{lines_of}
use Rattle.core_solo.proofs.Rests.{shape_all}
use Rattle.core_solo.proofs.Calls.{answer_rest, line_low}
use Rattle.system_metas.specs.Encode.{encode}
use Rattle.solo_runs.specs.Line.{MayAnswer}
use Rattle.solo_runs.specs.Lines.{IsOrdered, IsBetween}
use Rattle.solo_runs.proofs.Ends.{AllClear, ends_in, run_ends_of, answer_clear}

lines_more : (l : ℕ) (before : List (ℕ × ℕ)) (line : ℕ × ℕ) → lines_of l (before ++ line ∷ []) ≡ lines_of l before + one_if (line.0 == l)
lines_more l [] line = omega arith
lines_more l (x ∷ before) line = let k = lines_more l before line in omega arith

-- a line is of a lane that is there
pub line_within : (script : Script) (before : List (ℕ × ℕ)) (line : ℕ × ℕ) (request : Request) (c : Core) → IsBetween script before c → request_at script line ≡ Some request → line.0 < c.shape.lanes
line_within script before line request c b asks = subst (λ (n : ℕ). line.0 < n) b.wide (line_low script.lanes line request asks)

-- one line more
pub between_next : (script : Script) (before : List (ℕ × ℕ)) (line : ℕ × ℕ) (request : Request) (own : List Event) (c d : Core) (reply : Reply) → IsBetween script before c → request_at script line ≡ Some request →
    SoloAnswer encode c line.0 request own → CoreRun c own d → calls_of own ≡ record { lane = line.0; call = request.call; reply = reply } ∷ [] → IsBetween script (before ++ line ∷ []) d
between_next script before line request own c d reply b asks answered run one =
    let low = line_within script before line request c b asks in
    let is = leads_to own c d run in
    let r : CoreRun c own (after_all c own) = subst (CoreRun c own) is run in
    let shape : d.shape ≡ c.shape = ap (λ (k : Core). k.shape) is ∙ shape_all own c in
    record {
      coherent = run_keeps c d own b.coherent run;
      frames = subst OpeningFrames (sym shape) b.frames;
      wide = b.wide ∙ ap (λ (s : Shape). s.lanes) (sym shape);
      rest = (answer_rest encode own c d line.0 request b.frames b.coherent b.rest low answered run).0;
      clear = subst AllClear (sym is) (answer_clear encode own c line.0 request b.coherent b.rest low b.clear answered r);
      ended = λ l.
          let a = run_ends_of own c l in
          let e : ends_in l (calls_of own) ≡ one_if (line.0 == l) + 0 = ap (ends_in l) one in
          let g = b.ended l in
          let m = lines_more l before line in
          let w : (d.lanes l).ended ≡ ((after_all c own).lanes l).ended = ap (λ (k : Core). (k.lanes l).ended) is in
          omega arith;
    }

-- ---- the next line

waits_for : (c : Core) (before : List (ℕ × ℕ)) (o : Option (ℕ × ℕ)) → ((l : ℕ) → (c.lanes l).ended ≡ lines_of l before) → IfSome o (λ awaited. awaited.1 ≤ lines_of awaited.0 before) → IfSome o (λ awaited. awaited.1 ≤ (c.lanes awaited.0).ended)
waits_for c before None e w = tt
waits_for c before (Some a) e w = let k = e a.0 in omega arith

pub may_answer : (script : Script) (before rest : List (ℕ × ℕ)) (line : ℕ × ℕ) (request : Request) (c : Core) → IsOrdered script → script.order ≡ before ++ line ∷ rest → request_at script line ≡ Some request → IsBetween script before c → MayAnswer c line.0 request
may_answer script before rest line request c ordered at asks b =
    let o = ordered.waits before rest line at in
    let same : o.request ≡ request = same_some (request_at script line) o.request request o.asks asks in
    record {
      coherent = b.coherent;
      frames = b.frames;
      rest = b.rest;
      within = line_within script before line request c b asks;
      unmarked = b.clear line.0;
      awaited = waits_for c before request.awaits b.ended (subst (λ (r : Request). IfSome r.awaits (λ awaited. awaited.1 ≤ lines_of awaited.0 before)) same o.waits);
    }

-- a request is there for each line
pub asks_of_line : (script : Script) (before rest : List (ℕ × ℕ)) (line : ℕ × ℕ) → IsOrdered script → script.order ≡ before ++ line ∷ rest → (request : Request) × (request_at script line ≡ Some request)
asks_of_line script before rest line ordered at = let o = ordered.waits before rest line at in (o.request, o.asks)
