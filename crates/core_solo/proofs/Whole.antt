-- A SoloRun as a whole: how long it is, and what its calls are.
use Rattle.std.proofs.Common.{◌≡◌, ℕ, zero, suc, ◌+◌, ◌*◌, ◌<◌, ◌≤◌, Bool, true, false, List, [], ◌∷◌, ◌++◌, Option, Some, None, length, refl, sym, ap, ◌∙◌, subst, ⊎_elim, arith, length-append}
use Rattle.std.specs.Prelude.{if◌then◌else◌, ◌≢◌, map}
use Rattle.std.specs.List.{range_with_len}
use Rattle.std.proofs.lemmas.List.FromFn.{length-map-range_with_len}
use Rattle.page_base.specs.Drive.{meta_pages}
use Rattle.index_lists.proofs.Counts.{same_or_not}
use Rattle.index_lists.proofs.Puts.{put-same, put-other}
use Rattle.plain_files.specs.declared.calls.Request.{Request}
use Rattle.plain_files.specs.History.{Entry}
use Rattle.core_state.specs.declared.actor.Actor.{Actor}
use Rattle.core_state.specs.declared.actor.Actor.TheVariants.{Lane, Worker, Flusher, Closer}
use Rattle.core_state.specs.declared.event.Event.{Event}
use Rattle.core_state.specs.declared.event.Event.TheVariants.{Enter, Leave, Quick, Skip, Begin, Copy, Take, DieOut, FillIn, Submit, Fetch, Report, End, Evict, Demote, FlushOut, FlushIn, MetaIn}
use Rattle.core_state.specs.declared.event.Purpose.TheVariants.{Fill, Meta}
use Rattle.core_state.specs.State.{Page, Shape, File, LaneState, Inside, Gone, Flight, Out, DieState, Core, Stage}
use Rattle.core_state.specs.Resizing.{follows}
use Rattle.core_state.specs.Coherent.{Coherent}
use Rattle.core_state.specs.PageEvents.{flight_at}
use Rattle.core_state.specs.DieEvents.{filled_by, flushed_by, stored_by, closed_by}
use Rattle.core_state.specs.EndEvent.{has_changed, ended_of, ended_by_fault, ended_plainly, ended_storing}
use Rattle.core_state.specs.Happens.{CoreRun, Happens, after}
use Rattle.core_state.specs.History.{calls_of, entry_of, and_then}
use Rattle.core_state.specs.Happens.{after_all}
use Rattle.core_solo.specs.Solo.{Steps, IsStep, SoloCall, SoloAnswer, SoloLines, Script, enters, leaves, SoloEnd, SoloSync, SyncEnds, SyncFails, IsSyncStep, IsSyncNext, SoloRun}
use Rattle.core_solo.specs.Alone.{OpeningFrames, IsAlone, IsAtRest}
use Rattle.core_solo.specs.Settling.{IsSettling, IsFresh}
use Rattle.core_solo.specs.Served.{FollowLines}
use Rattle.core_stores.proofs.Folds.{run_keeps}
use Rattle.core_solo.proofs.Bounds.{run_begins, stepped}
use Rattle.core_solo.proofs.Rests.{shape_all, rest_alone}
use Rattle.core_solo.proofs.Goes.{acting_open}
use Rattle.core_solo.proofs.Calls.{free, lines_rest, line_low, answer_rest}
use Rattle.core_solo.proofs.Closing.{at_home, sync_short, Fits, fits_of}
use Rattle.core_solo.proofs.Folds.{after_both}
use Rattle.core_solo.proofs.Asks.{calls_both, lines_follow}
use Rattle.plain_files.specs.declared.calls.Reply.{Reply}
use Rattle.plain_files.specs.Plain.{State}

-- ---- lanes come and go

pub record AreMoved (c c1 : Core) (a n : ℕ) (stage : Stage) : Type 0 where
  pub calls : c1.calls ≡ c.calls
  pub dies : c1.dies ≡ c.dies
  pub closer : c1.closer ≡ c.closer
  pub moved : (l : ℕ) → a ≤ l → l < a + n → (c1.lanes l).stage ≡ stage
  pub below : (l : ℕ) → l < a → (c1.lanes l).stage ≡ (c.lanes l).stage

pub entered_all : (n a : ℕ) (c : Core) → AreMoved c (after_all c (map (λ lane. Enter lane) (range_with_len a n))) a n Inside
entered_all zero a c = record { calls = refl; dies = refl; closer = refl; moved = λ l p q. absurd (omega arith); below = λ l p. refl }
entered_all (suc n) a c =
    let k = entered_all n (a + 1) (after c (Enter a)) in
    record {
      calls = k.calls;
      dies = k.dies;
      closer = k.closer;
      moved = λ l p q. ⊎_elim
          (λ (s : l ≡ a). k.below l (omega arith) ∙ (ap (λ (w : ℕ). ((after c (Enter a)).lanes w).stage) s ∙ ap (λ (w : LaneState). w.stage) (put-same c.lanes a (record (c.lanes a) { stage = Inside }))))
          (λ (d : l ≢ a). k.moved l (omega arith) (omega arith)) (same_or_not l a);
      below = λ l p. let d : l ≢ a = omega arith in k.below l (omega arith) ∙ ap (λ (w : LaneState). w.stage) (put-other c.lanes a (record (c.lanes a) { stage = Inside }) l d);
    }

pub left_all : (n a : ℕ) (c : Core) → AreMoved c (after_all c (map (λ lane. Leave lane) (range_with_len a n))) a n Gone
left_all zero a c = record { calls = refl; dies = refl; closer = refl; moved = λ l p q. absurd (omega arith); below = λ l p. refl }
left_all (suc n) a c =
    let k = left_all n (a + 1) (after c (Leave a)) in
    record {
      calls = k.calls;
      dies = k.dies;
      closer = k.closer;
      moved = λ l p q. ⊎_elim
          (λ (s : l ≡ a). k.below l (omega arith) ∙ (ap (λ (w : ℕ). ((after c (Leave a)).lanes w).stage) s ∙ ap (λ (w : LaneState). w.stage) (put-same c.lanes a (record (c.lanes a) { stage = Gone }))))
          (λ (d : l ≢ a). k.moved l (omega arith) (omega arith)) (same_or_not l a);
      below = λ l p. let d : l ≢ a = omega arith in k.below l (omega arith) ∙ ap (λ (w : LaneState). w.stage) (put-other c.lanes a (record (c.lanes a) { stage = Gone }) l d);
    }

-- ---- the closer's number, in the calls

followed_closer : (c : Core) (found : Option File) (s : State) → (follows c found s).closer ≡ c.closer
followed_closer c None s = refl
followed_closer c (Some f) s = refl

ended_closer : (c : Core) (lane : ℕ) (call : Flight) (reply : Reply) → (ended_of c lane call reply).closer ≡ c.closer
ended_closer c lane call reply = go (c.lanes lane).mark (has_changed call reply)
  where
    go : (t u : Bool) → (if t then ended_by_fault c lane call else (if u then ended_storing c lane call else ended_plainly c lane call)).closer ≡ c.closer
    go true u = refl
    go false true = followed_closer c _ _
    go false false = refl

-- nobody but the closer raises it
pub closer_after : (e : Event) (c : Core) (lane : ℕ) (request : Request) → IsAlone c lane request → Happens c e (after c e) → (after c e).closer ≡ c.closer
closer_after (Enter l) c lane request alone s = refl
closer_after (Leave l) c lane request alone s = refl
closer_after (Quick l asked reply) c lane request alone s = followed_closer c _ _
closer_after (Skip l asked fault) c lane request alone s = refl
closer_after (Begin l asked side) c lane request alone s = refl
closer_after (Copy actor l i) c lane request alone s = refl
closer_after (Take actor l i) c lane request alone s = refl
closer_after (DieOut actor die (Fill l i)) c lane request alone s = refl
closer_after (DieOut actor die (Meta n bytes)) c lane request alone s = refl
closer_after (FillIn actor die good) c lane request alone s = subst (λ (o : Option Out). (filled_by c die good o).closer ≡ c.closer) (sym s.may.out) refl
closer_after (Submit l) c lane request alone s = refl
closer_after (Fetch worker l) c lane request alone s = refl
closer_after (Report worker l) c lane request alone s = refl
closer_after (End l asked reply) c lane request alone s = ended_closer c l (flight_at c.calls l) reply
closer_after (Evict actor side b) c lane request alone s = refl
closer_after (Demote actor b) c lane request alone s = refl
closer_after (FlushOut actor die b) c lane request alone s = refl
closer_after (FlushIn actor die good left) c lane request alone s = subst (λ (o : Option Out). (flushed_by c actor die good left o).closer ≡ c.closer) (sym s.may.out) refl
closer_after (MetaIn actor die good left) c lane request alone s = subst (λ (o : Option Out). (stored_by c actor die good left o).closer ≡ c.closer) (sym s.may.out) (go actor (λ q. acting_open lane (c.calls lane) (sym (alone.holder die _ s.may.out) ∙ q)))
  where
    go : (a : Actor) → (a ≡ Closer → ⊥) → closed_by a good c.closer ≡ c.closer
    go (Lane l) k = refl
    go (Worker w) k = refl
    go (Flusher f) k = refl
    go Closer k = absurd (k refl)

pub closer_steps : (encode : Core → ℕ → Page) (es : List Event) (c : Core) (lane : ℕ) (request asked : Request) → Coherent c → IsAlone c lane request → Steps (IsStep encode lane asked) c es → CoreRun c es (after_all c es) → (after_all c es).closer ≡ c.closer
closer_steps encode [] c lane request asked h alone steps run = refl
closer_steps encode (e ∷ es) c lane request asked h alone steps run =
    let one = stepped encode (e ∷ []) c (after c e) lane request asked h alone (steps.0, tt) (run.0, refl) in
    closer_steps encode es (after c e) lane request asked one.coherent one.alone steps.1 run.1 ∙ closer_after e c lane request alone run.0

pub closer_answer : (encode : Core → ℕ → Page) (es : List Event) (c : Core) (lane : ℕ) (asked : Request) → Coherent c → IsAtRest c → lane < c.shape.lanes → SoloAnswer encode c lane asked es → CoreRun c es (after_all c es) → (after_all c es).closer ≡ c.closer
closer_answer encode es c lane asked h rest within answered run = ⊎_elim
    (λ (starved : es ≡ Skip lane asked false ∷ []). ap (λ (xs : List Event). (after_all c xs).closer) starved)
    (λ (call : SoloCall encode c lane asked es).
    let alone = rest_alone c lane (free asked) rest within tt in
    let parts = run_begins call.most (call.last ∷ []) c (after_all c es) (subst (λ (xs : List Event). CoreRun c xs (after_all c es)) call.whole run) in
    let at = after_all c call.most in
    let k = stepped encode call.most c at lane (free asked) asked h alone call.steps parts.0 in
    ap (λ (xs : List Event). (after_all c xs).closer) call.whole ∙ (ap (λ (w : Core). w.closer) (after_both call.most (call.last ∷ []) c)
    ∙ (closer_after call.last at lane (free asked) k.alone parts.1.0 ∙ closer_steps encode call.most c lane (free asked) asked h alone call.steps parts.0))) answered

pub closer_lines : (encode : Core → ℕ → Page) (script : Script) (lines : List (ℕ × ℕ)) (es : List Event) (c : Core) → OpeningFrames c.shape → length script.lanes ≡ c.shape.lanes → Coherent c → IsAtRest c → SoloLines encode c script lines es → CoreRun c es (after_all c es) → (after_all c es).closer ≡ c.closer
closer_lines encode script [] es c f wide h rest lines run = ap (λ (xs : List Event). (after_all c xs).closer) lines
closer_lines encode script (line ∷ later) es c f wide h rest lines run =
    let own = lines.0 in
    let others = lines.1 in
    let r = subst (λ (xs : List Event). CoreRun c xs (after_all c xs)) lines.2 run in
    let parts = run_begins own others c (after_all c (own ++ others)) r in
    let at = after_all c own in
    let asks = lines.3 in
    let s = shape_all own c in
    let within : line.0 < c.shape.lanes = subst (λ (n : ℕ). line.0 < n) wide (line_low script.lanes line asks.request asks.asks) in
    let first = answer_rest encode own c at line.0 asks.request f h rest within asks.answered parts.0 in
    let one = closer_answer encode own c line.0 asks.request h rest within asks.answered parts.0 in
    let k = closer_lines encode script later others at (subst OpeningFrames (sym s) f) (wide ∙ ap (λ (w : Shape). w.lanes) (sym s)) (run_keeps c at own h parts.0) first.0 lines.4
    (subst (λ (w : Core). CoreRun at others w) (after_both own others c) parts.1) in
    ap (λ (xs : List Event). (after_all c xs).closer) lines.2 ∙ (ap (λ (w : Core). w.closer) (after_both own others c) ∙ (k ∙ one))

-- ---- the parts of a run

-- where the lines begin, and where the last sync does
pub record HasParts (encode : Core → ℕ → Page) (c0 : Core) (script : Script) (lines settling : List Event) (c1 : Core) : Type 0 where
  pub start : Core
  pub entered : start ≡ after_all c0 (enters c0.shape.lanes)
  pub frames : OpeningFrames start.shape
  pub wide : length script.lanes ≡ start.shape.lanes
  pub coherent : Coherent start
  pub rest : IsAtRest start
  pub lines_run : CoreRun start lines (after_all start lines)
  pub end : Core
  pub left : end ≡ after_all (after_all start lines) (leaves c0.shape.lanes)
  pub end_coherent : Coherent end
  pub end_frames : OpeningFrames end.shape
  pub settles : IsSettling end
  pub home : (die : ℕ) → (end.dies die).out ≡ None
  pub closer : end.closer ≡ c0.closer
  pub settling_run : CoreRun end settling c1

pub parts_of : (encode : Core → ℕ → Page) (c0 c1 : Core) (script : Script) (lines settling : List Event) → OpeningFrames c0.shape → length script.lanes ≡ c0.shape.lanes → Coherent c0 → IsFresh c0 →
    SoloLines encode (after_all c0 (enters c0.shape.lanes)) script script.order lines → CoreRun c0 (enters c0.shape.lanes ++ (lines ++ (leaves c0.shape.lanes ++ settling))) c1 → HasParts encode c0 script lines settling c1
parts_of encode c0 c1 script lines settling f wide h fresh calls run =
    let n = c0.shape.lanes in
    let a = run_begins (enters n) (lines ++ (leaves n ++ settling)) c0 c1 run in
    let start = after_all c0 (enters n) in
    let e = entered_all n 0 c0 in
    let s = shape_all (enters n) c0 in
    let rest : IsAtRest start = record {
      inside = λ l p. let q : l < n = subst (λ (w : Shape). l < w.lanes) s p in e.moved l (omega arith) (omega arith);
      still = λ l. ap (λ (w : ℕ → Option Flight). w l) e.calls ∙ fresh.still l;
      home = λ die. ap (λ (w : ℕ → DieState). (w die).out) e.dies ∙ fresh.home die;
    } in
    let h1 = run_keeps c0 start (enters n) h a.0 in
    let f1 = subst OpeningFrames (sym s) f in
    let wide1 : length script.lanes ≡ start.shape.lanes = wide ∙ ap (λ (w : Shape). w.lanes) (sym s) in
    let b = run_begins lines (leaves n ++ settling) start c1 a.1 in
    let middle = after_all start lines in
    let k = lines_rest encode script script.order lines start middle f1 wide1 h1 rest calls b.0 in
    let h2 = run_keeps start middle lines h1 b.0 in
    let d = run_begins (leaves n) settling middle c1 b.1 in
    let last = after_all middle (leaves n) in
    let g = left_all n 0 middle in
    let t : last.shape ≡ c0.shape = shape_all (leaves n) middle ∙ (shape_all lines start ∙ s) in
    let low : c0.closer ≤ meta_pages c0.shape.blocks = fresh.closer in
    let same : last.closer ≡ c0.closer = g.closer ∙ (closer_lines encode script script.order lines start f1 wide1 h1 rest calls b.0 ∙ e.closer) in
    record {
      start = start;
      entered = refl;
      frames = f1;
      wide = wide1;
      coherent = h1;
      rest = rest;
      lines_run = b.0;
      end = last;
      left = refl;
      end_coherent = run_keeps middle last (leaves n) h2 d.0;
      end_frames = subst OpeningFrames (sym t) f;
      settles = at_home last last (record {
        left = λ l p. let q : l < n = subst (λ (w : Shape). l < w.lanes) t p in g.moved l (omega arith) (omega arith);
        none = λ l. ap (λ (w : ℕ → Option Flight). w l) g.calls ∙ k.rest.still l;
      })
          (λ die. ap (λ (w : ℕ → DieState). (w die).out) g.dies ∙ k.rest.home die)
          (subst (λ (w : ℕ). w ≤ meta_pages last.shape.blocks) (sym same) (subst (λ (w : Shape). c0.closer ≤ meta_pages w.blocks) (sym t) low));
      home = λ die. ap (λ (w : ℕ → DieState). (w die).out) g.dies ∙ k.rest.home die;
      closer = same;
      settling_run = d.1;
    }

-- ---- its length

pub run_short : (encode : Core → ℕ → Page) (c0 c1 : Core) (script : Script) (last : Bool) (events : List Event) → OpeningFrames c0.shape → length script.lanes ≡ c0.shape.lanes → Coherent c0 → IsFresh c0 → SoloRun encode c0 script last events c1 →
    length events ≤ 4096 * (length script.order + 1) + 2 * c0.shape.lanes
run_short encode c0 c1 script last events f wide h fresh run =
    let p = parts_of encode c0 c1 script run.lines run.settling f wide h fresh run.calls (subst (λ (xs : List Event). CoreRun c0 xs c1) run.parts run.run) in
    let k = lines_rest encode script script.order run.lines p.start (after_all p.start run.lines) p.frames p.wide p.coherent p.rest (subst (λ (w : Core). SoloLines encode w script script.order run.lines) (sym p.entered) run.calls) p.lines_run in
    let a = k.short in
    let at : p.end ≡ after_all c0 (enters c0.shape.lanes ++ (run.lines ++ leaves c0.shape.lanes)) =
    p.left ∙ (ap (λ (w : Core). after_all (after_all w run.lines) (leaves c0.shape.lanes)) p.entered
    ∙ (sym (after_both run.lines (leaves c0.shape.lanes) (after_all c0 (enters c0.shape.lanes))) ∙ sym (after_both (enters c0.shape.lanes) (run.lines ++ leaves c0.shape.lanes) c0))) in
    let s = settled last run.ending p.end at p.end_frames p.end_coherent p.settles p.settling_run in
    let l = ap length run.parts in
    let e = length-map-range_with_len (λ lane. Enter lane) 0 c0.shape.lanes in
    let g = length-map-range_with_len (λ lane. Leave lane) 0 c0.shape.lanes in
    omega (arith, length-append (enters c0.shape.lanes) (run.lines ++ (leaves c0.shape.lanes ++ run.settling)), length-append run.lines (leaves c0.shape.lanes ++ run.settling), length-append (leaves c0.shape.lanes) run.settling)
  where
    settled : (t : Bool) → SoloEnd encode t (after_all c0 (enters c0.shape.lanes ++ (run.lines ++ leaves c0.shape.lanes))) run.settling → (end : Core) → end ≡ after_all c0 (enters c0.shape.lanes ++ (run.lines ++ leaves c0.shape.lanes)) →
        OpeningFrames end.shape → Coherent end → IsSettling end → CoreRun end run.settling c1 → length run.settling ≤ 4096
    settled true sync end at f h s r = sync_short encode run.settling end c1 f h s (subst (λ (w : Core). SoloSync encode w run.settling) (sym at) sync) r
    settled false none end at f h s r = let l = ap length none in omega arith

-- ---- its calls

enters_tell : (n a : ℕ) → calls_of (map (λ lane. Enter lane) (range_with_len a n)) ≡ []
enters_tell zero a = refl
enters_tell (suc n) a = enters_tell n (a + 1)

leaves_tell : (n a : ℕ) → calls_of (map (λ lane. Leave lane) (range_with_len a n)) ≡ []
leaves_tell zero a = refl
leaves_tell (suc n) a = leaves_tell n (a + 1)

silent_next : (encode : Core → ℕ → Page) (c : Core) (e : Event) → IsSyncNext encode c e → entry_of e ≡ None
silent_next encode c e k = go e (fits_of encode c e k)
  where
    go : (e : Event) → Fits e → entry_of e ≡ None
    go (Quick l asked reply) f = absurd f
    go (Skip l asked fault) f = absurd f
    go (End l asked reply) f = absurd f
    go _ f = refl

sync_steps_tell : (encode : Core → ℕ → Page) (es : List Event) (c : Core) → Steps (IsSyncStep encode) c es → calls_of es ≡ []
sync_steps_tell encode [] c s = refl
sync_steps_tell encode (e ∷ es) c s = ap (λ (o : Option Entry). and_then o (calls_of es)) (silent_next encode c e s.0.next) ∙ sync_steps_tell encode es (after c e) s.1

sync_tells : (encode : Core → ℕ → Page) (es : List Event) (c : Core) → SoloSync encode c es → calls_of es ≡ []
sync_tells encode es c sync = ⊎_elim
    (λ (ends : SyncEnds encode c es). sync_steps_tell encode es c ends.steps)
    (λ (fails : SyncFails encode c es).
    ap calls_of fails.whole ∙ (calls_both fails.most (fails.last ∷ []) ∙ (ap (λ (xs : List Entry). xs ++ calls_of (fails.last ∷ [])) (sync_steps_tell encode fails.most c fails.steps)
    ∙ ap (λ (o : Option Entry). and_then o []) (silent_next encode (after_all c fails.most) fails.last fails.next)))) sync

end_tells : (encode : Core → ℕ → Page) (t : Bool) (c : Core) (es : List Event) → SoloEnd encode t c es → calls_of es ≡ []
end_tells encode true c es s = sync_tells encode es c s
end_tells encode false c es s = ap calls_of s

append_none : (xs : List Entry) → xs ++ [] ≡ xs
append_none [] = refl
append_none (x ∷ xs) = ap (λ (ys : List Entry). x ∷ ys) (append_none xs)

pub run_follows : (encode : Core → ℕ → Page) (c0 c1 : Core) (script : Script) (last : Bool) (events : List Event) → OpeningFrames c0.shape → length script.lanes ≡ c0.shape.lanes → Coherent c0 → IsFresh c0 → SoloRun encode c0 script last events c1 → FollowLines script script.order (calls_of events)
run_follows encode c0 c1 script last events f wide h fresh run =
    let p = parts_of encode c0 c1 script run.lines run.settling f wide h fresh run.calls (subst (λ (xs : List Event). CoreRun c0 xs c1) run.parts run.run) in
    let k = lines_follow encode script script.order run.lines p.start (after_all p.start run.lines) p.frames p.wide p.coherent p.rest (subst (λ (w : Core). SoloLines encode w script script.order run.lines) (sym p.entered) run.calls) p.lines_run in
    let n = c0.shape.lanes in
    let tells : calls_of events ≡ calls_of run.lines =
    ap calls_of run.parts ∙ (calls_both (enters n) (run.lines ++ (leaves n ++ run.settling)) ∙ (ap (λ (xs : List Entry). xs ++ calls_of (run.lines ++ (leaves n ++ run.settling))) (enters_tell n 0)
    ∙ (calls_both run.lines (leaves n ++ run.settling) ∙ (ap (λ (xs : List Entry). calls_of run.lines ++ xs) (calls_both (leaves n) run.settling ∙ (ap (λ (xs : List Entry). xs ++ calls_of run.settling) (leaves_tell n 0) ∙ end_tells encode last _ run.settling run.ending))
    ∙ append_none (calls_of run.lines))))) in
    subst (FollowLines script script.order) (sym tells) k
