-- Lines, one after the other, by the only pass.
use Rattle.std.proofs.Common.{◌≡◌, ℕ, zero, suc, ◌+◌, ◌*◌, ◌<◌, ◌≤◌, true, List, [], ◌∷◌, ◌++◌, Option, Some, length, get_or, take, drop, refl, sym, ap, ◌∙◌, subst, arith, length-append, map}
use Rattle.std.specs.Prelude.{◌-◌, Result, Ok, Err, slice_get, unwrap_or, option_map, vec_capacity}
use Rattle.std.specs.Result.{IsErr}
use Rattle.std.proofs.lemmas.Option.{slice_get-map, slice_get_within, slice_get_read}
use Rattle.std.specs.declared.snapshot.Snapshot.{Snapshot}
use Rattle.turn_cell.specs.declared.view.View.{View}
use Rattle.turn_cell.specs.declared.pass.Worn.{Worn}
use Rattle.turn_cell.specs.Events.{events_of}
use Rattle.flash_die.specs.Dies.{DieView}
use Rattle.plain_files.specs.declared.calls.Numbered.{Numbered}
use Rattle.plain_files.specs.declared.calls.Request.{Request}
use Rattle.plain_files.specs.History.{Entry, requests_of}
use Rattle.script_words.specs.declared.script.Lane.{Lane}
use Rattle.script_words.specs.declared.script.Script.{Script as ScriptLines}
use Rattle.script_words.specs.Lanes.{requests}
use Rattle.core_state.specs.declared.event.Event.{Event}
use Rattle.core_state.specs.State.{Core}
use Rattle.core_state.specs.Happens.{CoreRun, after}
use Rattle.core_state.specs.History.{calls_of}
use Rattle.core_state.proofs.Runs.{leads_to}
use Rattle.core_solo.specs.Solo.{Script, request_at, SoloLine}
use Rattle.core_solo.specs.Settling.{lines_of}
use Rattle.core_solo.proofs.Folds.{lines_more}
use Rattle.core_solo.proofs.Calls.{line_low, lines_rest}
use Rattle.core_solo.proofs.Asks.{calls_both}
use Rattle.system_state.specs.Cores.{core_of}
use Rattle.system_state.specs.declared.state.State.{State}
use Rattle.system_metas.specs.Encode.{encode}
use Rattle.desk_turns.specs.Passing.{core_seen, Went, Does}
use Rattle.desk_turns.proofs.Turning.{events_more}
use Rattle.desk_turns.proofs.Went.{went_on, went_none}
use Rattle.lane_logs.specs.declared.logs.LaneLog.{LaneLog}
use Rattle.solo_runs.specs.Line.{HasAnswered}
use Rattle.lane_logs.specs.Logs.{AreLogs, HaveRoom}
use Rattle.solo_runs.specs.Lines.{script_of, IsOrdered, IsBetween, AreCallsOf, HasMadeLine, HaveMade, OneSays, LinesSay}
use Rattle.solo_runs.proofs.Between.{between_next}
use Rattle.solo_runs.proofs.LinesTold.{lines_left}

-- ---- lists

pub split_at : {A : Type 0} (xs : List A) (at : ℕ) (d : A) → at < length xs → xs ≡ take at xs ++ get_or xs at d ∷ drop (at + 1) xs
split_at [] at d low = absurd (omega arith)
split_at (y ∷ xs) zero d low = refl
split_at {A} (y ∷ xs) (suc at) d low =
    let k = split_at xs at d (omega arith) in
    let n : suc at + 1 ≡ suc (at + 1) = omega arith in
    ap (λ (zs : List A). y ∷ zs) k ∙ ap (λ (m : ℕ). y ∷ (take at xs ++ get_or xs at d ∷ drop m (y ∷ xs))) (sym n)

pub take_more : {A : Type 0} (xs : List A) (at : ℕ) (d : A) → at < length xs → take (at + 1) xs ≡ take at xs ++ get_or xs at d ∷ []
take_more [] at d low = absurd (omega arith)
take_more (y ∷ xs) zero d low = refl
take_more {A} (y ∷ xs) (suc at) d low =
    let n : suc at + 1 ≡ suc (at + 1) = omega arith in
    ap (λ (m : ℕ). take m (y ∷ xs)) n ∙ ap (λ (zs : List A). y ∷ zs) (take_more xs at d (omega arith))

pub take_all : {A : Type 0} (xs : List A) → take (length xs) xs ≡ xs
take_all [] = refl
take_all {A} (x ∷ xs) = ap (λ (zs : List A). x ∷ zs) (take_all xs)

pub take_long : {A : Type 0} (xs : List A) (at : ℕ) → at ≤ length xs → length (take at xs) ≡ at
take_long xs zero low = refl
take_long [] (suc at) low = absurd (omega arith)
take_long (x ∷ xs) (suc at) low = let k = take_long xs at (omega arith) in omega arith

pub run_on : (es fs : List Event) (c d e : Core) → CoreRun c es d → CoreRun d fs e → CoreRun c (es ++ fs) e
run_on [] fs c d e r s = subst (λ (x : Core). CoreRun x fs e) r s
run_on (x ∷ xs) fs c d e r s = (r.0, run_on xs fs (after c x) d e r.1 s)

-- ---- a line of the script

some_of : {A : Type 0} (o p : Option A) (x : A) → o ≡ p → p ≡ Some x → o ≡ Some x
some_of o p x a b = a ∙ b

-- the lane's requests, as the script has them
lane_requests : (s : ScriptLines) (lane : ℕ) (x : Lane) → lane < length s.lanes → x ≡ get_or s.lanes lane x → slice_get (requests s) lane ≡ Some x.requests
lane_requests s lane x low here =
    slice_get-map (λ (l : Lane). l.requests) s.lanes lane ∙ ap (option_map (λ (l : Lane). l.requests)) (slice_get_read s.lanes (length s.lanes) lane x refl low here)

length_map : {A B : Type 0} (f : A → B) (xs : List A) → length (map f xs) ≡ length xs
length_map f [] = refl
length_map f (x ∷ xs) = let k = length_map f xs in omega arith

-- the script's lanes, as the run of one thread has them
pub requests_long : (s : ScriptLines) → length s.lanes ≡ length (script_of s).lanes
requests_long s = sym (length_map (λ (l : Lane). l.requests) s.lanes)

pub line_lane : (s : ScriptLines) (line : ℕ × ℕ) (request : Request) → request_at (script_of s) line ≡ Some request → line.0 < length s.lanes
line_lane s line request asks = let k = line_low (requests s) line request asks in let l = length_map (λ (l : Lane). l.requests) s.lanes in omega arith

pub line_number : (s : ScriptLines) (line : ℕ × ℕ) (request : Request) (x : Lane) → request_at (script_of s) line ≡ Some request → x ≡ get_or s.lanes line.0 x → line.1 - 1 < length x.requests
line_number s line request x asks here =
    let e = lane_requests s line.0 x (line_lane s line request asks) here in
    let k : slice_get x.requests (line.1 - 1) ≡ Some request = ap (λ (o : Option (List Request)). slice_get (unwrap_or o []) (line.1 - 1)) (sym e) ∙ asks in
    slice_get_within x.requests (line.1 - 1) request k

pub line_asks : (s : ScriptLines) (line : ℕ × ℕ) (x : Lane) (r : Request) → line.0 < length s.lanes → x ≡ get_or s.lanes line.0 x → line.1 - 1 < length x.requests → r ≡ get_or x.requests (line.1 - 1) r → request_at (script_of s) line ≡ Some r
line_asks s line x r low here within is =
    ap (λ (o : Option (List Request)). slice_get (unwrap_or o []) (line.1 - 1)) (lane_requests s line.0 x low here) ∙ slice_get_read x.requests (length x.requests) (line.1 - 1) r refl within is

pub line_first : (script : Script) (before rest : List (ℕ × ℕ)) (line : ℕ × ℕ) → IsOrdered script → script.order ≡ before ++ line ∷ rest → 1 ≤ line.1
line_first script before rest line o at = let k = o.whole.numbered before rest line at in omega arith

-- its lane's log has room
pub has_room : (s : ScriptLines) (before rest : List (ℕ × ℕ)) (line : ℕ × ℕ) (last : ℕ) (calls : List Entry) (logs : List LaneLog) (log : LaneLog) → IsOrdered (script_of s) → s.order ≡ before ++ line ∷ rest →
    AreLogs (length s.lanes) last calls logs → HaveRoom (requests s) logs → AreCallsOf last before calls → slice_get logs line.0 ≡ Some log → length log.entries.items < vec_capacity log.entries
has_room s before rest line last calls logs log o at are room told here =
    let a = ap length (are.replies line.0 log here) in
    let b = told.each line.0 in
    let c = lines_left line.0 before rest line refl in
    let d : lines_of line.0 (before ++ line ∷ rest) ≡ length (requests_of (requests s) line.0) = ap (lines_of line.0) (sym at) ∙ o.whole.whole line.0 in
    let e = room line.0 log here in
    omega arith

-- ---- a line was answered

module _ {D J : Type 0} (seen : D → DieView) where
  abbrev C : State D J → Core
  C = core_of seen

  pub calls_seen : (v w : View (Snapshot (State D J)) Event) (es : List Event) → v.alone ≡ true → Went v w es → calls_of (events_of w.seen) ≡ calls_of (events_of v.seen) ++ calls_of es
  calls_seen v w es a went = ap (λ h. calls_of (events_of h)) (went.alone a) ∙ (ap calls_of (events_more v.seen v.number es) ∙ calls_both (events_of v.seen) es)

  -- the calls that are seen then have one more
  pub calls_one : (o : Snapshot (State D J)) (v w : View (Snapshot (State D J)) Event) (lane : ℕ) (request : Request) (n : Numbered) → v.alone ≡ true → Does v w (HasAnswered seen o v w lane request n) →
      calls_of (events_of w.seen) ≡ calls_of (events_of v.seen) ++ record { lane = lane; call = request.call; reply = n.reply } ∷ []
  calls_one o v w lane request n a p = calls_seen v w p.events a p.went ∙ ap (λ (xs : List Entry). calls_of (events_of v.seen) ++ xs) p.says.one

  pub line_made : (o : Snapshot (State D J)) (v w : View (Snapshot (State D J)) Event) (script : Script) (before : List (ℕ × ℕ)) (line : ℕ × ℕ) (request : Request) (n : Numbered) → request_at script line ≡ Some request → IsBetween script before (core_seen C o v) →
      Does v w (HasAnswered seen o v w line.0 request n) → Does v w (HasMadeLine seen o v w script before line)
  line_made o v w script before line request n asks b p =
      record {
        events = p.events;
        went = p.went;
        says = record {
          answered = record { request = request; asks = asks; answered = p.says.solo };
          run = p.says.run;
          between = between_next script before line request p.events (core_seen C o v) (core_seen C o w) n.reply b asks p.says.solo p.says.run p.says.one;
        };
      }

  pub line_worn : (o : Snapshot (State D J)) (v w : View (Snapshot (State D J)) Event) (script : Script) (before : List (ℕ × ℕ)) (line : ℕ × ℕ) (r : Result (Unit {0}) Worn) → IsErr r → Does v w (λ es. length es ≤ 4096) → Does v w (OneSays seen o v w script before line r)
  line_worn o v w script before line (Ok x) e p = absurd (cc)
  line_worn o v w script before line (Err x) e p = p

  -- ---- lines were answered

  pub lines_none : (o : Snapshot (State D J)) (v : View (Snapshot (State D J)) Event) (script : Script) → IsBetween script [] (core_seen C o v) → Does v v (HaveMade seen o v v script [])
  lines_none o v script b = record { events = []; went = went_none v; says = record { answered = refl; run = refl; between = b } }

  pub lines_on : (o q : Snapshot (State D J)) (v u w : View (Snapshot (State D J)) Event) (script : Script) (before : List (ℕ × ℕ)) (line : ℕ × ℕ) → q ≡ o → Does v u (HaveMade seen o v u script before) →
      Does u w (HasMadeLine seen q u w script before line) → Does v w (HaveMade seen o v w script (before ++ line ∷ []))
  lines_on o q v u w script before line same p q' =
      let n : HasMadeLine seen o u w script before line q'.events = subst (λ (z : Snapshot (State D J)). HasMadeLine seen z u w script before line q'.events) same q'.says in
      let c = core_seen C o v in
      let to = leads_to p.events c (core_seen C o u) p.says.run in
      record {
        events = p.events ++ q'.events;
        went = went_on v u w p.events q'.events p.went q'.went;
        says = record {
          answered = lines_more encode script before line p.events q'.events c p.says.answered (subst (λ (k : Core). SoloLine encode k script line q'.events) to n.answered);
          run = run_on p.events q'.events c (core_seen C o u) (core_seen C o w) p.says.run n.run;
          between = n.between;
        };
      }

  -- so many events they have
  pub lines_long : (o : Snapshot (State D J)) (v w : View (Snapshot (State D J)) Event) (script : Script) (lines : List (ℕ × ℕ)) (es : List Event) → IsBetween script [] (core_seen C o v) → HaveMade seen o v w script lines es → length es ≤ 4096 * length lines
  lines_long o v w script lines es b p = (lines_rest encode script lines es (core_seen C o v) (core_seen C o w) b.frames b.wide b.coherent b.rest p.answered p.run).short

  pub lines_worn : (o q : Snapshot (State D J)) (v u w : View (Snapshot (State D J)) Event) (script : Script) (before : List (ℕ × ℕ)) (line : ℕ × ℕ) (x : Worn) (r : Result (Unit {0}) Worn) → IsErr r → length before < length script.order → IsBetween script [] (core_seen C o v) →
      Does v u (HaveMade seen o v u script before) → Does u w (OneSays seen q u w script before line (Err x)) → Does v w (LinesSay seen o v w script r)
  lines_worn o q v u w script before line x (Ok y) e low b p q' = absurd (cc)
  lines_worn o q v u w script before line x (Err y) e low b p q' =
      record {
        events = p.events ++ q'.events;
        went = went_on v u w p.events q'.events p.went q'.went;
        says =
            let k = lines_long o v u script before p.events b p.says in
            let l = q'.says in
            omega (arith, length-append p.events q'.events);
      }

  pub lines_done : (o : Snapshot (State D J)) (v w : View (Snapshot (State D J)) Event) (script : Script) (at : ℕ) → at ≡ length script.order → Does v w (HaveMade seen o v w script (take at script.order)) → Does v w (HaveMade seen o v w script script.order)
  lines_done o v w script at all p = subst (λ (xs : List (ℕ × ℕ)). Does v w (HaveMade seen o v w script xs)) (ap (λ (n : ℕ). take n script.order) all ∙ take_all script.order) p
