-- The parts of a run, one after the other.
use Rattle.std.proofs.Common.{◌≡◌, ℕ, zero, suc, ◌+◌, ◌*◌, ◌≤◌, Bool, true, false, List, [], ◌∷◌, ◌++◌, Option, None, length, refl, sym, ap, ◌∙◌, subst, inl, inr, arith, append-nil, append_assoc, length-append, map}
use Rattle.std.specs.Prelude.{Result, Ok, Err, IfOk}
use Rattle.std.specs.Result.{IsErr}
use Rattle.std.specs.List.{range_with_len}
use Rattle.std.proofs.lemmas.List.FromFn.{length-map-range_with_len, map-range_with_len_more}
use mathlib.Core.List.{map-append}
use Rattle.std.specs.declared.snapshot.Snapshot.{Snapshot}
use Rattle.turn_cell.specs.declared.book.Entry.{Entry}
use Rattle.turn_cell.specs.declared.view.View.{View}
use Rattle.turn_cell.specs.declared.pass.Worn.{Worn}
use Rattle.turn_cell.specs.Events.{events_of}
use Rattle.turn_cell.specs.History.{entry}
use Rattle.flash_die.specs.Dies.{DieView}
use Rattle.core_state.specs.declared.actor.Actor.TheVariants.{Closer}
use Rattle.core_state.specs.declared.event.Event.{Event}
use Rattle.core_state.specs.declared.event.Event.TheVariants.{Enter, Leave, Quick, Skip, End}
use Rattle.core_state.specs.State.{Shape, LaneState, Core}
use Rattle.core_state.specs.Coherent.{Coherent}
use Rattle.plain_files.specs.History.{Entry as CallEntry}
use Rattle.core_state.specs.Happens.{CoreRun, HoldsNone, actor_of, after_all}
use Rattle.core_state.specs.History.{entry_of, and_then, calls_of}
use Rattle.core_state.proofs.Runs.{leads_to}
use Rattle.core_stores.proofs.Folds.{run_keeps}
use Rattle.core_solo.specs.Solo.{Script, SoloLines, SoloRun, SoloEnd, SyncEnds, SyncFails, enters, leaves}
use Rattle.core_solo.specs.Alone.{OpeningFrames}
use Rattle.core_solo.specs.Settling.{IsSettling}
use Rattle.core_solo.proofs.Rests.{shape_all}
use Rattle.core_solo.proofs.Calls.{line_low, lines_rest}
use Rattle.core_solo.proofs.Whole.{parts_of}
use Rattle.core_closing.specs.Kept.{MaySettle, IsFailedWrite}
use Rattle.core_closing.proofs.Keeps.{none_yet as none_stored}
use Rattle.system_state.specs.Cores.{core_of}
use Rattle.system_state.specs.declared.state.State.{State}
use Rattle.system_metas.specs.Encode.{encode}
use Rattle.desk_turns.specs.Making.{AreOf}
use Rattle.desk_turns.specs.Passing.{core_seen, Went, Does}
use Rattle.desk_turns.proofs.Turning.{events_more}
use Rattle.desk_turns.proofs.Went.{went_on}
use Rattle.settling.specs.Settle.{HasSettled, HasNotSettled, SettleSays}
use Rattle.settling.specs.Steps.{EndsInFailure}
use Rattle.settling.specs.declared.last_sync.Settled.{Settled}
use Rattle.settling.specs.declared.last_sync.Settled.TheVariants.{NotAsked, Done, Failed}
use Rattle.solo_lanes.specs.Lanes.{AreHome, HaveEntered, HaveLeft, IsUnentered, MayAllLeave, EnterSays, LeaveSays}
use Rattle.solo_runs.specs.Lines.{IsBetween, HaveMade, LinesSay}
use Rattle.solo_runs.specs.Run.{MayRun, HasRunScript, ScriptSays, HasRun, RunSays}
use Rattle.solo_runs.proofs.Lining.{run_on, calls_seen, lines_long}

-- ---- lanes come and go

enters_tell : (n a : ℕ) → calls_of (map (λ lane. Enter lane) (range_with_len a n)) ≡ []
enters_tell zero a = refl
enters_tell (suc n) a = enters_tell n (a + 1)

pub leaves_tell : (n a : ℕ) → calls_of (map (λ lane. Leave lane) (range_with_len a n)) ≡ []
leaves_tell zero a = refl
leaves_tell (suc n) a = leaves_tell n (a + 1)

pub enters_long : (n : ℕ) → length (enters n) ≡ n
enters_long n = length-map-range_with_len (λ lane. Enter lane) 0 n

pub leaves_long : (n : ℕ) → length (leaves n) ≡ n
leaves_long n = length-map-range_with_len (λ lane. Leave lane) 0 n

none_holds : (c : Core) → AreHome c → HoldsNone c Closer
none_holds c home die out e = let h = home die in absurd (cc)

-- the closer ends no call
closer_event : (e : Event) → actor_of e ≡ Closer → entry_of e ≡ None
closer_event (Quick lane request reply) p = absurd (cc)
closer_event (Skip lane request fault) p = absurd (cc)
closer_event (End lane request reply) p = absurd (cc)
closer_event _ p = refl

closer_tells : (es : List Event) → AreOf Closer es → calls_of es ≡ []
closer_tells [] of = refl
closer_tells (e ∷ es) of = ap (λ (o : Option CallEntry). and_then o (calls_of es)) (closer_event e of.0) ∙ closer_tells es of.1

-- no lane has entered
pub unentered : (script : Script) (c : Core) → MayRun script c → IsUnentered c
unentered script c m = record { outside = λ l low. ap (λ (w : LaneState). w.stage) (m.new l); still = m.fresh.still; home = m.fresh.home }

-- ---- a history that ends with a lane

last_is : (xs ys : List (Entry Event)) (a b : Entry Event) → xs ++ a ∷ [] ≡ ys ++ b ∷ [] → a ≡ b
last_is [] [] a b e = cc
last_is [] (y ∷ []) a b e = absurd (cc)
last_is [] (y ∷ z ∷ ys) a b e = absurd (cc)
last_is (x ∷ []) [] a b e = absurd (cc)
last_is (x ∷ z ∷ xs) [] a b e = absurd (cc)
last_is (x ∷ xs) (y ∷ ys) a b e = let k : xs ++ a ∷ [] ≡ ys ++ b ∷ [] = cc in last_is xs ys a b k

left_last : (h : List (Entry Event)) (es : List Event) (n lane : ℕ) → EndsInFailure (h ++ map (entry n) (es ++ Leave lane ∷ [])) → ⊥
left_last h es n lane f =
    let is : h ++ map (entry n) (es ++ Leave lane ∷ []) ≡ (h ++ map (entry n) es) ++ entry n (Leave lane) ∷ [] =
    ap (λ (xs : List (Entry Event)). h ++ xs) (map-append (entry n) es (Leave lane ∷ [])) ∙ sym (append_assoc h (map (entry n) es) (entry n (Leave lane) ∷ [])) in
    let same : f.1 ≡ entry n (Leave lane) = last_is f.0 (h ++ map (entry n) es) f.1 (entry n (Leave lane)) (sym f.2 ∙ is) in
    subst (λ (e : Entry Event). IsFailedWrite e.event) same f.3

no_lines : (script : Script) (c : Core) (es : List Event) → length script.lanes ≡ 0 → SoloLines encode c script script.order es → es ≡ []
no_lines script c es none = go script.order
  where
    go : (lines : List (ℕ × ℕ)) → SoloLines encode c script lines es → es ≡ []
    go [] e = e
    go (line ∷ lines) e = let k = line_low script.lanes line e.3.request e.3.asks in absurd (omega arith)

module _ {D J : Type 0} (seen : D → DieView) where
  abbrev C : State D J → Core
  C = core_of seen

  calls_stay : (v w : View (Snapshot (State D J)) Event) (es : List Event) → v.alone ≡ true → Went v w es → calls_of es ≡ [] → calls_of (events_of w.seen) ≡ calls_of (events_of v.seen)
  calls_stay v w es a went none = calls_seen seen v w es a went ∙ (ap (λ (xs : List CallEntry). calls_of (events_of v.seen) ++ xs) none ∙ append-nil (calls_of (events_of v.seen)))

  -- before the first line
  pub first_between : (o : Snapshot (State D J)) (v u : View (Snapshot (State D J)) Event) (script : Script) (lanes : ℕ) → MayRun script (core_seen C o v) → Does v u (HaveEntered seen o v u lanes) → IsBetween script [] (core_seen C o u)
  first_between o v u script lanes m p =
      let c = core_seen C o v in
      let d = core_seen C o u in
      let is = leads_to p.events c d p.says.made.run in
      let shape : d.shape ≡ c.shape = ap (λ (k : Core). k.shape) is ∙ shape_all p.events c in
      record {
        coherent = run_keeps c d p.events m.coherent p.says.made.run;
        frames = subst OpeningFrames (sym shape) m.frames;
        wide = m.wide ∙ ap (λ (s : Shape). s.lanes) (sym shape);
        rest = p.says.rest;
        clear = λ l. p.says.keeps.mark l ∙ ap (λ (w : LaneState). w.mark) (m.new l);
        ended = λ l. p.says.keeps.ended l ∙ ap (λ (w : LaneState). w.ended) (m.new l);
      }

  -- no call has ended
  pub none_yet : (o : Snapshot (State D J)) (v u : View (Snapshot (State D J)) Event) (lanes : ℕ) → v.alone ≡ true → v.seen ≡ [] → Does v u (HaveEntered seen o v u lanes) → calls_of (events_of u.seen) ≡ []
  none_yet o v u lanes a none p =
      ap (λ h. calls_of (events_of h)) (p.went.alone a ∙ ap (λ (xs : List (Entry Event)). xs ++ map (entry v.number) p.events) none)
      ∙ (ap calls_of (events_more [] v.number p.events) ∙ (ap calls_of p.says.made.are ∙ enters_tell lanes 0))

  pub may_leave : (script : Script) (o : Snapshot (State D J)) (u : View (Snapshot (State D J)) Event) → IsBetween script script.order (core_seen C o u) → MayAllLeave (core_seen C o u)
  may_leave script o u b = record { rest = b.rest; unmarked = λ l low. b.clear l }

  -- ---- the script was run

  pub script_run : (o : Snapshot (State D J)) (v u x w : View (Snapshot (State D J)) Event) (script : Script) (lanes : ℕ) → lanes ≡ length script.lanes → MayRun script (core_seen C o v) → Does v u (HaveEntered seen o v u lanes) → Does u x (HaveMade seen o u x script script.order) →
      Does x w (HaveLeft seen o x w lanes) → Does v w (HasRunScript seen o v w script)
  script_run o v u x w script lanes number m p q r =
      let c = core_seen C o v in
      let d = core_seen C o w in
      let n = length script.lanes in
      let in_all : p.events ≡ enters n = p.says.made.are ∙ ap enters number in
      let out_all : r.events ≡ leaves n = r.says.made.are ∙ ap leaves number in
      let es = p.events ++ (q.events ++ r.events) in
      let parts : es ≡ enters n ++ (q.events ++ leaves n) = λ i. in_all i ++ (q.events ++ out_all i) in
      let run : CoreRun c es d = run_on p.events (q.events ++ r.events) c (core_seen C o u) d p.says.made.run (run_on q.events r.events (core_seen C o u) (core_seen C o x) d q.says.run r.says.made.run) in
      let start : core_seen C o u ≡ after_all c (enters n) = leads_to p.events c (core_seen C o u) p.says.made.run ∙ ap (after_all c) in_all in
      let calls : SoloLines encode (after_all c (enters n)) script script.order q.events = subst (λ (k : Core). SoloLines encode k script script.order q.events) start q.says.answered in
      let wide : c.shape.lanes ≡ n = sym m.wide in
      let whole : es ≡ enters c.shape.lanes ++ (q.events ++ (leaves c.shape.lanes ++ [])) = parts ∙ (λ i. enters (m.wide i) ++ (q.events ++ sym (append-nil (leaves (m.wide i))) i)) in
      let h = parts_of encode c d script q.events [] m.frames m.wide m.coherent m.fresh (subst (λ (k : ℕ). SoloLines encode (after_all c (enters k)) script script.order q.events) m.wide calls) (subst (λ (xs : List Event). CoreRun c xs d) whole run) in
      let end : d ≡ h.end = h.settling_run in
      record {
        events = es;
        went = went_on v u w p.events (q.events ++ r.events) p.went (went_on u x w q.events r.events q.went r.went);
        says = record {
          lines = q.events;
          parts = parts;
          calls = calls;
          run = run;
          ready = subst MaySettle (sym end) (record { closing = h.settles.closing; none = none_holds h.end h.home; most = h.settles.most });
          home = subst AreHome (sym end) h.home;
          closer = ap (λ (k : Core). k.closer) end ∙ (h.closer ∙ m.closer);
          settling = subst IsSettling (sym end) h.settles;
          coherent = subst Coherent (sym end) h.end_coherent;
          frames = subst (λ (k : Core). OpeningFrames k.shape) (sym end) h.end_frames;
        };
      }

  -- ---- and where the turn is worn

  pub worn_entering : (o : Snapshot (State D J)) (v w : View (Snapshot (State D J)) Event) (script : Script) (lanes : ℕ) (x : Worn) (r : Result (Unit {0}) Worn) → IsErr r → lanes ≡ length script.lanes → Does v w (EnterSays seen o v w lanes (Err x)) → Does v w (ScriptSays seen o v w script r)
  worn_entering o v w script lanes x (Ok y) e number p = absurd (cc)
  worn_entering o v w script lanes x (Err y) e number p = record {
    events = p.events;
    went = p.went;
    says =
        let low = p.says.1 in
        let long = ap length p.says.2.are ∙ enters_long p.says.0 in
        omega arith;
  }

  pub worn_in_lines : (o : Snapshot (State D J)) (v u w : View (Snapshot (State D J)) Event) (script : Script) (lanes : ℕ) (x : Worn) (r : Result (Unit {0}) Worn) → IsErr r → lanes ≡ length script.lanes → Does v u (HaveEntered seen o v u lanes) → Does u w (LinesSay seen o u w script (Err x)) → Does v w (ScriptSays seen o v w script r)
  worn_in_lines o v u w script lanes x (Ok y) e number p q = absurd (cc)
  worn_in_lines o v u w script lanes x (Err y) e number p q = record {
    events = p.events ++ q.events;
    went = went_on v u w p.events q.events p.went q.went;
    says =
        let long = ap length p.says.made.are ∙ enters_long lanes in
        let k = q.says in
        omega (arith, length-append p.events q.events);
  }

  pub worn_leaving : (o : Snapshot (State D J)) (v u z w : View (Snapshot (State D J)) Event) (script : Script) (lanes : ℕ) (x : Worn) (r : Result (Unit {0}) Worn) → IsErr r → lanes ≡ length script.lanes → IsBetween script [] (core_seen C o u) →
      Does v u (HaveEntered seen o v u lanes) → Does u z (HaveMade seen o u z script script.order) → Does z w (LeaveSays seen o z w lanes (Err x)) → Does v w (ScriptSays seen o v w script r)
  worn_leaving o v u z w script lanes x (Ok y) e number b p q t = absurd (cc)
  worn_leaving o v u z w script lanes x (Err y) e number b p q t = record {
    events = p.events ++ (q.events ++ t.events);
    went = went_on v u w p.events (q.events ++ t.events) p.went (went_on u z w q.events t.events q.went t.went);
    says =
        let long = ap length p.says.made.are ∙ enters_long lanes in
        let k = lines_long seen o u z script script.order q.events b q.says in
        let low = t.says.1 in
        let rest = ap length t.says.2.are ∙ leaves_long t.says.0 in
        omega (arith, length-append p.events (q.events ++ t.events), length-append q.events t.events);
  }

  -- ---- the last sync

  -- a script's run, in events
  pub script_long : (o : Snapshot (State D J)) (v u : View (Snapshot (State D J)) Event) (script : Script) (es : List Event) → MayRun script (core_seen C o v) → HasRunScript seen o v u script es → length es ≤ 4096 * length script.order + 2 * length script.lanes
  script_long o v u script es m p =
      let n = length script.lanes in
      let c = core_seen C o v in
      let whole : es ≡ enters c.shape.lanes ++ (p.lines ++ (leaves c.shape.lanes ++ [])) = p.parts ∙ (λ i. enters (m.wide i) ++ (p.lines ++ sym (append-nil (leaves (m.wide i))) i)) in
      let run : SoloRun encode c script false es (core_seen C o u) = record {
        lines = p.lines;
        settling = [];
        parts = whole;
        calls = subst (λ (k : ℕ). SoloLines encode (after_all c (enters k)) script script.order p.lines) m.wide p.calls;
        ending = refl;
        run = p.run;
      } in
      let h = parts_of encode c (core_seen C o u) script p.lines [] m.frames m.wide m.coherent m.fresh run.calls (subst (λ (xs : List Event). CoreRun c xs (core_seen C o u)) whole p.run) in
      let k = (lines_rest encode script script.order p.lines h.start (after_all h.start p.lines) h.frames h.wide h.coherent h.rest (subst (λ (w : Core). SoloLines encode w script script.order p.lines) (sym h.entered) run.calls) h.lines_run).short in
      let a = ap length p.parts in
      let b = enters_long n in
      let d = leaves_long n in
      omega (arith, length-append (enters n) (p.lines ++ leaves n), length-append p.lines (leaves n))

  -- the core that the script's run led to
  script_led : (o : Snapshot (State D J)) (v u : View (Snapshot (State D J)) Event) (script : Script) (es : List Event) → (p : HasRunScript seen o v u script es) → core_seen C o u ≡ after_all (core_seen C o v) (enters (length script.lanes) ++ (p.lines ++ leaves (length script.lanes)))
  script_led o v u script es p = leads_to es (core_seen C o v) (core_seen C o u) p.run ∙ ap (after_all (core_seen C o v)) p.parts

  pub run_done : (o : Snapshot (State D J)) (v u w : View (Snapshot (State D J)) Event) (script : Script) → v.alone ≡ true → v.seen ≡ [] → MayRun script (core_seen C o v) → Does v u (HasRunScript seen o v u script) → Does u w (HasSettled seen o u w) → AreHome (core_seen C o w) →
      Does v w (HasRun seen o v w script true Done)
  run_done o v u w script a none m p q home =
      let opened : core_seen C o v ≡ C o.value = ap (λ (h : List (Entry Event)). after_all (C o.value) (events_of h)) none in
      record {
        events = p.events ++ q.events;
        went = went_on v u w p.events q.events p.went q.went;
        says = record {
          lines = p.says.lines;
          settling = q.events;
          parts = ap (λ (xs : List Event). xs ++ q.events) p.says.parts;
          calls = p.says.calls;
          ending = inl (subst (λ (k : Core). SyncEnds encode k q.events) (script_led o v u script p.events p.says) (q.says.solo (too a p.went)));
          ends = (refl, q.says.unfailed (subst (λ (k : Core). HoldsNone k Closer) opened (none_holds (core_seen C o v) m.fresh.home)), q.says.all (none_stored encode (core_seen C o u) p.says.closer));
          idle = q.says.ready.closing.none;
          home = home;
        };
      }
    where
      too : v.alone ≡ true → {es : List Event} → Went v u es → u.alone ≡ true
      too a went = ap (λ (z : View (Snapshot (State D J)) Event). z.alone) went.pass ∙ a

  pub run_failed : (o : Snapshot (State D J)) (v u w : View (Snapshot (State D J)) Event) (script : Script) → v.alone ≡ true → Does v u (HasRunScript seen o v u script) → Does u w (HasNotSettled seen o u w) → AreHome (core_seen C o w) → Does v w (HasRun seen o v w script true Failed)
  run_failed o v u w script a p q home =
      record {
        events = p.events ++ q.events;
        went = went_on v u w p.events q.events p.went q.went;
        says = record {
          lines = p.says.lines;
          settling = q.events;
          parts = ap (λ (xs : List Event). xs ++ q.events) p.says.parts;
          calls = p.says.calls;
          ending = inr (subst (λ (k : Core). SyncFails encode k q.events) (script_led o v u script p.events p.says) (q.says.solo (ap (λ (z : View (Snapshot (State D J)) Event). z.alone) p.went.pass ∙ a)));
          ends = (refl, q.says.last);
          idle = q.says.ready.closing.none;
          home = home;
        };
      }

  -- none is asked for: the last event is that of a lane, if there is one

  unfailed : (n : ℕ) (v w : View (Snapshot (State D J)) Event) (o : Snapshot (State D J)) (script : Script) (es : List Event) → n ≡ length script.lanes → v.seen ≡ [] → w.seen ≡ v.seen ++ map (entry v.number) es → HasRunScript seen o v w script es → EndsInFailure w.seen → ⊥
  unfailed zero v w o script es number none made p f =
      let lines = no_lines script _ p.lines (sym number) p.calls in
      let are : es ≡ [] = p.parts ∙ (ap (λ (k : ℕ). enters k ++ (p.lines ++ leaves k)) (sym number) ∙ (append-nil p.lines ∙ lines)) in
      let empty : w.seen ≡ [] = made ∙ (λ i. none i ++ map (entry v.number) (are i)) in
      end_none f.0 f.1 (sym f.2 ∙ empty)
    where
      end_none : (xs : List (Entry Event)) (x : Entry Event) → xs ++ x ∷ [] ≡ [] → ⊥
      end_none [] x e = cc
      end_none (y ∷ xs) x e = cc
  unfailed (suc n) v w o script es number none made p f =
      let more : leaves (suc n) ≡ leaves n ++ Leave n ∷ [] = ap leaves (suc_one n) ∙ map-range_with_len_more (λ lane. Leave lane) 0 n n (omega arith) in
      let are : es ≡ (enters (length script.lanes) ++ (p.lines ++ leaves n)) ++ Leave n ∷ [] =
      p.parts ∙ (ap (λ (xs : List Event). enters (length script.lanes) ++ (p.lines ++ xs)) (ap leaves (sym number) ∙ more)
      ∙ (ap (λ (xs : List Event). enters (length script.lanes) ++ xs) (sym (append_assoc p.lines (leaves n) (Leave n ∷ []))) ∙ sym (append_assoc (enters (length script.lanes)) (p.lines ++ leaves n) (Leave n ∷ [])))) in
      left_last v.seen (enters (length script.lanes) ++ (p.lines ++ leaves n)) v.number n
      (subst EndsInFailure (made ∙ ap (λ (xs : List Event). v.seen ++ map (entry v.number) xs) are) f)
    where
      suc_one : (n : ℕ) → suc n ≡ n + 1
      suc_one n = omega arith

  pub run_unasked : (o : Snapshot (State D J)) (v u : View (Snapshot (State D J)) Event) (script : Script) (settles : Bool) → settles ≡ false → v.alone ≡ true → v.seen ≡ [] → Does v u (HasRunScript seen o v u script) → Does v u (HasRun seen o v u script settles NotAsked)
  run_unasked o v u script settles asked a none p =
      record {
        events = p.events;
        went = p.went;
        says = record {
          lines = p.says.lines;
          settling = [];
          parts = p.says.parts ∙ sym (append-nil (enters (length script.lanes) ++ (p.says.lines ++ leaves (length script.lanes))));
          calls = p.says.calls;
          ending = subst (λ (t : Bool). SoloEnd encode t (after_all (core_seen C o v) (enters (length script.lanes) ++ (p.says.lines ++ leaves (length script.lanes)))) []) (sym asked) refl;
          ends = (asked, unfailed (length script.lanes) v u o script p.events refl none (p.went.alone a) p.says);
          idle = p.says.ready.closing.none;
          home = p.says.home;
        };
      }

  -- ---- the whole run

  pub settle_says : (o q : Snapshot (State D J)) (v u w : View (Snapshot (State D J)) Event) (script : Script) (settles : Bool) (r : Result Settled Worn) → q ≡ o → settles ≡ true → v.alone ≡ true → v.seen ≡ [] → MayRun script (core_seen C o v) → Does v u (HasRunScript seen o v u script) →
      Does u w (SettleSays seen q u w r) → IfOk r (λ _. AreHome (core_seen C q w)) → Does v w (RunSays seen o v w script settles r)
  settle_says o q v u w script settles r same asked a none m p s' home' =
      subst (λ (t : Bool). Does v w (RunSays seen o v w script t r)) (sym asked)
      (go r (subst (λ (z : Snapshot (State D J)). Does u w (SettleSays seen z u w r)) same s') (subst (λ (z : Snapshot (State D J)). IfOk r (λ _. AreHome (core_seen C z w))) same home'))
    where
      go : (r : Result Settled Worn) → Does u w (SettleSays seen o u w r) → IfOk r (λ _. AreHome (core_seen C o w)) → Does v w (RunSays seen o v w script true r)
      go (Ok NotAsked) s home = absurd s.says
      go (Ok Done) s home = run_done o v u w script a none m p s home
      go (Ok Failed) s home = run_failed o v u w script a p s home
      go (Err x) s home = record {
        events = p.events ++ s.events;
        went = went_on v u w p.events s.events p.went s.went;
        says =
            let long = script_long o v u script p.events m p.says in
            let k = s.says.1 (ap (λ (z : View (Snapshot (State D J)) Event). z.alone) p.went.pass ∙ a) p.says.frames p.says.coherent p.says.settling in
            omega (arith, length-append p.events s.events);
      }

  pub run_worn : (o : Snapshot (State D J)) (v w : View (Snapshot (State D J)) Event) (script : Script) (settles : Bool) (x : Worn) (r : Result Settled Worn) → IsErr r → Does v w (ScriptSays seen o v w script (Err x)) → Does v w (RunSays seen o v w script settles r)
  run_worn o v w script settles x (Ok y) e p = absurd (cc)
  run_worn o v w script settles x (Err y) e p = record { events = p.events; went = p.went; says = let k = p.says in omega arith }

  -- ---- calls that have ended

  pub left_calls : (o : Snapshot (State D J)) (v w : View (Snapshot (State D J)) Event) (lanes : ℕ) → v.alone ≡ true → Does v w (HaveLeft seen o v w lanes) → calls_of (events_of w.seen) ≡ calls_of (events_of v.seen)
  left_calls o v w lanes a p = calls_stay v w p.events a p.went (ap calls_of p.says.made.are ∙ leaves_tell lanes 0)

  pub settle_calls : (o : Snapshot (State D J)) (v w : View (Snapshot (State D J)) Event) (r : Result Settled Worn) (P : List CallEntry → Type 0) → v.alone ≡ true → Does v w (SettleSays seen o v w r) → P (calls_of (events_of v.seen)) → IfOk r (λ _. P (calls_of (events_of w.seen)))
  settle_calls o v w (Ok NotAsked) P a p k = absurd p.says
  settle_calls o v w (Ok Done) P a p k = subst P (sym (calls_stay v w p.events a p.went (closer_tells p.events p.says.of))) k
  settle_calls o v w (Ok Failed) P a p k = subst P (sym (calls_stay v w p.events a p.went (closer_tells p.events p.says.of))) k
  settle_calls o v w (Err x) P a p k = tt
