-- A lane enters, makes its calls, and leaves.
use Rattle.std.proofs.Common.{◌≡◌, ℕ, ◌<◌, ◌≤◌, ◌+◌, Bool, true, false, List, [], ◌∷◌, ◌++◌, map, length, Option, Some, None, refl, sym, ap, ◌∙◌, subst, arith, eq-eqb, append-nil, append_assoc, length-append}
use Rattle.std.specs.Prelude.{◌==◌, if◌then◌else◌, is_some, Result, Ok, Err}
use Rattle.std.specs.Result.{IsErr}
use mathlib.Core.List.{map-append}
use Rattle.std.specs.declared.snapshot.Snapshot.{Snapshot}
use Rattle.turn_cell.specs.declared.book.Entry as turn_cell
use Rattle.turn_cell.specs.declared.view.View.{View}
use Rattle.turn_cell.specs.declared.pass.Worn.{Worn}
use Rattle.turn_cell.specs.Events.{events_of}
use Rattle.turn_cell.specs.History.{entry, entries_of, StartsWith}
use Rattle.turn_cell.proofs.Plain.{entries_append}
use Rattle.plain_files.specs.declared.calls.Numbered.{Numbered}
use Rattle.plain_files.specs.declared.calls.Request.{Request}
use Rattle.plain_files.specs.History.{Entry}
use Rattle.flash_die.specs.Dies.{DieView}
use Rattle.system_state.specs.declared.state.State.{State}
use Rattle.core_state.specs.declared.actor.Actor.{Actor}
use Rattle.core_state.specs.declared.actor.Actor.TheVariants.{Lane}
use Rattle.core_state.specs.declared.event.Event.{Event}
use Rattle.core_state.specs.declared.event.Event.TheVariants.{Enter, Leave}
use Rattle.core_state.specs.State.{Shape, Inside, Gone, LaneState, Core}
use Rattle.core_state.specs.LaneEvents.{entered, left_by, MayEnter, MayLeave}
use Rattle.core_state.specs.Happens.{HoldsNone, CoreRun}
use Rattle.core_state.specs.History.{entry_of, and_then, calls_of}
use Rattle.core_state.specs.Hold.{HeldLane, hold}
use Rattle.core_state.specs.Coherent.{Coherent}
use Rattle.desk_turns.specs.Passing.{ActsFor, Turn, Went, Does, core_after, core_seen}
use Rattle.desk_turns.proofs.Holding.{shapes_kept}
use Rattle.desk_turns.proofs.Later.{own_idle, none_kept, none_of, mark_of, lane_same}
use Rattle.desk_turns.proofs.Went.{of_on, went_on, went_none, went_turn}
use Rattle.lane_history.specs.Lanes.{requests_in}
use Rattle.lane_history.proofs.Cuts.{requests_append}
use Rattle.page_steps.specs.Making.{IsFree}
use Rattle.page_steps.specs.Words.{IsNumbered}
use Rattle.crews.specs.Calls.{HasReplied, CallSays}
use Rattle.crews.specs.Lanes.{IsCallOf, AreLogged, HasCalled, HasRun, CallsSay, LaneSays}
use Rattle.crews.specs.Seats.{IsOutside}

-- ---- a lane in the core

outside_kept : (c c2 : Core) (lane : ℕ) → Coherent c2 → hold c2 (Lane lane) ≡ hold c (Lane lane) → c2.shape ≡ c.shape → IsOutside c lane → IsOutside c2 lane
outside_kept c c2 lane h same shape p =
    let k = lane_same c c2 lane same in
    let none = none_of (c2.calls lane) (ap (λ (x : HeldLane). x.in_flight) k ∙ ap is_some p.idle) in
    record {
      within = subst (λ (z : Shape). lane < z.lanes) (sym shape) p.within;
      outside = ap (λ (x : HeldLane). x.stage) k ∙ p.outside;
      idle = none;
      unmarked = mark_of (c.lanes lane) (c2.lanes lane) (c.calls lane) (c2.calls lane) p.idle none k ∙ p.unmarked;
      none = none_kept c c2 (Lane lane) h same shape p.none;
    }

free_again : (c c2 : Core) (lane : ℕ) → Coherent c2 → hold c2 (Lane lane) ≡ hold c (Lane lane) → c2.shape ≡ c.shape → IsFree c lane → IsFree c2 lane
free_again c c2 lane h same shape p =
    let k = lane_same c c2 lane same in
    let none = none_of (c2.calls lane) (ap (λ (x : HeldLane). x.in_flight) k ∙ ap is_some p.idle.idle) in
    record {
      idle = record {
        within = subst (λ (z : Shape). lane < z.lanes) (sym shape) p.idle.within;
        inside = ap (λ (x : HeldLane). x.stage) k ∙ p.idle.inside;
        idle = none;
      };
      mark = mark_of (c.lanes lane) (c2.lanes lane) (c.calls lane) (c2.calls lane) p.idle.idle none k ∙ p.mark;
      none = none_kept c c2 (Lane lane) h same shape p.none;
    }

inside_now : (c : Core) (lane : ℕ) → (entered c lane).lanes lane ≡ record (c.lanes lane) { stage = Inside }
inside_now c lane = ap (λ (b : Bool). if b then record (c.lanes lane) { stage = Inside } else c.lanes lane) (eq-eqb lane lane refl)

gone_now : (c : Core) (lane : ℕ) → (left_by c lane).lanes lane ≡ record (c.lanes lane) { stage = Gone }
gone_now c lane = ap (λ (b : Bool). if b then record (c.lanes lane) { stage = Gone } else c.lanes lane) (eq-eqb lane lane refl)

free_entered : (c : Core) (lane : ℕ) → IsOutside c lane → IsFree (entered c lane) lane
free_entered c lane p =
    record {
      idle = record { within = p.within; inside = ap (λ (x : LaneState). x.stage) (inside_now c lane); idle = p.idle };
      mark = ap (λ (x : LaneState). x.mark) (inside_now c lane) ∙ p.unmarked;
      none = p.none;
    }

pub may_enter : (c : Core) (lane : ℕ) → IsOutside c lane → MayEnter c lane
may_enter c lane p = record { within = p.within; outside = p.outside }

pub may_leave : (c : Core) (lane : ℕ) → IsFree c lane → MayLeave c lane
may_leave c lane p = record { idle = p.idle; unmarked = p.mark }

-- ---- calls and logs

calls_append : (es fs : List Event) → calls_of (es ++ fs) ≡ calls_of es ++ calls_of fs
calls_append [] fs = refl
calls_append (e ∷ es) fs = go (entry_of e) (calls_append es fs)
  where
    go : (o : Option Entry) → calls_of (es ++ fs) ≡ calls_of es ++ calls_of fs → and_then o (calls_of (es ++ fs)) ≡ and_then o (calls_of es) ++ calls_of fs
    go None p = p
    go (Some x) p = ap (λ z. x ∷ z) p

-- how many calls a history has
abbrev count : List (turn_cell.Entry Event) → ℕ
count h = length (calls_of (events_of h))

count_append : (h k : List (turn_cell.Entry Event)) → count (h ++ k) ≡ count h + count k
count_append h k =
    let long = length-append (calls_of (events_of h)) (calls_of (events_of k)) in
    ap (λ z. length (calls_of z)) (map-append (λ (e : turn_cell.Entry Event). e.event) h k) ∙ (ap length (calls_append (events_of h) (events_of k)) ∙ long)

count_made : (n : ℕ) (es : List Event) → count (map (entry n) es) ≡ length (calls_of es)
count_made n es = ap (λ z. length (calls_of z)) (unmade es)
  where
    unmade : (es : List Event) → events_of (map (entry n) es) ≡ es
    unmade [] = refl
    unmade (e ∷ es) = ap (λ z. e ∷ z) (unmade es)

-- a pass ended no more calls than all did
count_own : (n : ℕ) (h : List (turn_cell.Entry Event)) → count (entries_of n h) ≤ count h
count_own n [] = omega arith
count_own n (x ∷ xs) = one (x.number == n) (count_own n xs)
  where
    and_more : (o : Option Entry) (ys zs : List Entry) → length ys ≤ length zs → length (and_then o ys) ≤ length (and_then o zs)
    and_more None ys zs l = l
    and_more (Some y) ys zs l = omega arith

    and_some : (o : Option Entry) (ys zs : List Entry) → length ys ≤ length zs → length ys ≤ length (and_then o zs)
    and_some None ys zs l = l
    and_some (Some y) ys zs l = omega arith

    one : (b : Bool) → count (entries_of n xs) ≤ count xs → count (if b then (x ∷ entries_of n xs) else entries_of n xs) ≤ length (and_then (entry_of x.event) (calls_of (events_of xs)))
    one true l = and_more (entry_of x.event) (calls_of (events_of (entries_of n xs))) (calls_of (events_of xs)) l
    one false l = and_some (entry_of x.event) (calls_of (events_of (entries_of n xs))) (calls_of (events_of xs)) l

-- where a pass has seen all that it made, and ends a call, the history has more calls
count_grows : (n : ℕ) (h k own : List (turn_cell.Entry Event)) (es : List Event) (e : Entry) → StartsWith k h → entries_of n h ≡ own → entries_of n k ≡ own ++ map (entry n) es → calls_of es ≡ e ∷ [] → count h < count k
count_grows n h k own es e s was is ends =
    let all = ap count s.1 ∙ count_append h s.0 in
    let mine = ap count (sym is ∙ (ap (entries_of n) s.1 ∙ (entries_append n h s.0 ∙ ap (λ z. z ++ entries_of n s.0) was))) in
    let left = count_append own (map (entry n) es) in
    let right = count_append own (entries_of n s.0) in
    let one = count_made n es ∙ ap length ends in
    let own_less = count_own n s.0 in
    omega arith

call_more : (last number : ℕ) (all more : List Entry) (e : Entry) → IsCallOf last all number e → IsCallOf last (all ++ more) number e
call_more last number all more e n =
    record { before = n.before; rest = n.rest ++ more; split = ap (λ z. z ++ more) n.split ∙ append_assoc n.before (e ∷ n.rest) more; number_is = n.number_is }

call_within : (last number : ℕ) (all : List Entry) (e : Entry) → IsCallOf last all number e → number ≤ last + length all
call_within last number all e n =
    let long = ap length n.split ∙ length-append n.before (e ∷ n.rest) in
    let is = n.number_is in
    omega arith

logged_more : (last floor : ℕ) (all more : List Entry) (log : List Numbered) (es : List Entry) → AreLogged last all floor log es → AreLogged last (all ++ more) floor log es
logged_more last floor all more [] [] p = tt
logged_more last floor all more [] (e ∷ es) p = p
logged_more last floor all more (n ∷ ns) [] p = p
logged_more last floor all more (n ∷ ns) (e ∷ es) p = (p.0, p.1, call_more last n.number all more e p.2, logged_more last n.number all more ns es p.3)

-- one call more, whose number is above those of all calls that had ended
logged_push : (last floor : ℕ) (all more : List Entry) (log : List Numbered) (es : List Entry) (n : Numbered) (e : Entry) → AreLogged last all floor log es → floor < n.number → last + length all < n.number → n.reply ≡ e.reply → IsCallOf last (all ++ more) n.number e →
    AreLogged last (all ++ more) floor (log ++ n ∷ []) (es ++ e ∷ [])
logged_push last floor all more [] [] n e p low above same is = (same, low, is, tt)
logged_push last floor all more [] (x ∷ xs) n e p low above same is = absurd p
logged_push last floor all more (m ∷ ms) [] n e p low above same is = absurd p
logged_push last floor all more (m ∷ ms) (x ∷ xs) n e p low above same is =
    let within = call_within last m.number all x p.2 in
    (p.0, p.1, call_more last m.number all more x p.2, logged_push last m.number all more ms xs n e p.3 (omega arith) above same is)

-- the calls of a later history
calls_later : (h k : List (turn_cell.Entry Event)) → (s : StartsWith k h) → calls_of (events_of k) ≡ calls_of (events_of h) ++ calls_of (events_of s.0)
calls_later h k s =
    ap (λ z. calls_of (events_of z)) s.1 ∙ (ap calls_of (map-append (λ (e : turn_cell.Entry Event). e.event) h s.0) ∙ calls_append (events_of h) (events_of s.0))

logged_seen : (last : ℕ) (h k : List (turn_cell.Entry Event)) (log : List Numbered) (es : List Entry) → StartsWith k h → AreLogged last (calls_of (events_of h)) last log es → AreLogged last (calls_of (events_of k)) last log es
logged_seen last h k log es s p = subst (λ z. AreLogged last z last log es) (sym (calls_later h k s)) (logged_more last last (calls_of (events_of h)) (calls_of (events_of s.0)) log es p)

-- the last of the calls has been logged too
logged_last : (last : ℕ) (h k : List (turn_cell.Entry Event)) (log : List Numbered) (es : List Entry) (n : Numbered) (e : Entry) → StartsWith k h → count h < count k → AreLogged last (calls_of (events_of h)) last log es → n.reply ≡ e.reply →
    IsNumbered last (calls_of (events_of k)) n.number e → AreLogged last (calls_of (events_of k)) last (log ++ n ∷ []) (es ++ e ∷ [])
logged_last last h k log es n e s grown p same number =
    let all = calls_of (events_of h) in
    let more = calls_of (events_of s.0) in
    let later = calls_later h k s in
    let call : IsCallOf last (all ++ more) n.number e = record { before = number.before; rest = []; split = sym later ∙ number.split; number_is = number.number_is } in
    let long = ap length number.split ∙ length-append number.before (e ∷ []) in
    let is = number.number_is in
    subst (λ z. AreLogged last z last (log ++ n ∷ []) (es ++ e ∷ [])) (sym later) (logged_push last last all more log es n e p (omega arith) (omega arith) same call)

module _ {S : Type 0} (core : S → Core) (last : ℕ) where
  abbrev pub V : Type 0
  V = View (Snapshot S) Event

  -- ---- the calls

  abbrev pub Called : Snapshot S → V → V → ℕ → List Request → List Numbered → Type 0
  Called o v u lane requests log = Does v u (HasCalled core last o u.seen lane requests log)

  pub called_none : (o : Snapshot S) (v : V) (lane : ℕ) (log : List Numbered) → IsFree (core_seen core o v) lane → log ≡ [] → Called o v v lane [] log
  called_none o v lane log free none =
      record {
        events = [];
        went = went_none v;
        says = record { of = tt; asked = refl; logged = subst (λ z. AreLogged last (calls_of (events_of v.seen)) last z []) (sym none) tt; after = free };
      }

  pub called_on : (o q : Snapshot S) (v u w : V) (lane : ℕ) (requests : List Request) (request : Request) (log more : List Numbered) (n : Numbered) → q ≡ o → entries_of v.number v.seen ≡ v.own → Called o v u lane requests log →
      Does u w (CallSays core q w lane request (Ok n)) → IsNumbered last (calls_of (events_of w.seen)) n.number (record { lane = lane; call = request.call; reply = n.reply }) →
      more ≡ log ++ n ∷ [] → Called o v w lane (requests ++ request ∷ []) more
  called_on o q v u w lane requests request log more n same settled p c number is =
      let k = subst (λ (z : Snapshot S). HasReplied core z w lane request n.reply c.events) same c.says in
      let e : Entry = record { lane = lane; call = request.call; reply = n.reply } in
      let had : entries_of u.number u.seen ≡ u.own = subst (λ (k : ℕ). entries_of k u.seen ≡ u.own) (sym (ap (λ (z : V). z.number) p.went.pass)) (p.went.settled settled) in
      let grown = count_grows u.number u.seen w.seen u.own c.events e c.went.seen had (c.went.settled had ∙ c.went.own) k.calls in
      let now = logged_last last u.seen w.seen log (calls_of p.events) n e c.went.seen grown p.says.logged refl number in
      let calls : calls_of (p.events ++ c.events) ≡ calls_of p.events ++ e ∷ [] = calls_append p.events c.events ∙ ap (λ z. calls_of p.events ++ z) k.calls in
      record {
        events = p.events ++ c.events;
        went = went_on v u w p.events c.events p.went c.went;
        says = record {
          of = of_on (Lane lane) p.events c.events p.says.of k.of;
          asked = requests_append lane p.events c.events ∙ (λ i. p.says.asked i ++ k.asked i);
          logged = subst (λ (z : List Numbered × List Entry). AreLogged last (calls_of (events_of w.seen)) last z.0 z.1) (λ i. (sym is i, sym calls i)) now;
          after = k.after;
        };
      }

  pub calls_end : (o : Snapshot S) (v w : V) (lane : ℕ) (some all : List Request) (log : List Numbered) → some ≡ all → Called o v w lane some log → Does v w (CallsSay core last o w.seen lane all log (Ok tt))
  calls_end o v w lane some all log same p = subst (λ z. Does v w (HasCalled core last o w.seen lane z log)) same p

  pub calls_worn : (o q : Snapshot S) (v u w : V) (lane : ℕ) (some rest all : List Request) (request : Request) (log late : List Numbered) (x : Worn) (r : Result (Unit {0}) Worn) → IsErr r → q ≡ o → all ≡ some ++ rest → Called o v u lane some log →
      Does u w (CallSays core q w lane request (Err x)) → Does v w (CallsSay core last o w.seen lane all late r)
  calls_worn o q v u w lane some rest all request log late x (Ok y) e same cut p c = absurd (cc)
  calls_worn o q v u w lane some rest all request log late x (Err y) e same cut p c =
      record {
        events = p.events ++ c.events;
        went = went_on v u w p.events c.events p.went c.went;
        says = (
          of_on (Lane lane) p.events c.events p.says.of c.says.0,
          (rest, cut ∙ ap (λ z. z ++ rest) (sym (requests_append lane p.events c.events ∙ ((λ i. p.says.asked i ++ c.says.1 i) ∙ append-nil some)))),
        );
      }

  -- ---- enter and leave

  same_shape : (o : Snapshot S) (h k : List (turn_cell.Entry Event)) → (core_after core o h).shape ≡ (core_after core o k).shape
  same_shape o h k = shapes_kept (events_of h) (core o.value) ∙ sym (shapes_kept (events_of k) (core o.value))

  pub enter_free : (o : Snapshot S) (v u : V) (lane : ℕ) → ActsFor core o v (Lane lane) → IsOutside (core_seen core o v) lane → Turn core o v u (λ c es. es ≡ Enter lane ∷ []) → IsFree (core_seen core o u) lane
  enter_free o v u lane acts p t =
      let c = core_after core o (v.seen ++ t.between) in
      let again = outside_kept (core_seen core o v) c lane t.coherent (t.kept (Lane lane) acts (own_idle (core_seen core o v) lane p.idle)) (same_shape o (v.seen ++ t.between) v.seen) p in
      let run : CoreRun c (Enter lane ∷ []) (core_seen core o u) = subst (λ (es : List Event). CoreRun c es (core_seen core o u)) t.says t.run in
      subst (λ (d : Core). IsFree d lane) (sym run.1) (free_entered c lane again)

  -- after a turn a pass has seen all that it made
  pub settled_by : (o : Snapshot S) (v u : V) (lane : ℕ) → Turn core o v u (λ c es. es ≡ Enter lane ∷ []) → entries_of u.number u.seen ≡ u.own
  settled_by o v u lane t = ap (λ (n : ℕ). entries_of n u.seen) (ap (λ (z : V). z.number) t.pass) ∙ t.settled

  abbrev pub HasGone : Core → ℕ → Type 0
  HasGone c lane = ((c.lanes lane).stage ≡ Gone) × (c.calls lane ≡ None) × HoldsNone c (Lane lane)

  leave_gone : (o : Snapshot S) (v u : V) (lane : ℕ) → ActsFor core o v (Lane lane) → IsFree (core_seen core o v) lane → Turn core o v u (λ c es. es ≡ Leave lane ∷ []) → HasGone (core_seen core o u) lane
  leave_gone o v u lane acts p t =
      let c = core_after core o (v.seen ++ t.between) in
      let again = free_again (core_seen core o v) c lane t.coherent (t.kept (Lane lane) acts (own_idle (core_seen core o v) lane p.idle.idle)) (same_shape o (v.seen ++ t.between) v.seen) p in
      let run : CoreRun c (Leave lane ∷ []) (core_seen core o u) = subst (λ (es : List Event). CoreRun c es (core_seen core o u)) t.says t.run in
      subst (λ (d : Core). HasGone d lane) (sym run.1) (ap (λ (x : LaneState). x.stage) (gone_now c lane), again.idle.idle, again.none)

  pub acts_on : (o : Snapshot S) (v u : V) (lane : ℕ) (es : List Event) → Went v u es → ActsFor core o v (Lane lane) → ActsFor core o u (Lane lane)
  acts_on o v u lane es w acts = subst (λ (z : V). ActsFor core o z (Lane lane)) (sym w.pass) acts

  -- ---- the whole

  pub lane_ran : (o q r : Snapshot S) (v u1 u2 w : V) (lane : ℕ) (requests : List Request) (log : List Numbered) → q ≡ o → r ≡ o → ActsFor core o v (Lane lane) → Turn core o v u1 (λ c es. es ≡ Enter lane ∷ []) →
      Does u1 u2 (CallsSay core last q u2.seen lane requests log (Ok tt)) → Turn core r u2 w (λ c es. es ≡ Leave lane ∷ []) → Does v w (LaneSays core last o w.seen lane requests log (Ok tt))
  lane_ran o q r v u1 u2 w lane requests log same same2 acts te p t2 =
      let k = subst (λ (z : Snapshot S). HasCalled core last z u2.seen lane requests log p.events) same p.says in
      let tl = subst (λ (z : Snapshot S). Turn core z u2 w (λ c es. es ≡ Leave lane ∷ [])) same2 t2 in
      let first = went_turn core o v u1 (λ c es. es ≡ Enter lane ∷ []) te in
      let both = went_on v u1 u2 te.events p.events first p.went in
      let end = went_turn core o u2 w (λ c es. es ≡ Leave lane ∷ []) tl in
      let es = Enter lane ∷ p.events ++ Leave lane ∷ [] in
      let are : (te.events ++ p.events) ++ tl.events ≡ es = λ i. (te.says i ++ p.events) ++ tl.says i in
      let gone = leave_gone o u2 w lane (acts_on o v u2 lane (te.events ++ p.events) both acts) k.after tl in
      let calls : calls_of es ≡ calls_of p.events = calls_append p.events (Leave lane ∷ []) ∙ append-nil (calls_of p.events) in
      record {
        events = es;
        went = subst (Went v w) are (went_on v u2 w (te.events ++ p.events) tl.events both end);
        says = record {
          middle = p.events;
          are = refl;
          of = (refl, of_on (Lane lane) p.events (Leave lane ∷ []) k.of (refl, tt));
          asked = requests_append lane p.events (Leave lane ∷ []) ∙ (append-nil (requests_in lane p.events) ∙ k.asked);
          logged = subst (λ z. AreLogged last (calls_of (events_of w.seen)) last log z) (sym calls) (logged_seen last u2.seen w.seen log (calls_of p.events) end.seen k.logged);
          gone = gone.0;
          idle = gone.1;
          none = gone.2;
        };
      }

  pub lane_unentered : (o : Snapshot S) (v u : V) (lane : ℕ) (requests : List Request) (log : List Numbered) (r : Result (Unit {0}) Worn) → IsErr r → Went v u [] → Does v u (LaneSays core last o u.seen lane requests log r)
  lane_unentered o v u lane requests log (Ok y) e w = absurd (cc)
  lane_unentered o v u lane requests log (Err y) e w = record { events = []; went = w; says = (tt, (requests, refl)) }

  pub lane_cut : (o q : Snapshot S) (v u1 u2 : V) (lane : ℕ) (requests : List Request) (log late : List Numbered) (x : Worn) (r : Result (Unit {0}) Worn) → IsErr r → q ≡ o → Turn core o v u1 (λ c es. es ≡ Enter lane ∷ []) →
      Does u1 u2 (CallsSay core last q u2.seen lane requests log (Err x)) → Does v u2 (LaneSays core last o u2.seen lane requests late r)
  lane_cut o q v u1 u2 lane requests log late x (Ok y) e same te p = absurd (cc)
  lane_cut o q v u1 u2 lane requests log late x (Err y) e same te p =
      let are : te.events ++ p.events ≡ Enter lane ∷ p.events = λ i. te.says i ++ p.events in
      record {
        events = Enter lane ∷ p.events;
        went = subst (Went v u2) are (went_on v u1 u2 te.events p.events (went_turn core o v u1 (λ c es. es ≡ Enter lane ∷ []) te) p.went);
        says = ((refl, p.says.0), p.says.1);
      }

  pub lane_unleft : (o q : Snapshot S) (v u1 u2 w : V) (lane : ℕ) (requests : List Request) (log late : List Numbered) (r : Result (Unit {0}) Worn) → IsErr r → q ≡ o → Turn core o v u1 (λ c es. es ≡ Enter lane ∷ []) →
      Does u1 u2 (CallsSay core last q u2.seen lane requests log (Ok tt)) → Went u2 w [] → Does v w (LaneSays core last o w.seen lane requests late r)
  lane_unleft o q v u1 u2 w lane requests log late (Ok y) e same te p w2 = absurd (cc)
  lane_unleft o q v u1 u2 w lane requests log late (Err y) e same te p w2 =
      let are : (te.events ++ p.events) ++ [] ≡ Enter lane ∷ p.events = append-nil (te.events ++ p.events) ∙ (λ i. te.says i ++ p.events) in
      record {
        events = Enter lane ∷ p.events;
        went = subst (Went v w) are (went_on v u2 w (te.events ++ p.events) [] (went_on v u1 u2 te.events p.events (went_turn core o v u1 (λ c es. es ≡ Enter lane ∷ []) te) p.went) w2);
        says = ((refl, p.says.of), ([], sym p.says.asked ∙ sym (append-nil (requests_in lane p.events))));
      }

  -- what a lane that has left has, and whoever holds no die, is found again
  pub gone_again : (o : Snapshot S) (h k : List (turn_cell.Entry Event)) (a : Actor) → hold (core_after core o k) a ≡ hold (core_after core o h) a → Coherent (core_after core o k) →
      (HoldsNone (core_after core o h) a → HoldsNone (core_after core o k) a)
      × ((l : ℕ) (requests : List Request) (log : List Numbered) (es : List Event) → a ≡ Lane l → StartsWith k h → HasRun core last o h l requests log es → HasRun core last o k l requests log es)
  gone_again o h k a same coherent = (
    none_kept (core_after core o h) (core_after core o k) a coherent same (same_shape o k h),
    λ l requests log es is starts p.
        let held : hold (core_after core o k) (Lane l) ≡ hold (core_after core o h) (Lane l) = subst (λ (z : Actor). hold (core_after core o k) z ≡ hold (core_after core o h) z) is same in
        let again = lane_same (core_after core o h) (core_after core o k) l held in
        record {
          middle = p.middle;
          are = p.are;
          of = p.of;
          asked = p.asked;
          logged = logged_seen last h k log (calls_of es) starts p.logged;
          gone = ap (λ (x : HeldLane). x.stage) again ∙ p.gone;
          idle = none_of ((core_after core o k).calls l) (ap (λ (x : HeldLane). x.in_flight) again ∙ ap is_some p.idle);
          none = none_kept (core_after core o h) (core_after core o k) (Lane l) coherent held (same_shape o k h) p.none;
        },
  )

module _ {D J : Type 0} (seen : D → DieView) where
  pub numbered_at : (o q : Snapshot (State D J)) (lane : ℕ) (request : Request) (w : View (Snapshot (State D J)) Event) (n : Numbered) → q ≡ o → IsNumbered q.value.last (calls_of (events_of w.seen)) n.number (record { lane = lane; call = request.call; reply = n.reply }) →
      IsNumbered o.value.last (calls_of (events_of w.seen)) n.number (record { lane = lane; call = request.call; reply = n.reply })
  numbered_at o q lane request w n same is = subst (λ (z : Snapshot (State D J)). IsNumbered z.value.last (calls_of (events_of w.seen)) n.number (record { lane = lane; call = request.call; reply = n.reply })) same is
