-- A run of a crew: from the turn that began to the one that is closed.
use Rattle.std.proofs.Common.{◌≡◌, ℕ, ◌+◌, ◌-◌, ◌<◌, ◌≤◌, ◌^◌, Bool, false, List, [], ◌∷◌, ◌++◌, length, None, sym, ap, ◌∙◌, subst, arith}
use Rattle.std.specs.Prelude.{slice_index_or, take, drop, Result, Ok, Err, IfErr}
use Rattle.std.proofs.Math.Seq.{take-append_seam}
use Rattle.std.proofs.lemmas.Option.{slice_get_within}
use Rattle.std.specs.declared.snapshot.Snapshot.{Snapshot}
use Rattle.turn_cell.specs.declared.pass.Pass.{Pass}
use Rattle.turn_cell.specs.declared.pass.Worn.{Worn as WornTurn}
use Rattle.turn_cell.specs.declared.team.Front.{Front}
use Rattle.turn_cell.specs.declared.turn.Turn.{Turn}
use Rattle.turn_cell.specs.declared.view.Joined.{Joined}
use Rattle.turn_cell.specs.declared.view.View.{View}
use Rattle.turn_cell.specs.Events.{events_of}
use Rattle.turn_cell.specs.Passes.{opening_of, view, IsPassOf, IsFree}
use Rattle.turn_cell.specs.Rule.{first_view}
use Rattle.turn_cell.specs.Steps.{SeesAllowed, IsWorn}
use Rattle.turn_cell.specs.Teams.{IsWhole}
use Rattle.plain_files.specs.declared.calls.Request.{Request}
use Rattle.flash_die.specs.Dies.{DieView}
use Rattle.core_state.specs.declared.actor.Actor.{Actor}
use Rattle.core_state.specs.declared.event.Event.{Event}
use Rattle.core_state.specs.State.{Core}
use Rattle.core_state.specs.Happens.{IsClosing, CoreRun}
use Rattle.core_state.specs.History.{calls_of}
use Rattle.core_state.proofs.Runs.{leads_to}
use Rattle.core_solo.specs.Stored.{IsAllStored}
use Rattle.system_state.specs.Jobs.{JobView}
use Rattle.system_state.specs.Cores.{core_of}
use Rattle.system_state.specs.Settled.{Settled as IsAllSettled}
use Rattle.system_state.specs.Stands.{Stands}
use Rattle.system_state.specs.declared.state.State.{State}
use Rattle.system_metas.specs.Encode.{encode}
use Rattle.desk_turns.specs.Passing.{May, Went, Does, core_seen}
use Rattle.page_steps.specs.Books.{opening_in}
use Rattle.page_steps.specs.SystemOf.{System}
use Rattle.crews.specs.Crews.{Each, IsPlaced, IsKept, IsGathering, numbers_from}
use Rattle.crews.specs.Seats.{IsUntouched}
use Rattle.crews.specs.declared.post.Post.{Post}
use Rattle.lane_runs.specs.Seating.{IsNew, IsSharing}
use Rattle.crew_history.specs.Worked.{HaveWorked, HaveEnded}
use Rattle.crew_history.proofs.Served.{crew_serves, crew_logs, crew_closes, crew_home}
use Rattle.crew_history.proofs.Begins.{crew_begins}
use Rattle.settling.specs.declared.last_sync.Settled.{Settled}
use Rattle.settling.specs.declared.last_sync.Settled.TheVariants.{Done}
use Rattle.lane_logs.specs.declared.logs.LaneLog.{LaneLog}
use Rattle.lane_logs.specs.Logs.{AreLogs}
use Rattle.solo_runs.proofs.Whole.{asked, failed, stored}
use Rattle.crew_runs.specs.Ending.{IsFirst, HasClosed, CloseSays}
use Rattle.crew_runs.specs.Ended.{HasRunLanes, IsWornOut}
use Rattle.crew_runs.specs.declared.run.RunErr.{RunErr}
use Rattle.crew_runs.specs.declared.run.RunErr.TheVariants.{Worn}
use Rattle.crew_runs.proofs.Logging.{AreTaken}

-- the history that an error has
front_in : {A D J : Type 0} → Result A (RunErr D J) → Front (System D J) (Snapshot (State D J)) Event → Front (System D J) (Snapshot (State D J)) Event
front_in (Err (Worn f)) d = f
front_in r d = d

abbrev failing : {D J : Type 0} (A : Type 0) → Front (System D J) (Snapshot (State D J)) Event → Result A (RunErr D J)
failing A f = Err (Worn f)

-- a vector whose elements were all written over
pub written : {A : Type 0} (k : ℕ) (news olds : List A) → k ≡ length news → take k (news ++ drop (length news) olds) ≡ news
written k news olds long = ap (λ (n : ℕ). take n (news ++ drop (length news) olds)) long ∙ take-append_seam news (drop (length news) olds)

-- some element of a list that has one
some_of : {A : Type 0} (xs : List A) → 0 < length xs → A
some_of [] l = absurd (omega arith)
some_of (x ∷ xs) l = x

module _ {D J : Type 0} (seen : D → DieView) (suits : J → JobView → Type 0) (turn : Turn (System D J) (Snapshot (State D J)) Event) where
  abbrev C : State D J → Core
  C = core_of seen

  abbrev O : Snapshot (State D J)
  O = opening_of opening_in turn

  -- the first pass of a new turn
  pub new_first : (root : Pass (System D J) (Snapshot (State D J)) Event) (o : Snapshot (State D J)) → IsPassOf opening_in turn root → IsFree root → view root ≡ first_view false 0 o → IsSharing turn 0 root
  new_first root o t f e =
      record {
        free = (t, f, ap (λ (x : View (Snapshot (State D J)) Event). x.alone) e);
        number = ap (λ (x : View (Snapshot (State D J)) Event). x.number) e;
        saw = ap (λ (x : View (Snapshot (State D J)) Event). x.seen) e;
        own = ap (λ (x : View (Snapshot (State D J)) Event). x.own) e;
        first = ap (λ (x : View (Snapshot (State D J)) Event). x.first) e;
        joined = ap (λ (x : View (Snapshot (State D J)) Event). x.joined) e;
        passes = ap (λ (x : View (Snapshot (State D J)) Event). x.passes) e;
        split = ap (λ (x : View (Snapshot (State D J)) Event). x.split) e;
      }

  pub first_of : (posts : List (Post D J)) (root : Pass (System D J) (Snapshot (State D J)) Event) → IsGathering seen turn posts (length posts) root → IsFirst (view root)
  first_of posts root g = record { shared = g.free.2; number = g.number; first = g.first; own = g.own }

  -- no pass is left to be joined
  pub none_apart : (posts : List (Post D J)) (root : Pass (System D J) (Snapshot (State D J)) Event) (w : View (Snapshot (State D J)) Event) (es : List Event) → IsGathering seen turn posts (length posts) root → Went (view root) w es → (w.number ≡ 0) × (w.split ≡ [])
  none_apart posts root w es g went =
      let n = length posts in
      let none : n - n ≡ 0 = omega arith in
      (ap (λ (x : View (Snapshot (State D J)) Event). x.number) went.pass ∙ g.number, ap (λ (x : View (Snapshot (State D J)) Event). x.split) went.pass ∙ (g.split ∙ ap (numbers_from (n + 1)) none))

  -- what the posts were, and what became of them
  pub record AreOver (lanes : List (List Request)) (olds posts : List (Post D J)) (root : Pass (System D J) (Snapshot (State D J)) Event) : Type 0 where
    pub wide : (C O.value).shape.lanes ≡ length lanes
    pub many : length lanes ≤ length posts
    pub new : Each (IsNew lanes turn) olds
    pub long : length posts ≡ length olds
    pub same : (k : ℕ) (d : Post D J) → k < length olds → ((slice_index_or posts k d).actor ≡ (slice_index_or olds k d).actor) × ((slice_index_or posts k d).requests ≡ (slice_index_or olds k d).requests)
    pub gathering : IsGathering seen turn posts (length posts) root

  -- and how the turn ended
  pub record IsShut (root : Pass (System D J) (Snapshot (State D J)) Event) (w : View (Snapshot (State D J)) Event) (t : State D J) (es : List Event) : Type 0 where
    pub went : Went (view root) w es
    pub whole : IsWhole w
    pub allowed : SeesAllowed (May C) O w
    pub stands : Stands seen suits t O.value w.seen

  core_is : (w : View (Snapshot (State D J)) Event) (t : State D J) → Stands seen suits t O.value w.seen → C t ≡ core_seen C O w
  core_is w t s = leads_to (events_of w.seen) (C O.value) (C t) s.run

  joined_is : (v w : View (Snapshot (State D J)) Event) (es : List Event) → Went v w es → w.joined ≡ v.joined
  joined_is v w es went = ap (λ (z : View (Snapshot (State D J)) Event). z.joined) went.pass

  worked : (lanes : List (List Request)) (olds posts : List (Post D J)) (root : Pass (System D J) (Snapshot (State D J)) Event) (w : View (Snapshot (State D J)) Event) (t : State D J) (es : List Event) → IsUntouched (C O.value) → AreOver lanes olds posts root → IsShut root w t es → HaveWorked seen turn lanes posts w
  worked lanes olds posts root w t es u a z =
      let g = a.gathering in
      let js = joined_is (view root) w es z.went in
      let long = a.long in
      record {
        shared = ap (λ (x : View (Snapshot (State D J)) Event). x.alone) z.went.pass ∙ g.free.2;
        whole = z.whole;
        allowed = z.allowed;
        untouched = u;
        run = subst (CoreRun (C O.value) (events_of w.seen)) (core_is w t z.stands) z.stands.run;
        wide = a.wide;
        many = a.many;
        placed = λ k d l.
            let below : k < length olds = omega arith in
            let s = a.same k d below in
            subst (λ (x : Actor × List Request). IsPlaced lanes k x.0 x.1) (λ i. (sym s.0 i, (sym s.1 i).items)) (a.new k d below).placed;
        count = ap length js ∙ g.count;
        kept = λ j d x l. subst (λ (xs : List (Joined Event)). IsKept seen turn j (slice_index_or posts j d) (slice_index_or xs j x)) (sym js) (g.kept j d x l);
      }

  ended : (posts : List (Post D J)) (root : Pass (System D J) (Snapshot (State D J)) Event) (w : View (Snapshot (State D J)) Event) (es : List Event) → IsGathering seen turn posts (length posts) root → Went (view root) w es → length (view root).seen < 2 ^ 62 → HaveEnded w
  ended posts root w es g went room j x l =
      let js = joined_is (view root) w es went in
      let count = g.count in
      let many : length w.joined ≡ length (view root).joined = ap length js in
      subst (λ (xs : List (Joined Event)). length (slice_index_or xs j x).seen < 2 ^ 62) (sym js) (let a = g.within j x (omega arith) in omega arith)

  logged : (lanes : List (List Request)) (posts : List (Post D J)) (w : View (Snapshot (State D J)) Event) (logs : List LaneLog) → HaveWorked seen turn lanes posts w → HaveEnded w → length logs ≡ length lanes → AreTaken posts logs →
      AreLogs (length lanes) O.value.last (calls_of (events_of w.seen)) logs
  logged lanes posts w logs p e count taken =
      let many = p.many in
      record {
        count = count;
        lane = λ l log at.
            let below = slice_get_within logs l log at in
            (taken l (some_of posts (omega arith)) log at).0;
        replies = λ l log at.
            let below = slice_get_within logs l log at in
            let d = some_of posts (omega arith) in
            let lane : l < length lanes = omega arith in
            (λ i. ((taken l d log at).1 i).items) ∙ crew_logs seen turn lanes posts w p e l d lane;
      }

  pub over : (lanes : List (List Request)) (olds posts : List (Post D J)) (root : Pass (System D J) (Snapshot (State D J)) Event) (w : View (Snapshot (State D J)) Event) (t : State D J) (es : List Event) (settles : Bool) (settled : Settled) (logs : List LaneLog) → IsUntouched (C O.value) → AreOver lanes olds posts root → IsShut root w t es →
      HasClosed seen O (view root) w settles settled es → (IsAllStored encode (C t) → ((lane : ℕ) → (C t).calls lane ≡ None) → ((die : ℕ) → ((C t).dies die).out ≡ None) → IsAllSettled seen t) → length logs ≡ length lanes → AreTaken posts logs →
      HasRunLanes seen suits lanes settles O.value t w.seen logs settled
  over lanes olds posts root w t es settles settled logs u a z h settles_it count taken =
      let p = worked lanes olds posts root w t es u a z in
      let e = ended posts root w es a.gathering z.went h.room in
      let same = core_is w t z.stands in
      let left : IsClosing (C t) = subst IsClosing (sym same) (crew_closes seen turn lanes posts w p e) in
      let home : (die : ℕ) → ((C t).dies die).out ≡ None = subst (λ (c : Core). (die : ℕ) → (c.dies die).out ≡ None) (sym same) (crew_home seen turn lanes posts w p e h.none) in
      let all : settled ≡ Done → IsAllStored encode (C t) = λ done. subst (IsAllStored encode) (sym same) (stored seen O w settles settled h.ends done) in
      record {
        stands = z.stands;
        serves = crew_serves seen turn lanes posts w p e;
        logs = logged lanes posts w logs p e count taken;
        left = left;
        home = home;
        asked = asked seen O w settles settled h.ends;
        failed = failed seen O w settles settled h.ends;
        stored = all;
        settled = λ done. settles_it (all done) left.none home;
      }

  pub worn_out : (lanes : List (List Request)) (olds posts : List (Post D J)) (root : Pass (System D J) (Snapshot (State D J)) Event) (w : View (Snapshot (State D J)) Event) (t : State D J) (es : List Event) (count : ℕ) → IsUntouched (C O.value) → AreOver lanes olds posts root → IsShut root w t es → IsWorn count w → IsWornOut seen suits lanes O.value w.seen
  worn_out lanes olds posts root w t es count u a z worn =
      let first : w.first ≡ 0 = ap (λ (x : View (Snapshot (State D J)) Event). x.first) z.went.pass ∙ a.gathering.first in
      let all = worn.1 in
      record {
        state = t;
        stands = z.stands;
        count = omega arith;
        begun = crew_begins seen turn lanes posts w (worked lanes olds posts root w t es u a z);
      }

  -- ---- and as the end of the run tells it

  pub ran : (lanes : List (List Request)) (olds posts : List (Post D J)) (root end front : Pass (System D J) (Snapshot (State D J)) Event) (t : State D J) (settles : Bool) (r : Result Settled WornTurn) (settled : Settled) (logs : List LaneLog) → IsUntouched (C O.value) → AreOver lanes olds posts root →
      front ≡ end → r ≡ Ok settled → Does (view root) (view end) (CloseSays seen O (view root) (view end) settles r) → IsWhole (view end) → SeesAllowed (May C) O (view end) → Stands seen suits t O.value (view end).seen →
      (IsAllStored encode (C t) → ((lane : ℕ) → (C t).calls lane ≡ None) → ((die : ℕ) → ((C t).dies die).out ≡ None) → IsAllSettled seen t) → length logs ≡ length lanes → AreTaken posts logs → HasRunLanes seen suits lanes settles O.value t (view front).seen logs settled
  ran lanes olds posts root end front t settles r settled logs u a same is d whole allowed stands settles_it count taken =
      subst (λ (p : Pass (System D J) (Snapshot (State D J)) Event). HasRunLanes seen suits lanes settles O.value t (view p).seen logs settled) (sym same)
      (over lanes olds posts root (view end) t d.events settles settled logs u a (record { went = d.went; whole = whole; allowed = allowed; stands = stands })
      (subst (λ (x : Result Settled WornTurn). CloseSays seen O (view root) (view end) settles x d.events) is d.says) settles_it count taken)

  pub worn : {A : Type 0} (lanes : List (List Request)) (olds posts : List (Post D J)) (root end : Pass (System D J) (Snapshot (State D J)) Event) (front told : Front (System D J) (Snapshot (State D J)) Event) (t : State D J) (settles : Bool) (r : Result Settled WornTurn) (x : WornTurn) → IsUntouched (C O.value) →
      AreOver lanes olds posts root → front.pass.value ≡ end → r ≡ Err x → Does (view root) (view end) (CloseSays seen O (view root) (view end) settles r) → IsWhole (view end) → SeesAllowed (May C) O (view end) → Stands seen suits t O.value (view end).seen → IfErr r (λ y. IsWorn y.count (view end)) →
      failing A front ≡ failing A told → IsWornOut seen suits lanes O.value (view told.pass.value).seen
  unfolding front_in
  worn {A = A} lanes olds posts root end front told t settles r x u a same is d whole allowed stands count tells =
      subst (λ (p : Pass (System D J) (Snapshot (State D J)) Event). IsWornOut seen suits lanes O.value (view p).seen) (sym same ∙ ap (λ (z : Result A (RunErr D J)). (front_in z told).pass.value) tells)
      (worn_out lanes olds posts root (view end) t d.events x.count u a (record { went = d.went; whole = whole; allowed = allowed; stands = stands })
      (subst (λ (y : Result Settled WornTurn). IfErr y (λ z. IsWorn z.count (view end))) is count))
