-- What an actor did, and a last look after it.
use Rattle.std.proofs.Common.{◌≡◌, ℕ, ◌<◌, ◌+◌, ◌^◌, false, List, [], ◌++◌, map, length, sym, ap, ◌∙◌, subst, ⊎_elim, append-nil, arith}
use Rattle.std.specs.Prelude.{Result, Ok, Err}
use Rattle.std.specs.declared.snapshot.Snapshot.{Snapshot}
use Rattle.turn_cell.specs.declared.view.View.{View}
use Rattle.turn_cell.specs.declared.pass.Worn.{Worn}
use Rattle.turn_cell.specs.History.{entry, entries_of}
use Rattle.plain_files.specs.declared.calls.Numbered.{Numbered}
use Rattle.plain_files.specs.declared.calls.Request.{Request}
use Rattle.flash_die.specs.Dies.{DieView}
use Rattle.core_state.specs.declared.actor.Actor.{Actor}
use Rattle.core_state.specs.declared.actor.Actor.TheVariants.{Lane, Worker, Flusher}
use Rattle.core_state.specs.declared.event.Event.{Event}
use Rattle.core_state.specs.State.{Core}
use Rattle.core_state.specs.Happens.{HoldsNone}
use Rattle.system_state.specs.Cores.{core_of}
use Rattle.system_state.specs.declared.state.State.{State}
use Rattle.desk_turns.specs.Making.{AreOf}
use Rattle.desk_turns.specs.Passing.{ActsFor, IsItsOwn, Went, Does, core_after, core_seen}
use Rattle.desk_turns.proofs.Later.{own_idle}
use Rattle.desk_turns.proofs.Went.{went_on}
use Rattle.flusher.specs.Flusher.{LoopSays}
use Rattle.page_steps.specs.JobTurns.{IsUnbusy}
use Rattle.page_steps.specs.Words.{StillHolds}
use Rattle.crews.specs.Acts.{HasActed, ActSays}
use Rattle.crews.specs.Calls.{WorkSays}
use Rattle.crews.specs.Lanes.{EndsFirst, HasRun, LaneSays}
use Rattle.crews.specs.Posts.{HasWorked}
use Rattle.crews.specs.Seats.{IsUntouched, IsOutside}
use Rattle.crews.proofs.LaneRuns.{gone_again}

own_worker : (c : Core) (w : ℕ) → IsItsOwn c (Worker w)
own_worker c w = λ l f is flies. absurd (cc)

own_flusher : (c : Core) (f : ℕ) → IsItsOwn c (Flusher f)
own_flusher c f = λ l g is flies. absurd (cc)

lane_is : (a : Actor) (l k : ℕ) → a ≡ Lane l → a ≡ Lane k → l ≡ k
lane_is a l k p q = cc

not_worker : (a : Actor) (w l : ℕ) → a ≡ Worker w → a ≡ Lane l → ⊥
not_worker a w l p q = absurd (cc)

not_flusher : (a : Actor) (f l : ℕ) → a ≡ Flusher f → a ≡ Lane l → ⊥
not_flusher a f l p q = absurd (cc)

module _ {S : Type 0} (core : S → Core) (last : ℕ) where
  abbrev V : Type 0
  V = View (Snapshot S) Event

  at_first : (o : Snapshot S) (v : V) → v.seen ≡ [] → core o.value ≡ core_seen core o v
  at_first o v saw = ap (core_after core o) (sym saw)

  pub none_at : (o : Snapshot S) (v : V) (a : Actor) → v.seen ≡ [] → IsUntouched (core o.value) → HoldsNone (core_seen core o v) a
  none_at o v a saw p = subst (λ (c : Core). HoldsNone c a) (at_first o v saw) (λ die out e f. let h = p.home die in absurd (cc))

  pub outside_at : (o : Snapshot S) (v : V) (a : Actor) (l : ℕ) → a ≡ Lane l → v.alone ≡ false → v.seen ≡ [] → IsUntouched (core o.value) → ActsFor core o v a → IsOutside (core_seen core o v) l
  outside_at o v a l is off saw p acts =
      let mine : ActsFor core o v (Lane l) = subst (ActsFor core o v) is acts in
      let within : l < (core o.value).shape.lanes = ⊎_elim (λ t. absurd (cc)) (λ q. q.1) mine in
      subst (λ (c : Core). IsOutside c l) (at_first o v saw)
      (record { within = within; outside = p.outside l within; idle = p.idle l; unmarked = p.unmarked l; none = λ die out e f. let h = p.home die in absurd (cc) })

  -- before the first event no call is with a worker
  pub unbusy_at : (o : Snapshot S) (v : V) (worker : ℕ) → v.seen ≡ [] → IsUntouched (core o.value) → IsUnbusy (core_seen core o v) worker
  unbusy_at o v worker saw p = subst (λ (c : Core). IsUnbusy c worker) (at_first o v saw) (λ lane call flies runs. let h = p.idle lane in absurd (cc))

  -- ---- what each kind of actor did

  pub lane_acted : (o q : Snapshot S) (v w : V) (a : Actor) (l : ℕ) (requests : List Request) (log : List Numbered) (r : Result (Unit {0}) Worn) → a ≡ Lane l → Does v w (LaneSays core last o w.seen l requests log r) → Does v w (ActSays core last o w.seen a requests log r)
  lane_acted o q v w a l requests log (Ok x) is p =
      let k = p.says in
      record {
        events = p.events;
        went = p.went;
        says = record {
          of = subst (λ (z : Actor). AreOf z p.events) (sym is) k.of;
          none = subst (λ (z : Actor). HoldsNone (core_after core o w.seen) z) (sym is) k.none;
          own = subst (λ (z : Actor). IsItsOwn (core_after core o w.seen) z) (sym is) (own_idle (core_after core o w.seen) l k.idle);
          lane = λ j e. subst (λ (z : ℕ). HasRun core last o w.seen z requests log p.events) (lane_is a l j is e) k;
        };
      }
  lane_acted o q v w a l requests log (Err x) is p =
      record {
        events = p.events;
        went = p.went;
        says = (
          subst (λ (z : Actor). AreOf z p.events) (sym is) p.says.0,
          λ j e. subst (λ (z : ℕ). EndsFirst z requests p.events) (lane_is a l j is e) p.says.1,
        );
      }

  pub worker_acted : (o : Snapshot S) (v w : V) (a : Actor) (n : ℕ) (requests : List Request) (log : List Numbered) (r : Result (Unit {0}) Worn) → a ≡ Worker n → Does v w (WorkSays core o w n r) → Does v w (ActSays core last o w.seen a requests log r)
  worker_acted o v w a n requests log (Ok x) is p =
      record {
        events = p.events;
        went = p.went;
        says = record {
          of = subst (λ (z : Actor). AreOf z p.events) (sym is) p.says.0;
          none = subst (λ (z : Actor). HoldsNone (core_after core o w.seen) z) (sym is) p.says.1;
          own = subst (λ (z : Actor). IsItsOwn (core_after core o w.seen) z) (sym is) (own_worker (core_after core o w.seen) n);
          lane = λ j e. absurd (not_worker a n j is e);
        };
      }
  worker_acted o v w a n requests log (Err x) is p =
      record { events = p.events; went = p.went; says = (subst (λ (z : Actor). AreOf z p.events) (sym is) p.says, λ j e. absurd (not_worker a n j is e)) }

  -- ---- and a last look

  pub worked : (o : Snapshot S) (v w u : V) (a : Actor) (requests : List Request) (log : List Numbered) → v.own ≡ [] → Does v w (HasActed core last o w.seen a requests log) → Went w u [] → entries_of u.number u.seen ≡ u.own →
      (IsItsOwn (core_seen core o w) a → StillHolds core o w u a) → Does v u (HasWorked core last o v.number u.seen a requests log)
  worked o v w u a requests log bare p look settled kept =
      let es = p.events in
      let k = p.says in
      let nn : es ++ [] ≡ es = append-nil es in
      let went : Went v u es = subst (Went v u) nn (went_on v w u es [] p.went look) in
      let h = kept k.own in
      let again = gone_again core last o w.seen u.seen a h.0 h.1 in
      let number : u.number ≡ v.number = ap (λ (z : V). z.number) went.pass in
      let own : u.own ≡ map (entry v.number) es = went.own ∙ ap (λ z. z ++ map (entry v.number) es) bare in
      record {
        events = es;
        went = went;
        says = record {
          of = k.of;
          begun = λ l e. ([], sym (k.lane l e).asked ∙ sym (append-nil _));
          ended = λ few. record {
            settled = ap (λ (n : ℕ). entries_of n u.seen) (sym number) ∙ (settled ∙ own);
            none = again.0 k.none;
            lane = λ l e. again.1 l requests log es e look.seen (k.lane l e);
          };
        };
      }

  pub unworked : (o : Snapshot S) (v w : V) (a : Actor) (requests : List Request) (log : List Numbered) (x : Worn) → v.first ≡ 0 → w.first + length w.seen ≡ 2 ^ 62 → Does v w (ActSays core last o w.seen a requests log (Err x)) → Does v w (HasWorked core last o v.number w.seen a requests log)
  unworked o v w a requests log x first count p =
      let same : w.first ≡ v.first = ap (λ (z : V). z.first) p.went.pass in
      record { events = p.events; went = p.went; says = record { of = p.says.0; begun = p.says.1; ended = λ few. absurd (omega arith) } }

module _ {D J : Type 0} (seen : D → DieView) where
  pub flusher_acted : (o : Snapshot (State D J)) (v w : View (Snapshot (State D J)) Event) (a : Actor) (n : ℕ) (requests : List Request) (log : List Numbered) (r : Result (Unit {0}) Worn) → a ≡ Flusher n → Does v w (LoopSays seen o w n r) → Does v w (ActSays (core_of seen) o.value.last o w.seen a requests log r)
  flusher_acted o v w a n requests log (Ok x) is p =
      record {
        events = p.events;
        went = p.went;
        says = record {
          of = subst (λ (z : Actor). AreOf z p.events) (sym is) p.says.of;
          none = subst (λ (z : Actor). HoldsNone (core_after (core_of seen) o w.seen) z) (sym is) p.says.none;
          own = subst (λ (z : Actor). IsItsOwn (core_after (core_of seen) o w.seen) z) (sym is) (own_flusher (core_after (core_of seen) o w.seen) n);
          lane = λ j e. absurd (not_flusher a n j is e);
        };
      }
  flusher_acted o v w a n requests log (Err x) is p =
      record { events = p.events; went = p.went; says = (subst (λ (z : Actor). AreOf z p.events) (sym is) p.says, λ j e. absurd (not_flusher a n j is e)) }
