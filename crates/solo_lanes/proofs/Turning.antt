-- Lanes come and go, turn by turn.
use Rattle.std.proofs.Common.{◌≡◌, ℕ, ◌+◌, ◌<◌, true, List, [], ◌∷◌, ◌++◌, refl, sym, ap, ◌∙◌, subst, append-nil, arith}
use Rattle.std.specs.Prelude.{map, Result, Ok, Err}
use Rattle.std.specs.Result.{IsErr}
use Rattle.std.specs.List.{range_with_len}
use Rattle.std.proofs.lemmas.List.FromFn.{map-range_with_len_more}
use Rattle.std.specs.declared.snapshot.Snapshot.{Snapshot}
use Rattle.turn_cell.specs.declared.book.Entry.{Entry}
use Rattle.turn_cell.specs.declared.view.View.{View}
use Rattle.turn_cell.specs.declared.pass.Worn.{Worn}
use Rattle.flash_die.specs.Dies.{DieView}
use Rattle.core_state.specs.declared.actor.Actor.TheVariants.{Lane}
use Rattle.core_state.specs.declared.event.Event.{Event}
use Rattle.core_state.specs.declared.event.Event.TheVariants.{Enter, Leave}
use Rattle.core_state.specs.State.{Core}
use Rattle.core_state.specs.Happens.{HoldsNone, CoreRun, after}
use Rattle.core_state.specs.LaneEvents.{MayEnter, MayLeave}
use Rattle.core_solo.specs.Solo.{enters, leaves}
use Rattle.system_state.specs.Cores.{core_of}
use Rattle.system_state.specs.declared.state.State.{State}
use Rattle.desk_turns.specs.Passing.{core_after, core_seen, Turn, Went, Does}
use Rattle.desk_turns.proofs.Went.{went_on, went_none, went_turn}
use Rattle.solo_lanes.specs.Lanes.{IsUnentered, MayAllLeave, AreMade, HaveEntered, HaveLeft, EnterSays, LeaveSays}
use Rattle.solo_lanes.proofs.Passages.{next_enters, all_rest, all_kept, still_home, next_free, next_leaves, all_gone, ready_then}

run_on : (es fs : List Event) (c d e : Core) → CoreRun c es d → CoreRun d fs e → CoreRun c (es ++ fs) e
run_on [] fs c d e r s = subst (λ (x : Core). CoreRun x fs e) r s
run_on (x ∷ xs) fs c d e r s = (r.0, run_on xs fs (after c x) d e r.1 s)

-- the event of each lane, of the first n
abbrev pub first_of : (ℕ → Event) → ℕ → List Event
first_of event n = map event (range_with_len 0 n)

module _ {D J : Type 0} (seen : D → DieView) where
  abbrev C : State D J → Core
  C = core_of seen

  pub made_none : (event : ℕ → Event) (o : Snapshot (State D J)) (v : View (Snapshot (State D J)) Event) → Does v v (AreMade seen o v v (first_of event 0))
  made_none event o v = record { events = []; went = went_none v; says = record { are = refl; run = refl } }

  alone_too : (v u : View (Snapshot (State D J)) Event) (es : List Event) → Went v u es → v.alone ≡ true → u.alone ≡ true
  alone_too v u es w a = ap (λ (z : View (Snapshot (State D J)) Event). z.alone) w.pass ∙ a

  -- one lane more
  pub made_more : (event : ℕ → Event) (o q : Snapshot (State D J)) (v u w : View (Snapshot (State D J)) Event) (n : ℕ) → q ≡ o → v.alone ≡ true →
      Does v u (AreMade seen o v u (first_of event n)) → Turn C q u w (λ c es. es ≡ event n ∷ []) → Does v w (AreMade seen o v w (first_of event (n + 1)))
  made_more event o q v u w n same a p t' =
      let t : Turn C o u w (λ c es. es ≡ event n ∷ []) = subst (λ (z : Snapshot (State D J)). Turn C z u w (λ c es. es ≡ event n ∷ [])) same t' in
      let b = alone_too v u p.events p.went a in
      let found : core_after C o (u.seen ++ t.between) ≡ core_seen C o u = ap (λ (h : List (Entry Event)). core_after C o h) (ap (λ (x : List (Entry Event)). u.seen ++ x) (t.alone b) ∙ append-nil u.seen) in
      record {
        events = p.events ++ t.events;
        went = went_on v u w p.events t.events p.went (went_turn C o u w (λ c es. es ≡ event n ∷ []) t);
        says = record {
          are = (λ i. p.says.are i ++ t.says i) ∙ sym (map-range_with_len_more event 0 n n (omega arith));
          run = run_on p.events t.events (core_seen C o v) (core_seen C o u) (core_seen C o w) p.says.run (subst (λ (c : Core). CoreRun c t.events (core_seen C o w)) found t.run);
        };
      }

  -- the turn is worn
  made_worn : (event : ℕ → Event) (o : Snapshot (State D J)) (v u w : View (Snapshot (State D J)) Event) (n : ℕ) → v.alone ≡ true →
      Does v u (AreMade seen o v u (first_of event n)) → Went u w [] → Does v w (AreMade seen o v w (first_of event n))
  made_worn event o v u w n a p went =
      let here : core_seen C o u ≡ core_seen C o w = sym (ap (λ (h : List (Entry Event)). core_after C o h) (went.alone (alone_too v u p.events p.went a) ∙ append-nil u.seen)) in
      record {
        events = p.events ++ [];
        went = went_on v u w p.events [] p.went went;
        says = record {
          are = append-nil p.events ∙ p.says.are;
          run = subst (λ (c : Core). CoreRun (core_seen C o v) (p.events ++ []) c) here (subst (λ (es : List Event). CoreRun (core_seen C o v) es (core_seen C o u)) (sym (append-nil p.events)) p.says.run);
        };
      }

  -- ---- the answers

  pub entered_worn : (o : Snapshot (State D J)) (v u w : View (Snapshot (State D J)) Event) (n lanes : ℕ) (r : Result (Unit {0}) Worn) → IsErr r → n < lanes → v.alone ≡ true →
      Does v u (AreMade seen o v u (enters n)) → Went u w [] → Does v w (EnterSays seen o v w lanes r)
  entered_worn o v u w n lanes (Ok x) e low a p went = absurd (cc)
  entered_worn o v u w n lanes (Err x) e low a p went =
      let k = made_worn (λ lane. Enter lane) o v u w n a p went in
      record { events = k.events; went = k.went; says = (n, low, k.says) }

  pub entered_all : (o : Snapshot (State D J)) (v w : View (Snapshot (State D J)) Event) (n lanes : ℕ) → n ≡ lanes → lanes ≡ (core_seen C o v).shape.lanes → IsUnentered (core_seen C o v) →
      Does v w (AreMade seen o v w (enters n)) → Does v w (HaveEntered seen o v w lanes)
  entered_all o v w n lanes is number un p' =
      let p : Does v w (AreMade seen o v w (enters lanes)) = subst (λ (x : ℕ). Does v w (AreMade seen o v w (enters x))) is p' in
      let c = core_seen C o v in
      let d = core_seen C o w in
      let run = subst (λ (es : List Event). CoreRun c es d) p.says.are p.says.run in
      record {
        events = p.events;
        went = p.went;
        says = record { made = p.says; rest = all_rest c d lanes un run number; keeps = all_kept c d lanes run };
      }

  -- the next lane may enter
  pub may_enter : (o q : Snapshot (State D J)) (v u : View (Snapshot (State D J)) Event) (n lanes : ℕ) → q ≡ o → n < lanes → lanes ≡ (core_seen C o v).shape.lanes → IsUnentered (core_seen C o v) →
      Does v u (AreMade seen o v u (enters n)) → MayEnter (core_seen C q u) n
  may_enter o q v u n lanes same low number un p =
      subst (λ (z : Snapshot (State D J)). MayEnter (core_seen C z u) n) (sym same)
      (next_enters (core_seen C o v) (core_seen C o u) n un (subst (λ (es : List Event). CoreRun (core_seen C o v) es (core_seen C o u)) p.says.are p.says.run) (subst (λ (x : ℕ). n < x) number low))

  -- ---- and as they leave

  abbrev Left : Snapshot (State D J) → View (Snapshot (State D J)) Event → View (Snapshot (State D J)) Event → ℕ → Type 0
  Left o v u n = Does v u (AreMade seen o v u (leaves n))

  gone_run : (o : Snapshot (State D J)) (v u : View (Snapshot (State D J)) Event) (n : ℕ) → (p : Left o v u n) → CoreRun (core_seen C o v) (leaves n) (core_seen C o u)
  gone_run o v u n p = subst (λ (es : List Event). CoreRun (core_seen C o v) es (core_seen C o u)) p.says.are p.says.run

  pub may_leave : (o q : Snapshot (State D J)) (v u : View (Snapshot (State D J)) Event) (n lanes : ℕ) → q ≡ o → n < lanes → lanes ≡ (core_seen C o v).shape.lanes → MayAllLeave (core_seen C o v) →
      Left o v u n → MayLeave (core_seen C q u) n
  may_leave o q v u n lanes same low number may p =
      subst (λ (z : Snapshot (State D J)). MayLeave (core_seen C z u) n) (sym same)
      (next_leaves (core_seen C o v) (core_seen C o u) n may (gone_run o v u n p) (subst (λ (x : ℕ). n < x) number low))

  pub may_hold_none : (o q : Snapshot (State D J)) (v u : View (Snapshot (State D J)) Event) (n : ℕ) → q ≡ o → MayAllLeave (core_seen C o v) → Left o v u n → HoldsNone (core_seen C q u) (Lane n)
  may_hold_none o q v u n same may p =
      subst (λ (z : Snapshot (State D J)). HoldsNone (core_seen C z u) (Lane n)) (sym same) (next_free (core_seen C o v) (core_seen C o u) n may.rest.home (gone_run o v u n p))

  pub left_worn : (o : Snapshot (State D J)) (v u w : View (Snapshot (State D J)) Event) (n lanes : ℕ) (r : Result (Unit {0}) Worn) → IsErr r → n < lanes → v.alone ≡ true →
      Left o v u n → Went u w [] → Does v w (LeaveSays seen o v w lanes r)
  left_worn o v u w n lanes (Ok x) e low a p went = absurd (cc)
  left_worn o v u w n lanes (Err x) e low a p went =
      let k = made_worn (λ lane. Leave lane) o v u w n a p went in
      record { events = k.events; went = k.went; says = (n, low, k.says) }

  pub left_all : (o : Snapshot (State D J)) (v w : View (Snapshot (State D J)) Event) (n lanes : ℕ) → n ≡ lanes → lanes ≡ (core_seen C o v).shape.lanes → MayAllLeave (core_seen C o v) →
      Left o v w n → Does v w (HaveLeft seen o v w lanes)
  left_all o v w n lanes is number may p' =
      let p : Left o v w lanes = subst (λ (x : ℕ). Left o v w x) is p' in
      let c = core_seen C o v in
      let d = core_seen C o w in
      let run = gone_run o v w lanes p in
      record {
        events = p.events;
        went = p.went;
        says = record {
          made = p.says;
          closing = all_gone c d lanes may.rest run number;
          home = still_home c d lanes may.rest.home run;
          ready = λ low. ready_then c d lanes may.rest run number low;
        };
      }
