-- The end of a run: a last look that finds the system closing, and the last sync.
use Rattle.std.proofs.Common.{◌≡◌, ℕ, ◌+◌, ◌<◌, ◌^◌, Bool, true, false, cond, List, [], ◌∷◌, ◌++◌, length, refl, sym, ap, ◌∙◌, subst, ⊎_elim, append-nil, length-append, arith, eq-eqb}
use Rattle.std.specs.Prelude.{Result, Ok, Err}
use Rattle.std.specs.Result.{IsErr}
use Rattle.std.specs.declared.snapshot.Snapshot.{Snapshot}
use Rattle.turn_cell.specs.declared.book.Entry.{Entry}
use Rattle.turn_cell.specs.declared.pass.Worn.{Worn}
use Rattle.turn_cell.specs.declared.view.View.{View}
use Rattle.turn_cell.specs.Events.{events_of}
use Rattle.turn_cell.specs.History.{entries_of, AllMay, MayMake}
use Rattle.turn_cell.specs.Steps.{SeesAllowed, count_of}
use Rattle.turn_cell.proofs.Plain.{entries_append}
use Rattle.flash_die.specs.Dies.{DieView}
use Rattle.core_state.specs.declared.actor.Actor.{Actor}
use Rattle.core_state.specs.declared.actor.Actor.TheVariants.{Closer}
use Rattle.core_state.specs.declared.event.Event.{Event}
use Rattle.core_state.specs.declared.event.Event.TheVariants.{FlushIn, MetaIn}
use Rattle.core_state.specs.State.{Core}
use Rattle.core_state.specs.Happens.{IsClosing, CoreRun, actor_of}
use Rattle.core_closing.specs.Kept.{IsFailedWrite}
use Rattle.core_closing.proofs.Keeps.{none_yet}
use Rattle.system_state.specs.Cores.{core_of}
use Rattle.system_state.specs.declared.state.State.{State}
use Rattle.system_metas.specs.Encode.{encode}
use Rattle.desk_turns.specs.Passing.{Acts, May, Went, Does, core_seen}
use Rattle.desk_turns.proofs.Holding.{shapes_kept, coherent_all}
use Rattle.desk_turns.proofs.Later.{none_kept, keeps_held}
use Rattle.desk_turns.proofs.Went.{went_on}
use Rattle.lane_history.proofs.Closings.{closer_kept}
use Rattle.settling.specs.Settle.{SettleSays}
use Rattle.settling.specs.Steps.{EndsInFailure}
use Rattle.settling.specs.declared.last_sync.Settled.{Settled}
use Rattle.settling.specs.declared.last_sync.Settled.TheVariants.{NotAsked, Done, Failed}
use Rattle.settling.proofs.Ready.{own_closer}
use Rattle.crews.specs.Seats.{IsUntouched}
use Rattle.crew_runs.specs.Ending.{IsFirst, SeesClosing, CloseSays}

-- ---- while the closer made no event, the last event is no failed write of it

failed_by : (e : Event) → IsFailedWrite e → actor_of e ≡ Closer
failed_by (FlushIn Closer die false left) f = refl
failed_by (MetaIn Closer die false left) f = refl
failed_by e f = absurd f

may_last : (may : ℕ → Event → Type 0) (before : List (Entry Event)) (last : Entry Event) → AllMay may (before ++ last ∷ []) → may last.number last.event
may_last may [] last all = all.0
may_last may (x ∷ xs) last all = may_last may xs last all.1

one_there : {A : Type 0} (xs : List A) (y : A) → xs ++ y ∷ [] ≡ [] → ⊥
one_there [] y e = absurd (cc)
one_there (x ∷ xs) y e = absurd (cc)

own_last : (n : ℕ) (before : List (Entry Event)) (last : Entry Event) → last.number ≡ n → entries_of n (before ++ last ∷ []) ≡ entries_of n before ++ last ∷ []
own_last n before last is =
    entries_append n before (last ∷ [])
    ∙ ap (λ (b : Bool). entries_of n before ++ cond b (last ∷ []) []) (eq-eqb last.number n is)

acts_first : (lanes n : ℕ) (a : Actor) → a ≡ Closer → Acts lanes n a → n ≡ 0
acts_first lanes n a is acts = subst (Acts lanes n) is acts

module _ {S : Type 0} (core : S → Core) where
  not_failed : (o : Snapshot S) (w : View (Snapshot S) Event) → w.alone ≡ false → SeesAllowed (May core) o w → entries_of 0 w.seen ≡ [] → EndsInFailure w.seen → ⊥
  not_failed o w shared all none e =
      let before = e.0 in
      let last = e.1 in
      let may = may_last (MayMake (May core) w.alone o) before last (subst (AllMay (MayMake (May core) w.alone o)) e.2 all) in
      let number : last.number ≡ 0 = ⊎_elim (λ t. absurd (cc)) (λ acts. acts_first (core o.value).shape.lanes last.number (actor_of last.event) (failed_by last.event e.3) acts) may in
      one_there (entries_of 0 before) last (sym (own_last 0 before last number) ∙ (ap (entries_of 0) (sym e.2) ∙ none))

-- ---- the last look

longer_seen : (xs ys rest : List (Entry Event)) (first : ℕ) → first ≡ 0 → ys ≡ xs ++ rest → first + length ys < 2 ^ 62 → length xs < 2 ^ 62
longer_seen xs ys rest first zero is few = let e : length ys ≡ length xs + length rest = ap length is ∙ length-append xs rest in omega arith

module _ {D J : Type 0} (seen : D → DieView) where
  abbrev C : State D J → Core
  C = core_of seen

  pub closing_seen : (o : Snapshot (State D J)) (v w : View (Snapshot (State D J)) Event) → IsFirst v → Went v w [] → IsUntouched (C o.value) → entries_of w.number w.seen ≡ w.own → SeesAllowed (May C) o w → CoreRun (C o.value) (events_of w.seen) (core_seen C o w) → count_of w < 2 ^ 62 →
      IsClosing (core_seen C o w) → SeesClosing seen o v w
  closing_seen o v w f went u settled all run room closing =
      let number : w.number ≡ 0 = ap (λ (z : View (Snapshot (State D J)) Event). z.number) went.pass ∙ f.number in
      let shared : w.alone ≡ false = ap (λ (z : View (Snapshot (State D J)) Event). z.alone) went.pass ∙ f.shared in
      let first : w.first ≡ 0 = ap (λ (z : View (Snapshot (State D J)) Event). z.first) went.pass ∙ f.first in
      let own : w.own ≡ [] = went.own ∙ (append-nil v.own ∙ f.own) in
      let none : entries_of 0 w.seen ≡ [] = ap (λ (n : ℕ). entries_of n w.seen) (sym number) ∙ (settled ∙ own) in
      let c = C o.value in
      let d = core_seen C o w in
      let same = closer_kept C o w shared all none u.coherent run in
      let shape = shapes_kept (events_of w.seen) c in
      let closer : d.closer ≡ 0 = keeps_held c d Closer same (own_closer c) ∙ u.closer in
      record {
        room = longer_seen v.seen w.seen went.seen.0 w.first first went.seen.1 room;
        ready = record {
          closing = closing;
          none = none_kept c d Closer (coherent_all (events_of w.seen) c d u.coherent run) same shape (λ die out e by. let h = u.home die in absurd (cc));
          most = omega arith;
        };
        closer = closer;
        unfailed = not_failed C o w shared all none;
      }

  -- ---- and what follows

  abbrev HasEnded : Snapshot (State D J) → View (Snapshot (State D J)) Event → View (Snapshot (State D J)) Event → Bool → Result Settled Worn → Type 0
  HasEnded o v w settles r = Does v w (CloseSays seen o v w settles r)

  pub worn_waiting : (o : Snapshot (State D J)) (v w : View (Snapshot (State D J)) Event) (settles : Bool) (r : Result Settled Worn) → IsErr r → Went v w [] → HasEnded o v w settles r
  worn_waiting o v w settles (Ok x) e went = absurd (cc)
  worn_waiting o v w settles (Err y) e went = record { events = []; went = went; says = tt }

  pub unasked : (o : Snapshot (State D J)) (v w : View (Snapshot (State D J)) Event) (settles : Bool) → settles ≡ false → Went v w [] → SeesClosing seen o v w → HasEnded o v w settles (Ok NotAsked)
  unasked o v w settles not went s = record { events = []; went = went; says = record { room = s.room; none = s.ready.none; ends = (not, s.unfailed) } }

  closed : (o : Snapshot (State D J)) (v u w : View (Snapshot (State D J)) Event) (settles : Bool) (r : Result Settled Worn) (es : List Event) → settles ≡ true → IsUntouched (C o.value) → SeesClosing seen o v u → SettleSays seen o u w r es → CloseSays seen o v w settles r es
  closed o v u w settles (Err x) es asked p s k = tt
  closed o v u w settles (Ok NotAsked) es asked p s k = absurd k
  closed o v u w settles (Ok Done) es asked p s k =
      record {
        room = s.room;
        none = k.ready.none;
        ends = (asked, k.unfailed (λ die out e by. let h = p.home die in absurd (cc)), k.all (none_yet encode (core_seen C o u) s.closer));
      }
  closed o v u w settles (Ok Failed) es asked p s k = record { room = s.room; none = k.ready.none; ends = (asked, k.last) }

  pub settled_on : (o q : Snapshot (State D J)) (v u w : View (Snapshot (State D J)) Event) (settles : Bool) (r : Result Settled Worn) → q ≡ o → settles ≡ true → IsUntouched (C o.value) → Went v u [] → SeesClosing seen o v u → Does u w (SettleSays seen q u w r) → HasEnded o v w settles r
  settled_on o q v u w settles r same asked p went s k =
      record {
        events = k.events;
        went = went_on v u w [] k.events went k.went;
        says = closed o v u w settles r k.events asked p s (subst (λ (z : Snapshot (State D J)). SettleSays seen z u w r k.events) same k.says);
      }
