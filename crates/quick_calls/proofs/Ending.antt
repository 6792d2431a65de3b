-- Calls over a desk that one event ends, turn by turn.
use Rattle.std.proofs.Common.{◌≡◌, ℕ, Bool, true, false, List, [], ◌∷◌, ◌++◌, Option, Some, None, refl, sym, ap, ◌∙◌, subst, append-nil, append_assoc}
use Rattle.std.specs.Prelude.{Result, Ok, Err}
use Rattle.std.specs.Result.{IsErr}
use Rattle.std.specs.declared.snapshot.Snapshot.{Snapshot}
use Rattle.turn_cell.specs.declared.book.Entry.{Entry}
use Rattle.turn_cell.specs.declared.view.View.{View}
use Rattle.turn_cell.specs.declared.pass.Worn.{Worn}
use Rattle.turn_cell.specs.History.{StartsWith}
use Rattle.flash_die.specs.Dies.{DieView}
use Rattle.plain_files.specs.History.{Entry as CallEntry}
use Rattle.plain_files.specs.declared.calls.Numbered.{Numbered}
use Rattle.plain_files.specs.declared.calls.Reply.{Reply}
use Rattle.plain_files.specs.declared.calls.Reply.TheVariants.{NoMemory}
use Rattle.plain_files.specs.declared.calls.Request.{Request}
use Rattle.core_state.specs.declared.actor.Actor.{Actor}
use Rattle.core_state.specs.declared.actor.Actor.TheVariants.{Lane}
use Rattle.core_state.specs.declared.event.Event.{Event}
use Rattle.core_state.specs.declared.event.Event.TheVariants.{Quick, Skip}
use Rattle.core_state.specs.State.{Core}
use Rattle.core_state.specs.Happens.{HoldsNone, May, CoreRun, after}
use Rattle.core_state.specs.History.{entry_of}
use Rattle.core_state.specs.LaneEvents.{IsIdle, HasAwaited}
use Rattle.core_solo.specs.Alone.{IsAlone}
use Rattle.core_solo.proofs.Goes.{still_all}
use Rattle.system_state.specs.Cores.{core_of}
use Rattle.system_state.specs.declared.not_yet.NotYet.{NotYet}
use Rattle.system_state.specs.declared.state.State.{State}
use Rattle.system_metas.specs.Encode.{encode}
use Rattle.desk_turns.specs.Passing.{ActsFor, core_after, core_seen, Turn, Went, Does}
use Rattle.desk_turns.proofs.Holding.{coherent_all}
use Rattle.desk_turns.proofs.Later.{own_idle, none_kept}
use Rattle.desk_turns.proofs.Went.{went_on, went_none, went_turn, found_turn}
use Rattle.call_turns.specs.LaneTurns.{SkipSays}
use Rattle.call_turns.specs.LoadingOf.{Loading}
use Rattle.call_turns.specs.QuickWaits.{quick_waits}
use Rattle.system_lanes.specs.Waiting.{awaited_still}
use Rattle.call_turns.proofs.FlushSteps.{shape_at}
use Rattle.call_turns.proofs.Keeping.{idle_kept}
use Rattle.call_turns.specs.Quick.{QuickSays}
use Rattle.call_turns.specs.Making.{IsIdleWith, IsFree}
use Rattle.quick_calls.specs.Calls.{IsEndedBy, QuickCallSays, SkipCallSays}
use Rattle.quick_calls.proofs.Frees.{free_quick, free_skip, quick_solo, quick_unblocked, awaited_none}

pub starts_on : (xs ys zs : List (Entry Event)) → StartsWith ys xs → StartsWith zs ys → StartsWith zs xs
starts_on xs ys zs p q = (p.0 ++ q.0, q.1 ∙ (ap (λ z. z ++ q.0) p.1 ∙ append_assoc xs p.0 q.0))

reply_of : Option CallEntry → Reply
reply_of None = NoMemory
reply_of (Some e) = e.reply

skipped_reply : (lane : ℕ) (request : Request) (reply : Reply) → entry_of (Skip lane request false) ≡ Some (record { lane = lane; call = request.call; reply = reply }) → reply ≡ NoMemory
unfolding reply_of
skipped_reply lane request reply e = ap reply_of (sym e)

abbrev pub reply_ok : Numbered → Result Numbered Worn
reply_ok n = Ok n

abbrev pub turn_ok : Result Numbered NotYet → Result (Result Numbered NotYet) Worn
turn_ok r = Ok r

abbrev number_ok : Numbered → Result Numbered NotYet
number_ok n = Ok n

same_number : (m n : Numbered) → reply_ok m ≡ reply_ok n → m ≡ n
same_number m n e = cc

-- a call that was answered in a turn
pub answer_told : (r : Result Numbered NotYet) (m n : Numbered) → r ≡ Ok m → reply_ok m ≡ reply_ok n → turn_ok r ≡ turn_ok (Ok n)
answer_told r m n is e = ap turn_ok (is ∙ ap number_ok (same_number m n e))

module _ {D J : Type 0} (seen : D → DieView) where
  abbrev C : State D J → Core
  C = core_of seen

  -- ---- a turn of a lane without a call

  -- the lane is found as it was
  pub idle_at : (m : Bool) (o : Snapshot (State D J)) (v u : View (Snapshot (State D J)) Event) (lane : ℕ) (P : Core → List Event → Type 0) → (t : Turn C o v u P) → ActsFor C o v (Lane lane) → IsIdleWith m (core_seen C o v) lane → IsIdleWith m (core_after C o (v.seen ++ t.between)) lane
  idle_at m o v u lane P t acts p =
      let c = core_seen C o v in
      let f = core_after C o (v.seen ++ t.between) in
      let same = t.kept (Lane lane) acts (own_idle c lane p.idle.idle) in
      let shape = shape_at seen o (v.seen ++ t.between) v.seen in
      let k = idle_kept c f lane same shape p.idle in
      record { idle = k.0; mark = k.1 ∙ p.mark; none = none_kept c f (Lane lane) t.coherent same shape p.none }

  -- where the pass is alone nothing was made between
  pub found_alone : (o : Snapshot (State D J)) (v u : View (Snapshot (State D J)) Event) (P : Core → List Event → Type 0) → (t : Turn C o v u P) → v.alone ≡ true → core_after C o (v.seen ++ t.between) ≡ core_seen C o v
  found_alone o v u P t a = ap (λ (h : List (Entry Event)). core_after C o h) (ap (λ (x : List (Entry Event)). v.seen ++ x) (t.alone a) ∙ append-nil v.seen)

  pub acts_after : (o : Snapshot (State D J)) (v u : View (Snapshot (State D J)) Event) (a : Actor) (es : List Event) → Went v u es → ActsFor C o v a → ActsFor C o u a
  acts_after o v u a es went acts = subst (λ (z : View (Snapshot (State D J)) Event). ActsFor C o z a) (sym went.pass) acts

  pub alone_after : (v u : View (Snapshot (State D J)) Event) (es : List Event) → Went v u es → v.alone ≡ true → u.alone ≡ true
  alone_after v u es went a = ap (λ (z : View (Snapshot (State D J)) Event). z.alone) went.pass ∙ a

  -- ---- waiting

  -- no event yet, and the lane is as it was
  pub record Waited (m : Bool) (o : Snapshot (State D J)) (v w : View (Snapshot (State D J)) Event) (lane : ℕ) (es : List Event) : Type 0 where
    pub are : es ≡ []
    pub after : IsIdleWith m (core_seen C o w) lane
    pub same : v.alone ≡ true → core_seen C o w ≡ core_seen C o v

  pub waited_none : (m : Bool) (o : Snapshot (State D J)) (v : View (Snapshot (State D J)) Event) (lane : ℕ) → IsIdleWith m (core_seen C o v) lane → Does v v (Waited m o v v lane)
  waited_none m o v lane p = record { events = []; went = went_none v; says = record { are = refl; after = p; same = λ a. refl } }

  -- a turn without an event
  pub waited_on : (m : Bool) (o q : Snapshot (State D J)) (v u w : View (Snapshot (State D J)) Event) (lane : ℕ) (P : Core → List Event → Type 0) → q ≡ o → ActsFor C o v (Lane lane) → ((c : Core) (es : List Event) → P c es → es ≡ []) → Does v u (Waited m o v u lane) → Turn C q u w P → Does v w (Waited m o v w lane)
  waited_on m o q v u w lane P same acts are p t' =
      let t : Turn C o u w P = subst (λ (z : Snapshot (State D J)). Turn C z u w P) same t' in
      let f = core_after C o (u.seen ++ t.between) in
      let is = are f t.events t.says in
      let none : p.events ++ t.events ≡ [] = λ i. p.says.are i ++ is i in
      let end : core_seen C o w ≡ f = subst (λ (es : List Event). CoreRun f es (core_seen C o w)) is t.run in
      record {
        events = p.events ++ t.events;
        went = went_on v u w p.events t.events p.went (went_turn C o u w P t);
        says = record {
          are = none;
          after = subst (λ (c : Core). IsIdleWith m c lane) (sym end) (idle_at m o u w lane P t (acts_after o v u (Lane lane) p.events p.went acts) p.says.after);
          same = λ a. end ∙ (found_alone o u w P t (alone_after v u p.events p.went a) ∙ p.says.same a);
        };
      }

  -- the turn of the event that ends the call
  pub ended_on : (m : Bool) (o q : Snapshot (State D J)) (v u w : View (Snapshot (State D J)) Event) (lane : ℕ) (e : Event) (P : Core → List Event → Type 0) → q ≡ o → ActsFor C o v (Lane lane) → ((c : Core) (es : List Event) → P c es → es ≡ e ∷ []) →
      ((c : Core) → IsIdle c lane → HoldsNone c (Lane lane) → IsFree (after c e) lane) → Does v u (Waited m o v u lane) → Turn C q u w P → Does v w (IsEndedBy seen o v w lane e)
  ended_on m o q v u w lane e P same acts are frees p t' =
      let t : Turn C o u w P = subst (λ (z : Snapshot (State D J)). Turn C z u w P) same t' in
      let f = core_after C o (u.seen ++ t.between) in
      let is = are f t.events t.says in
      let went = went_turn C o u w P t in
      let run : CoreRun f (e ∷ []) (core_seen C o w) = subst (λ (es : List Event). CoreRun f es (core_seen C o w)) is t.run in
      let idle = idle_at m o u w lane P t (acts_after o v u (Lane lane) p.events p.went acts) p.says.after in
      let all : p.events ++ t.events ≡ e ∷ [] = λ i. p.says.are i ++ is i in
      let number : w.number ≡ u.number = ap (λ (z : View (Snapshot (State D J)) Event). z.number) went.pass in
      let found = found_turn C o u w w P e (λ c. May c e) t is run.0.may ([], sym (append-nil w.seen)) number in
      record {
        events = p.events ++ t.events;
        went = went_on v u w p.events t.events p.went went;
        says = record {
          are = all;
          found = record { before = found.before; rest = found.rest; since = starts_on v.seen u.seen found.before p.went.seen found.since; seen = found.seen; says = found.says };
          after = subst (λ (c : Core). IsFree c lane) (sym run.1) (frees f idle.idle idle.none);
          coherent = coherent_all t.events f (core_seen C o w) t.coherent t.run;
          run = λ a.
              let back = found_alone o u w P t (alone_after v u p.events p.went a) ∙ p.says.same a in
              subst (λ (es : List Event). CoreRun (core_seen C o v) es (core_seen C o w)) (sym all) (subst (λ (c : Core). CoreRun c (e ∷ []) (core_seen C o w)) back run);
        };
      }

  -- ---- a call that needs no page

  pub quick_on : (o q : Snapshot (State D J)) (v u w : View (Snapshot (State D J)) Event) (lane : ℕ) (request : Request) (old new : Loading) (r : Result Numbered NotYet) (n : Numbered) → q ≡ o → r ≡ Ok n → ActsFor C o v (Lane lane) → Does v u (Waited false o v u lane) → Turn C q u w (QuickSays lane request old new r) →
      Does v w (QuickCallSays seen o v w lane request (Ok n))
  quick_on o q v u w lane request old new r n same is acts p t =
      let e = Quick lane request n.reply in
      let d = ended_on false o q v u w lane e (QuickSays lane request old new (Ok n)) same acts (λ c es says. says.0) (free_quick lane request n.reply) p (subst (λ (x : Result Numbered NotYet). Turn C q u w (QuickSays lane request old new x)) is t) in
      record {
        events = d.events;
        went = d.went;
        says = (d.says, λ a. quick_solo encode (core_seen C o v) (core_seen C o w) lane request n.reply d.events d.says.are (d.says.run a));
      }

  pub quick_waits_on : (o q : Snapshot (State D J)) (v u w : View (Snapshot (State D J)) Event) (lane : ℕ) (request : Request) (old new : Loading) (r : Result Numbered NotYet) (y : NotYet) → q ≡ o → r ≡ Err y → ActsFor C o v (Lane lane) → Does v u (Waited false o v u lane) → Turn C q u w (QuickSays lane request old new r) → Does v w (Waited false o v w lane)
  quick_waits_on o q v u w lane request old new r y same is acts p t =
      waited_on false o q v u w lane (QuickSays lane request old new (Err y)) same acts (λ c es says. says.0) p (subst (λ (x : Result Numbered NotYet). Turn C q u w (QuickSays lane request old new x)) is t)

  -- what it was to load is still there
  pub quick_loading : (q : Snapshot (State D J)) (u w : View (Snapshot (State D J)) Event) (lane : ℕ) (request : Request) (old new : Loading) (r : Result Numbered NotYet) (y : NotYet) → r ≡ Err y → Turn C q u w (QuickSays lane request old new r) → new ≡ old
  quick_loading q u w lane request old new r y is t = (subst (λ (x : Result Numbered NotYet). Turn C q u w (QuickSays lane request old new x)) is t).says.2

  pub quick_worn : (o : Snapshot (State D J)) (v u w : View (Snapshot (State D J)) Event) (lane : ℕ) (request : Request) (r : Result Numbered Worn) → IsErr r → Does v u (Waited false o v u lane) → Went u w [] → Does v w (QuickCallSays seen o v w lane request r)
  quick_worn o v u w lane request (Ok x) e p went = absurd (cc)
  quick_worn o v u w lane request (Err x) e p went =
      record { events = p.events ++ []; went = went_on v u w p.events [] p.went went; says = append-nil p.events ∙ p.says.are }

  -- a call that is alone doesn't wait
  pub quick_alone : (o : Snapshot (State D J)) (v u : View (Snapshot (State D J)) Event) (lane : ℕ) (request : Request) (old new : Loading) (r : Result Numbered NotYet) (y : NotYet) → v.alone ≡ true → IsAlone (core_seen C o v) lane request → IsFree (core_seen C o v) lane → r ≡ Err y → Turn C o v u (QuickSays lane request old new r) → ⊥
  quick_alone o v u lane request old new r y a alone free is t' =
      let t : Turn C o v u (QuickSays lane request old new (Err y)) = subst (λ (x : Result Numbered NotYet). Turn C o v u (QuickSays lane request old new x)) is t' in
      let c = core_seen C o v in
      let waits = t.says.1 in
      let none = ap (λ (z : Core). quick_waits z request) (found_alone o v u (QuickSays lane request old new (Err y)) t a) ∙ quick_unblocked c request alone.awaited (still_all c lane alone.others free.idle.idle) in
      absurd (cc)

  -- ---- a call that finds no memory

  pub skip_on : (m : Bool) (o q : Snapshot (State D J)) (v u w : View (Snapshot (State D J)) Event) (lane : ℕ) (request : Request) (r : Result Numbered NotYet) (n : Numbered) → q ≡ o → r ≡ Ok n → ActsFor C o v (Lane lane) → Does v u (Waited m o v u lane) → Turn C q u w (SkipSays lane request false r) →
      Does v w (SkipCallSays seen o v w lane request (Ok n))
  skip_on m o q v u w lane request r n same is acts p t' =
      let e = Skip lane request false in
      let t = subst (λ (x : Result Numbered NotYet). Turn C q u w (SkipSays lane request false x)) is t' in
      let d = ended_on m o q v u w lane e (SkipSays lane request false (Ok n)) same acts (λ c es says. says.0) (free_skip lane request false) p t in
      record { events = d.events; went = d.went; says = (d.says, skipped_reply lane request n.reply t.says.1.ends) }

  pub skip_waits_on : (m : Bool) (o q : Snapshot (State D J)) (v u w : View (Snapshot (State D J)) Event) (lane : ℕ) (request : Request) (r : Result Numbered NotYet) (y : NotYet) → q ≡ o → r ≡ Err y → ActsFor C o v (Lane lane) → Does v u (Waited m o v u lane) → Turn C q u w (SkipSays lane request false r) → Does v w (Waited m o v w lane)
  skip_waits_on m o q v u w lane request r y same is acts p t =
      waited_on m o q v u w lane (SkipSays lane request false (Err y)) same acts (λ c es says. says.0) p (subst (λ (x : Result Numbered NotYet). Turn C q u w (SkipSays lane request false x)) is t)

  pub skip_worn : (m : Bool) (o : Snapshot (State D J)) (v u w : View (Snapshot (State D J)) Event) (lane : ℕ) (request : Request) (r : Result Numbered Worn) → IsErr r → Does v u (Waited m o v u lane) → Went u w [] → Does v w (SkipCallSays seen o v w lane request r)
  skip_worn m o v u w lane request (Ok x) e p went = absurd (cc)
  skip_worn m o v u w lane request (Err x) e p went =
      record { events = p.events ++ []; went = went_on v u w p.events [] p.went went; says = append-nil p.events ∙ p.says.are }

  pub skip_alone : (o : Snapshot (State D J)) (v u : View (Snapshot (State D J)) Event) (lane : ℕ) (request : Request) (r : Result Numbered NotYet) (y : NotYet) → v.alone ≡ true → HasAwaited (core_seen C o v).lanes request → r ≡ Err y → Turn C o v u (SkipSays lane request false r) → ⊥
  skip_alone o v u lane request r y a awaited is t' =
      let t : Turn C o v u (SkipSays lane request false (Err y)) = subst (λ (x : Result Numbered NotYet). Turn C o v u (SkipSays lane request false x)) is t' in
      let waits = t.says.1 in
      let none = ap (λ (z : Core). awaited_still z.lanes request.awaits) (found_alone o v u (SkipSays lane request false (Err y)) t a) ∙ awaited_none (core_seen C o v).lanes request.awaits awaited in
      absurd (cc)
