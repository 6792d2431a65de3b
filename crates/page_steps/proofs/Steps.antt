-- From the turn for room to the whole step.
use Rattle.std.proofs.Common.{◌≡◌, ℕ, ◌<◌, Bool, true, false, List, [], ◌∷◌, ◌++◌, Option, Some, None, refl, sym, ap, ◌∙◌, subst, inl, inr, append-nil}
use Rattle.std.specs.Prelude.{Result, Ok, Err}
use Rattle.std.specs.Result.{IsErr}
use Rattle.std.specs.declared.snapshot.Snapshot.{Snapshot}
use Rattle.dispatcher.specs.declared.side.Side.{Side}
use Rattle.turn_cell.specs.declared.view.View.{View}
use Rattle.turn_cell.specs.declared.pass.Worn.{Worn}
use Rattle.flash_die.specs.Dies.{DieView}
use Rattle.core_state.specs.declared.actor.Actor.TheVariants.{Lane}
use Rattle.core_state.specs.declared.event.Event.{Event}
use Rattle.core_state.specs.declared.event.Event.TheVariants.{FlushOut, FlushIn}
use Rattle.core_state.specs.State.{Page, Shape, Flight, Core}
use Rattle.core_state.specs.LaneEvents.{IsIdle}
use Rattle.core_state.specs.Happens.{CoreRun, after}
use Rattle.core_solo.specs.Solo.{room_event}
use Rattle.system_state.specs.Cores.{core_of}
use Rattle.system_state.specs.declared.errand.Errand.{Errand}
use Rattle.system_state.specs.declared.state.State.{State}
use Rattle.desk_turns.specs.Passing.{ActsFor, core_after, core_seen, Turn, Went, Does, SameCalls, SameLane}
use Rattle.desk_turns.proofs.Holding.{coherent_all}
use Rattle.desk_turns.proofs.Later.{own_idle, keeps_on, keeps_held, same_calls}
use Rattle.desk_turns.proofs.Went.{went_on, went_turn, found_turn}
use Rattle.event_turns.specs.Flushing.{Flushes, IsBetweenFlushes, MayFlushNow, HomeSays}
use Rattle.event_turns.specs.FlushedAnswer.{Flushed}
use Rattle.event_turns.specs.FlushedAnswer.TheVariants.{Wrote, Failed as FlushFailed, Nothing as NothingUnclean, Busy}
use Rattle.event_turns.proofs.FlushSteps.{run_on, alone_at, leaves, shape_at, may_at, sent_keeps, sent_flushes, failed_on, quiet_step}
use Rattle.page_steps.specs.Room.{event_of, RoomTurn}
use Rattle.page_steps.specs.Making.{IsIdleWith, IsFree, IsForRoom, IsWhole, RoomSays, made_by}
use Rattle.page_steps.specs.declared.making.Made.{Made}
use Rattle.page_steps.specs.declared.making.Made.TheVariants.{Room, Wait}
use Rattle.page_steps.specs.declared.room.Move.{Move}
use Rattle.page_steps.specs.declared.room.Move.TheVariants.{Evicted, Demoted}
use Rattle.page_steps.specs.declared.room.Given.TheVariants.{Moved, Sent, Nothing}

-- ---- an idle lane

pub free_may : (c : Core) (lane : ℕ) → IsFree c lane → MayFlushNow c (Lane lane)
free_may c lane p =
    record {
      none = p.none;
      flushes = record {
        acts = (record { inside = p.idle.inside; sync = λ ne. absurd (ne p.idle.idle) }, p.mark);
        own = own_idle c lane p.idle.idle;
        closing = λ e. absurd (cc);
      };
    }

none_back : (o p : Option Flight) → o ≡ None → SameCalls o p → p ≡ None
none_back None p e s = s
none_back (Some f) p e s = absurd (cc)

idle_back : (m : Bool) (c d : Core) (lane : ℕ) → d.shape ≡ c.shape → IsIdle c lane → IsBetweenFlushes m d (Lane lane) → SameLane c d lane → IsIdleWith m d lane
idle_back m c d lane shape idle p same =
    record {
      idle = record {
        within = subst (λ (z : Shape). lane < z.lanes) (sym shape) idle.within;
        inside = p.flushes.acts.0.inside;
        idle = none_back (c.calls lane) (d.calls lane) idle.idle same.call;
      };
      mark = p.flushes.acts.1;
      none = p.none;
    }

-- ---- a move

moved_free : (c : Core) (lane : ℕ) (step : Move) → IsFree c lane → IsFree (after c (event_of (Lane lane) step)) lane
moved_free c lane (Evicted side block) p =
    record { idle = record { within = p.idle.within; inside = p.idle.inside; idle = p.idle.idle }; mark = p.mark; none = p.none }
moved_free c lane (Demoted block) p =
    record { idle = record { within = p.idle.within; inside = p.idle.inside; idle = p.idle.idle }; mark = p.mark; none = p.none }

moved_same : (c : Core) (lane : ℕ) (step : Move) → SameLane c (after c (event_of (Lane lane) step)) lane
moved_same c lane (Evicted side block) = record { stage = refl; ended = refl; call = same_calls (c.calls lane) }
moved_same c lane (Demoted block) = record { stage = refl; ended = refl; call = same_calls (c.calls lane) }

moved_whole : (lane : ℕ) (step : Move) → IsWhole lane (event_of (Lane lane) step) []
moved_whole lane (Evicted side block) = refl
moved_whole lane (Demoted block) = refl

module _ {D J : Type 0} (seen : D → DieView) where
  abbrev C : State D J → Core
  C = core_of seen

  number_on : (v u : View (Snapshot (State D J)) Event) (events : List Event) → Went v u events → u.number ≡ v.number
  number_on v u events p = ap (λ (z : View (Snapshot (State D J)) Event). z.number) p.pass

  pub moved_step : (o : Snapshot (State D J)) (v u : View (Snapshot (State D J)) Event) (lane : ℕ) (side : Side) (page : Page) (step : Move) → ActsFor C o v (Lane lane) → IsFree (core_seen C o v) lane → Turn C o v u (RoomTurn {D = D} (Lane lane) side page (Moved step)) → Does v u (RoomSays seen o v u lane side (Ok Room))
  moved_step o v u lane side page step acts free t =
      let P = RoomTurn {D = D} (Lane lane) side page (Moved step) in
      let e = event_of (Lane lane) step in
      let c0 = core_seen C o v in
      let c = core_after C o (v.seen ++ t.between) in
      let may = free_may c0 lane free in
      let found = may_at seen o v u P (Lane lane) t acts may in
      let held = keeps_held c0 c (Lane lane) (t.kept (Lane lane) acts may.flushes.own) may.flushes.own in
      let idle = idle_back false c0 c lane (shape_at seen o (v.seen ++ t.between) v.seen) free.idle found held in
      let left = sym (leaves seen o v u P e t t.says.are) in
      let went = went_turn C o v u P t in
      record {
        events = t.events;
        went = went;
        says = record {
          event = e;
          rest = [];
          are = t.says.are;
          whole = moved_whole lane step;
          found = found_turn C o v u u P e (IsForRoom lane side e) t t.says.are t.says.next ([], sym (append-nil u.seen)) (number_on v u t.events went);
          first = λ a. subst (IsForRoom lane side e) (alone_at seen o v u P t a) t.says.next;
          after = subst (λ (d : Core). IsFree d lane) left (moved_free c lane step idle);
          same = keeps_on c0 c (core_seen C o u) (Lane lane) held (subst (λ (d : Core). SameLane c d lane) left (moved_same c lane step));
          coherent = coherent_all t.events c (core_seen C o u) t.coherent t.run;
          run = λ a. subst (λ (d : Core). CoreRun d t.events (core_seen C o u)) (alone_at seen o v u P t a) t.run;
        };
      }

  pub still_step : (o : Snapshot (State D J)) (v u : View (Snapshot (State D J)) Event) (lane : ℕ) (side : Side) (page : Page) → ActsFor C o v (Lane lane) → IsFree (core_seen C o v) lane → Turn C o v u (RoomTurn {D = D} (Lane lane) side page Nothing) → Does v u (RoomSays seen o v u lane side (Ok Wait))
  still_step o v u lane side page acts free t =
      let P = RoomTurn {D = D} (Lane lane) side page Nothing in
      let c0 = core_seen C o v in
      let q = quiet_step seen o v u P (Lane lane) acts (free_may c0 lane free) t t.says.are in
      record {
        events = t.events;
        went = went_turn C o v u P t;
        says = record {
          are = t.says.are;
          none = subst (λ (d : Core). room_event d (Lane lane) side ≡ None) (sym q.0) t.says.next;
          after = idle_back false c0 (core_seen C o u) lane (shape_at seen o u.seen v.seen) free.idle q.1 q.2;
          same = q.2;
        };
      }

  -- ---- a flush

  pub sent_ready : (o : Snapshot (State D J)) (v u : View (Snapshot (State D J)) Event) (lane : ℕ) (side : Side) (page : Page) (e : Errand D) → ActsFor C o v (Lane lane) → IsFree (core_seen C o v) lane → Turn C o v u (RoomTurn (Lane lane) side page (Sent e)) → Flushes false (core_seen C o u) (Lane lane)
  sent_ready o v u lane side page e acts free t = sent_flushes seen o v u (RoomTurn (Lane lane) side page (Sent e)) (Lane lane) e acts (free_may (core_seen C o v) lane free) t t.says.are

  -- where the pass is alone, both turns of a flush
  run_home : (o : Snapshot (State D J)) (v u w : View (Snapshot (State D J)) Event) (P : Core → List Event → Type 0) (fs : List Event) → (t : Turn C o v u P) → (u.alone ≡ true → CoreRun (core_seen C o u) fs (core_seen C o w)) → v.alone ≡ true → CoreRun (core_seen C o v) (t.events ++ fs) (core_seen C o w)
  run_home o v u w P fs t run a =
      run_on t.events fs (core_seen C o v) (core_seen C o u) (core_seen C o w) (subst (λ (d : Core). CoreRun d t.events (core_seen C o u)) (alone_at seen o v u P t a) t.run)
      (run (ap (λ (z : View (Snapshot (State D J)) Event). z.alone) t.pass ∙ a))

  came_home : (o : Snapshot (State D J)) (v u w : View (Snapshot (State D J)) Event) (lane : ℕ) (side : Side) (page : Page) (e : Errand D) (r : Flushed) (fs : List Event) → ActsFor C o v (Lane lane) → IsFree (core_seen C o v) lane → (t : Turn C o v u (RoomTurn (Lane lane) side page (Sent e))) → Went u w fs →
      HomeSays seen o u w (Lane lane) e.number e.subject (Ok r) fs → RoomSays seen o v w lane side (Ok (made_by r)) (t.events ++ fs)
  came_home o v u w lane side page e (Wrote b) fs acts free t went p =
      let P = RoomTurn (Lane lane) side page (Sent e) in
      let c0 = core_seen C o v in
      let out = FlushOut (Lane lane) e.number e.subject in
      let same = keeps_on c0 (core_seen C o u) (core_seen C o w) (Lane lane) (sent_keeps seen o v u P (Lane lane) e acts (free_may c0 lane free) t t.says.are) p.1.keeps in
      record {
        event = out;
        rest = FlushIn (Lane lane) e.number true p.1.left ∷ [];
        are = λ i. t.says.are i ++ p.1.are i;
        whole = (p.1.left, refl);
        found = found_turn C o v u w P out (IsForRoom lane side out) t t.says.are t.says.next went.seen (number_on u w fs went ∙ number_on v u t.events (went_turn C o v u P t));
        first = λ a. subst (IsForRoom lane side out) (alone_at seen o v u P t a) t.says.next;
        after = idle_back false c0 (core_seen C o w) lane (shape_at seen o w.seen v.seen) free.idle p.1.after same;
        same = same;
        coherent = p.1.coherent;
        run = run_home o v u w P fs t p.1.run;
      }
  came_home o v u w lane side page e (FlushFailed b) fs acts free t went p =
      let P = RoomTurn (Lane lane) side page (Sent e) in
      let c0 = core_seen C o v in
      let out = FlushOut (Lane lane) e.number e.subject in
      let went_out = went_turn C o v u P t in
      let same = keeps_on c0 (core_seen C o u) (core_seen C o w) (Lane lane) (sent_keeps seen o v u P (Lane lane) e acts (free_may c0 lane free) t t.says.are) p.1.keeps in
      record {
        die = e.number;
        block = e.subject;
        left = p.1.left;
        are = λ i. t.says.are i ++ p.1.are i;
        found = found_turn C o v u w P out (IsForRoom lane side out) t t.says.are t.says.next went.seen (number_on u w fs went ∙ number_on v u t.events went_out);
        failed = failed_on seen o v u w e.number went_out.seen (p.1.failed refl);
        first = λ a. subst (IsForRoom lane side out) (alone_at seen o v u P t a) t.says.next;
        after = idle_back true c0 (core_seen C o w) lane (shape_at seen o w.seen v.seen) free.idle p.1.after same;
        same = same;
        coherent = p.1.coherent;
        run = run_home o v u w P fs t p.1.run;
      }
  came_home o v u w lane side page e NothingUnclean fs acts free t went p = absurd p
  came_home o v u w lane side page e (Busy n) fs acts free t went p = absurd p

  pub sent_step : (o q : Snapshot (State D J)) (v u w : View (Snapshot (State D J)) Event) (lane : ℕ) (side : Side) (page : Page) (e : Errand D) (r : Flushed) → q ≡ o → ActsFor C o v (Lane lane) → IsFree (core_seen C o v) lane → Turn C o v u (RoomTurn (Lane lane) side page (Sent e)) →
      Does u w (HomeSays seen q u w (Lane lane) e.number e.subject (Ok r)) → Does v w (RoomSays seen o v w lane side (Ok (made_by r)))
  sent_step o q v u w lane side page e r same acts free t p =
      record {
        events = t.events ++ p.events;
        went = went_on v u w t.events p.events (went_turn C o v u (RoomTurn (Lane lane) side page (Sent e)) t) p.went;
        says = came_home o v u w lane side page e r p.events acts free t p.went (subst (λ (z : Snapshot (State D J)). HomeSays seen z u w (Lane lane) e.number e.subject (Ok r) p.events) same p.says);
      }

  -- ---- where the turn is worn

  pub sent_worn : (o q : Snapshot (State D J)) (v u w : View (Snapshot (State D J)) Event) (lane : ℕ) (side : Side) (page : Page) (e : Errand D) (x : Worn) (r : Result Made Worn) → IsErr r → Turn C o v u (RoomTurn (Lane lane) side page (Sent e)) →
      Does u w (HomeSays seen q u w (Lane lane) e.number e.subject (Err x)) → Does v w (RoomSays seen o v w lane side r)
  sent_worn o q v u w lane side page e x (Ok m) is t p = absurd (cc)
  sent_worn o q v u w lane side page e x (Err y) is t p =
      record {
        events = t.events ++ p.events;
        went = went_on v u w t.events p.events (went_turn C o v u (RoomTurn (Lane lane) side page (Sent e)) t) p.went;
        says = inr (e.number, e.subject, λ i. t.says.are i ++ p.says i);
      }

  pub room_worn : (o : Snapshot (State D J)) (v w : View (Snapshot (State D J)) Event) (lane : ℕ) (side : Side) (r : Result Made Worn) → IsErr r → Went v w [] → Does v w (RoomSays seen o v w lane side r)
  room_worn o v w lane side (Ok m) is went = absurd (cc)
  room_worn o v w lane side (Err y) is went = record { events = []; went = went; says = inl refl }
