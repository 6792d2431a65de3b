-- One step of the last sync: two turns, or one without an event.
use Rattle.std.proofs.Common.{◌≡◌, ℕ, ◌+◌, ◌<◌, ◌≤◌, Bool, true, false, List, [], ◌∷◌, ◌++◌, map, Some, None, refl, sym, ap, ◌∙◌, subst, inl, inr, append-nil, append_assoc, arith}
use Rattle.std.specs.Prelude.{◌≢◌, length, Result, Ok, Err, not}
use Rattle.std.specs.Result.{IsErr}
use mathlib.Core.List.{map-append}
use Rattle.std.specs.declared.snapshot.Snapshot.{Snapshot}
use Rattle.page_base.specs.Drive.{meta_pages}
use Rattle.turn_cell.specs.declared.book.Entry.{Entry}
use Rattle.turn_cell.specs.declared.view.View.{View}
use Rattle.turn_cell.specs.declared.pass.Worn.{Worn}
use Rattle.turn_cell.specs.Events.{events_of}
use Rattle.turn_cell.specs.History.{entry, StartsWith}
use Rattle.flash_die.specs.Dies.{DieView}
use Rattle.core_state.specs.declared.actor.Actor.{Actor}
use Rattle.core_state.specs.declared.actor.Actor.TheVariants.{Closer}
use Rattle.core_state.specs.declared.event.Event.{Event}
use Rattle.core_state.specs.declared.event.Event.TheVariants.{DieOut, FlushOut, FlushIn, MetaIn}
use Rattle.core_state.specs.declared.event.Purpose.TheVariants.{Meta}
use Rattle.core_state.specs.State.{Page, Shape, ToFlush, ToMeta, Core}
use Rattle.core_state.specs.Coherent.{Coherent}
use Rattle.core_state.specs.Hold.{is_actor}
use Rattle.core_state.specs.Happens.{HoldsNone, IsClosing, CoreRun, Happens, actor_of, is_homecoming, after}
use Rattle.core_state.specs.History.{is_failure}
use Rattle.core_solo.specs.Solo.{Chosen, IsSyncStep, IsSyncNext, IsStored, sync_event}
use Rattle.core_closing.specs.Kept.{MaySettle, IsStoredSoFar, IsFailedWrite}
use Rattle.core_closing.proofs.Shut.{kept_after, closing_after, closing_run}
use Rattle.core_closing.proofs.Keeps.{none_ahead, so_far_ahead}
use Rattle.core_closing.proofs.Failing.{unfailed}
use Rattle.core_closing.proofs.Writing.{block_ready, page_ready, block_so_far, page_so_far}
use Rattle.core_images.proofs.Encodes.{of_drive}
use Rattle.system_state.specs.Cores.{core_of}
use Rattle.system_state.specs.declared.errand.Errand.{Errand}
use Rattle.system_state.specs.declared.state.State.{State}
use Rattle.system_metas.specs.Encode.{encode}
use Rattle.desk_turns.specs.Making.{AreOf}
use Rattle.desk_turns.specs.Passing.{ActsFor, core_after, core_seen, Turn, FoundAt, Went, Does}
use Rattle.desk_turns.proofs.Holding.{run_split, shapes_kept, coherent_all}
use Rattle.core_hold.proofs.Actors.{is_itself}
use Rattle.desk_turns.proofs.Shapes.{holds_kept, coherent_after, shape_kept}
use Rattle.desk_turns.proofs.Later.{none_kept, keeps_held}
use Rattle.desk_turns.proofs.Went.{went_on, went_turn, found_turn}
use Rattle.page_steps.specs.Flushing.{IsInHand, HasFailed}
use Rattle.page_steps.proofs.FlushHands.{actor_is, core_back}
use Rattle.page_steps.proofs.FlushSteps.{shape_at, acts_on, failed_on}
use Rattle.settling.specs.Next.{IsNextWrite, IsStopped, NextSays, BlockBack, PageBack}
use Rattle.settling.specs.Steps.{EndsInFailure, StaysStored, WroteNext, WroteNone, IsUnfailed, StepSays, stepped}
use Rattle.settling.specs.declared.next.Next.{Next}
use Rattle.settling.specs.declared.next.Next.TheVariants.{Block, Meta as PageOut, Busy, Stored}
use Rattle.settling.specs.declared.step.SettleStep.{SettleStep}
use Rattle.settling.specs.declared.step.SettleStep.TheVariants.{On, Done, Failed, Waits}
use Rattle.settling.proofs.Ready.{own_closer, settle_kept}

pub run_on : (es fs : List Event) (c d e : Core) → CoreRun c es d → CoreRun d fs e → CoreRun c (es ++ fs) e
run_on [] fs c d e r s = subst (λ (x : Core). CoreRun x fs e) r s
run_on (x ∷ xs) fs c d e r s = (r.0, run_on xs fs (after c x) d e r.1 s)

-- a write that goes out, and one that comes home
record IsOut (e : Event) : Type 0 where
  pub actor : actor_of e ≡ Closer
  pub goes : is_homecoming e ≡ false
  pub good : is_failure e ≡ false

record IsHome (good : Bool) (e : Event) : Type 0 where
  pub actor : actor_of e ≡ Closer
  pub comes : is_homecoming e ≡ true
  pub fails : is_failure e ≡ not good
  pub failed : good ≡ false → IsFailedWrite e

chosen_out : (e : Event) (x y : Type 0) → is_homecoming e ≡ false → y → Chosen (is_homecoming e) x y
chosen_out e x y is p = subst (λ (t : Bool). Chosen t x y) (sym is) p

chosen_home : (e : Event) (x y : Type 0) → is_homecoming e ≡ true → x → Chosen (is_homecoming e) x y
chosen_home e x y is p = subst (λ (t : Bool). Chosen t x y) (sym is) p

flush_home : (n : ℕ) (good : Bool) (left : Page) → IsHome good (FlushIn Closer n good left)
flush_home n true left = record { actor = refl; comes = refl; fails = refl; failed = λ e. absurd (cc) }
flush_home n false left = record { actor = refl; comes = refl; fails = refl; failed = λ e. tt }

meta_home : (n : ℕ) (good : Bool) (left : Page) → IsHome good (MetaIn Closer n good left)
meta_home n true left = record { actor = refl; comes = refl; fails = refl; failed = λ e. absurd (cc) }
meta_home n false left = record { actor = refl; comes = refl; fails = refl; failed = λ e. tt }

-- from an opening at which the closer held no die
opened_unfailed : (es : List Event) (c d : Core) (e : Event) → Coherent c → HoldsNone c Closer → CoreRun c (es ++ e ∷ []) d → IsFailedWrite e → IsStored d → ⊥
opened_unfailed [] c d (FlushIn Closer die false left) h none r f st = none die (record { holder = Closer; errand = ToFlush r.0.may.b r.0.may.version r.0.may.page }) r.0.may.out refl
opened_unfailed [] c d (MetaIn Closer die false left) h none r f st = none die (record { holder = Closer; errand = ToMeta r.0.may.number r.0.may.bytes }) r.0.may.out refl
opened_unfailed [] c d e h none r f st = f
opened_unfailed (x ∷ xs) c d e h none r f st =
    let hx = coherent_after x c (after c x) h r.0 in
    go (is_actor Closer (actor_of x)) refl hx (λ still. opened_unfailed xs (after c x) d e hx still r.1 f st)
  where
    not_closer : is_actor Closer (actor_of x) ≡ false → Closer ≢ actor_of x
    not_closer t = λ same. let z : is_actor Closer (actor_of x) ≡ true = ap (is_actor Closer) (sym same) ∙ is_itself Closer in absurd (cc)

    go : (t : Bool) → is_actor Closer (actor_of x) ≡ t → Coherent (after c x) → (HoldsNone (after c x) Closer → ⊥) → ⊥
    go true t hx later = unfailed c d (x ∷ xs) e h (r.0.closing (actor_is Closer (actor_of x) t)) none r f st
    go false t hx later = later (none_kept c (after c x) Closer hx (holds_kept x c (after c x) Closer h r.0 (not_closer t) (λ w l is same. absurd (cc))) (shape_kept c x) none)

module _ {D J : Type 0} (seen : D → DieView) where
  abbrev C : State D J → Core
  C = core_of seen

  -- ---- a turn

  since_turn : (o : Snapshot (State D J)) (v u : View (Snapshot (State D J)) Event) (P : Core → List Event → Type 0) → (t : Turn C o v u P) → CoreRun (core_seen C o v) (events_of t.between) (core_after C o (v.seen ++ t.between))
  since_turn o v u P t =
      let events : events_of (v.seen ++ t.between) ≡ events_of v.seen ++ events_of t.between = map-append (λ (z : Entry Event). z.event) v.seen t.between in
      (run_split (events_of v.seen) (events_of t.between) (C o.value) (core_after C o (v.seen ++ t.between)) (subst (λ (z : List Event). CoreRun (C o.value) z (core_after C o (v.seen ++ t.between))) events t.begins)).1

  coherent_before : (o : Snapshot (State D J)) (v u : View (Snapshot (State D J)) Event) (P : Core → List Event → Type 0) → Turn C o v u P → Coherent (C o.value) → Coherent (core_seen C o v)
  coherent_before o v u P t h =
      let events : events_of (v.seen ++ t.between) ≡ events_of v.seen ++ events_of t.between = map-append (λ (z : Entry Event). z.event) v.seen t.between in
      coherent_all (events_of v.seen) (C o.value) (core_seen C o v) h
      (run_split (events_of v.seen) (events_of t.between) (C o.value) (core_after C o (v.seen ++ t.between)) (subst (λ (z : List Event). CoreRun (C o.value) z (core_after C o (v.seen ++ t.between))) events t.begins)).0

  coherent_then : (o : Snapshot (State D J)) (v u : View (Snapshot (State D J)) Event) (P : Core → List Event → Type 0) → Turn C o v u P → Coherent (core_seen C o u)
  coherent_then o v u P t = coherent_all t.events (core_after C o (v.seen ++ t.between)) (core_seen C o u) t.coherent t.run

  closer_at : (o : Snapshot (State D J)) (v u : View (Snapshot (State D J)) Event) (P : Core → List Event → Type 0) → (t : Turn C o v u P) → ActsFor C o v Closer → (core_after C o (v.seen ++ t.between)).closer ≡ (core_seen C o v).closer
  closer_at o v u P t acts = keeps_held (core_seen C o v) (core_after C o (v.seen ++ t.between)) Closer (t.kept Closer acts (own_closer (core_seen C o v))) (own_closer (core_seen C o v))

  ready_at : (o : Snapshot (State D J)) (v u : View (Snapshot (State D J)) Event) (P : Core → List Event → Type 0) → (t : Turn C o v u P) → ActsFor C o v Closer → Coherent (core_seen C o v) → MaySettle (core_seen C o v) → MaySettle (core_after C o (v.seen ++ t.between))
  ready_at o v u P t acts h p =
      settle_kept (core_seen C o v) (core_after C o (v.seen ++ t.between)) (events_of t.between) (since_turn o v u P t) h t.coherent (t.kept Closer acts (own_closer (core_seen C o v))) (shape_at seen o (v.seen ++ t.between) v.seen) p

  so_far_at : (o : Snapshot (State D J)) (v u : View (Snapshot (State D J)) Event) (P : Core → List Event → Type 0) → (t : Turn C o v u P) → ActsFor C o v Closer → Coherent (core_seen C o v) → MaySettle (core_seen C o v) → IsStoredSoFar encode (core_seen C o v) → IsStoredSoFar encode (core_after C o (v.seen ++ t.between))
  so_far_at o v u P t acts h p s =
      so_far_ahead encode (core_seen C o v) (core_after C o (v.seen ++ t.between)) (events_of t.between) of_drive h p.closing (none_ahead (core_seen C o v) h p.closing p.none) s (since_turn o v u P t) (closer_at o v u P t acts)

  -- where the pass is alone nothing was made between
  still_alone : (o : Snapshot (State D J)) (v u : View (Snapshot (State D J)) Event) (P : Core → List Event → Type 0) → (t : Turn C o v u P) → v.alone ≡ true → core_after C o (v.seen ++ t.between) ≡ core_seen C o v
  still_alone o v u P t a = ap (λ (h : List (Entry Event)). core_after C o h) (ap (λ (x : List (Entry Event)). v.seen ++ x) (t.alone a) ∙ append-nil v.seen)

  alone_on : (o : Snapshot (State D J)) (v u : View (Snapshot (State D J)) Event) (P : Core → List Event → Type 0) → Turn C o v u P → v.alone ≡ true → u.alone ≡ true
  alone_on o v u P t a = ap (λ (z : View (Snapshot (State D J)) Event). z.alone) t.pass ∙ a

  -- ---- two turns

  wrote_next : (o : Snapshot (State D J)) (v u w : View (Snapshot (State D J)) Event) (P Q : Core → List Event → Type 0) (out home : Event) (good : Bool) (n : ℕ) → (t : Turn C o v u P) → (s : Turn C o u w Q) → t.events ≡ out ∷ [] → s.events ≡ home ∷ [] → IsOut out → IsHome good home →
      IsNextWrite out (core_after C o (v.seen ++ t.between)) → Coherent (core_seen C o v) → MaySettle (core_seen C o w) → StaysStored seen o v w → (good ≡ false → HasFailed seen o u w n) → WroteNext seen o v w good (t.events ++ s.events)
  wrote_next o v u w P Q out home good n t s is then p q next begins ready stays failed =
      let went = went_turn C o v u P t in
      let number : w.number ≡ v.number = ap (λ (z : View (Snapshot (State D J)) Event). z.number) s.pass ∙ ap (λ (z : View (Snapshot (State D J)) Event). z.number) t.pass in
      let last : w.seen ≡ (u.seen ++ s.between) ++ entry u.number home ∷ [] = s.seen ∙ ap (λ (es : List Event). (u.seen ++ s.between) ++ map (entry u.number) es) then in
      record {
        out = out;
        home = home;
        are = λ i. is i ++ then i;
        next = found_turn C o v u w P out (IsNextWrite out) t is next (went_turn C o u w Q s).seen number;
        of = subst (λ (es : List Event). AreOf Closer es) (sym (λ i. is i ++ then i)) (p.actor, (q.actor, tt));
        fails = q.fails;
        failed = λ bad. ((u.seen ++ s.between, entry u.number home, last, q.failed bad), (n, failed_on seen o v u w n went.seen (failed bad)));
        begins = begins;
        ready = ready;
        coherent = coherent_then o u w Q s;
        stays = stays;
        run = λ a.
            run_on t.events s.events (core_seen C o v) (core_seen C o u) (core_seen C o w) (subst (λ (c : Core). CoreRun c t.events (core_seen C o u)) (still_alone o v u P t a) t.run)
            (subst (λ (c : Core). CoreRun c s.events (core_seen C o w)) (still_alone o u w Q s (alone_on o v u P t a)) s.run);
        solo = λ a.
            let c = core_seen C o v in
            let here : sync_event encode c Closer c.closer ≡ Some out = subst (IsNextWrite out) (still_alone o v u P t a) next in
            let d = after c out in (
              record { next = chosen_out out (actor_of out ≡ Closer) (sync_event encode c Closer c.closer ≡ Some out) p.goes here; good = p.good },
              chosen_home home (actor_of home ≡ Closer) (sync_event encode d Closer d.closer ≡ Some home) q.comes q.actor,
            );
      }

  on_says : (o : Snapshot (State D J)) (v w : View (Snapshot (State D J)) Event) (good : Bool) (es : List Event) → WroteNext seen o v w good es → StepSays seen o v w (Ok (stepped good)) es
  on_says o v w true es p = p
  on_says o v w false es p = p

  -- what the core is that a turn of one event leaves, and that the event happened
  one_event : (o : Snapshot (State D J)) (v u : View (Snapshot (State D J)) Event) (P : Core → List Event → Type 0) (e : Event) → (t : Turn C o v u P) → t.events ≡ e ∷ [] →
      Happens (core_after C o (v.seen ++ t.between)) e (after (core_after C o (v.seen ++ t.between)) e) × (core_seen C o u ≡ after (core_after C o (v.seen ++ t.between)) e)
  one_event o v u P e t is = subst (λ (es : List Event). CoreRun (core_after C o (v.seen ++ t.between)) es (core_seen C o u)) is t.run

  -- the closer's die is out, and others act
  pub going_closing : (o : Snapshot (State D J)) (v u : View (Snapshot (State D J)) Event) (P : Core → List Event → Type 0) (e : Event) → (t : Turn C o v u P) → t.events ≡ e ∷ [] → ActsFor C o v Closer → Coherent (C o.value) → MaySettle (core_seen C o v) → IsClosing (core_seen C o u)
  going_closing o v u P e t is acts h p =
      let f = core_after C o (v.seen ++ t.between) in
      let k = one_event o v u P e t is in
      subst IsClosing (sym k.1) (closing_after e f t.coherent k.0 (ready_at o v u P t acts (coherent_before o v u P t h) p).closing)

  pub block_step : (o q : Snapshot (State D J)) (v u w : View (Snapshot (State D J)) Event) (page : Page) (e : Errand D) (good : Bool) → q ≡ o → ActsFor C o v Closer → MaySettle (core_seen C o v) → Coherent (C o.value) → Turn C o v u (NextSays page (Block e)) → Turn C q u w (BlockBack e good) → (good ≡ false → HasFailed seen q u w e.number) →
      Does v w (StepSays seen o v w (Ok (stepped good)))
  block_step o q v u w page e good same acts p h t s' failed' =
      let P = NextSays page (Block e) in
      let Q = BlockBack e good in
      let s : Turn C o u w Q = subst (λ (z : Snapshot (State D J)). Turn C z u w Q) same s' in
      let failed : good ≡ false → HasFailed seen o u w e.number = subst (λ (z : Snapshot (State D J)). good ≡ false → HasFailed seen z u w e.number) same failed' in
      let out = FlushOut Closer e.number e.subject in
      let left = s.says.0 in
      let home = FlushIn Closer e.number good left in
      let c = core_seen C o v in
      let f = core_after C o (v.seen ++ t.between) in
      let x = core_seen C o u in
      let g = core_after C o (u.seen ++ s.between) in
      let hc = coherent_before o v u P t h in
      let acts_u = acts_on seen o v u Closer P t acts in
      let k = one_event o v u P out t t.says.0 in
      let m = one_event o u w Q home s s.says.1 in
      let ready = ready_at o v u P t acts hc p in
      let closing_u = going_closing o v u P out t t.says.0 acts h p in
      let closing_g = closing_run (events_of s.between) x g (coherent_then o v u P t) closing_u (since_turn o u w Q s) in
      let closer_g : g.closer ≡ f.closer = closer_at o u w Q s acts_u ∙ ap (λ (z : Core). z.closer) k.1 in
      let most : g.closer ≤ meta_pages g.shape.blocks = subst (λ (z : ℕ × Shape). z.0 ≤ meta_pages z.1.blocks) (λ i. (sym closer_g i, shape_at seen o (v.seen ++ t.between) (u.seen ++ s.between) i)) ready.most in
      let b = block_ready g e.number good left s.coherent closing_g most m.0 in
      let closer_w : (core_seen C o w).closer ≡ f.closer = ap (λ (z : Core). z.closer) m.1 ∙ (b.1 ∙ closer_g) in
      let wrote = wrote_next o v u w P Q out home good e.number t s t.says.0 s.says.1 (record { actor = refl; goes = refl; good = refl }) (flush_home e.number good left) t.says.1 hc (subst MaySettle (sym m.1) b.0)
      (λ y. block_so_far encode f (core_seen C o w) e.number e.subject k.0 closer_w (so_far_at o v u P t acts hc p y)) failed in
      record {
        events = t.events ++ s.events;
        went = went_on v u w t.events s.events (went_turn C o v u P t) (went_turn C o u w Q s);
        says = on_says o v w good (t.events ++ s.events) wrote;
      }

  pub page_step : (o q : Snapshot (State D J)) (v u w : View (Snapshot (State D J)) Event) (page : Page) (e : Errand D) (good : Bool) → q ≡ o → ActsFor C o v Closer → MaySettle (core_seen C o v) → Coherent (C o.value) → Turn C o v u (NextSays page (PageOut e)) → IsInHand seen o u.seen Closer (ToMeta e.subject page) e.subject e →
      Turn C q u w (PageBack e good) → (good ≡ false → HasFailed seen q u w e.number) → Does v w (StepSays seen o v w (Ok (stepped good)))
  page_step o q v u w page e good same acts p h t hand s' failed' =
      let P = NextSays page (PageOut e) in
      let Q = PageBack e good in
      let s : Turn C o u w Q = subst (λ (z : Snapshot (State D J)). Turn C z u w Q) same s' in
      let failed : good ≡ false → HasFailed seen o u w e.number = subst (λ (z : Snapshot (State D J)). good ≡ false → HasFailed seen z u w e.number) same failed' in
      let out = DieOut Closer e.number (Meta e.subject page) in
      let left = s.says.0 in
      let home = MetaIn Closer e.number good left in
      let c = core_seen C o v in
      let f = core_after C o (v.seen ++ t.between) in
      let x = core_seen C o u in
      let g = core_after C o (u.seen ++ s.between) in
      let sends = t.says.1 in
      let hc = coherent_before o v u P t h in
      let acts_u = acts_on seen o v u Closer P t acts in
      let k = one_event o v u P out t t.says.0 in
      let m = one_event o u w Q home s s.says.1 in
      let ready = ready_at o v u P t acts hc p in
      let closing_u = going_closing o v u P out t t.says.0 acts h p in
      let closing_g = closing_run (events_of s.between) x g (coherent_then o v u P t) closing_u (since_turn o u w Q s) in
      let closer_g : g.closer ≡ f.closer = closer_at o u w Q s acts_u ∙ ap (λ (z : Core). z.closer) k.1 in
      let sizes : x.shape.dies ≡ o.value.sizes.dies = ap (λ (z : Shape). z.dies) (shapes_kept (events_of u.seen) (C o.value)) in
      let back = core_back x g Closer e.number (ToMeta e.subject page) (s.kept Closer acts_u (own_closer x)) (shape_at seen o (u.seen ++ s.between) u.seen) (subst (λ (z : ℕ). e.number < z) (sym sizes) hand.number) hand.out in
      let fg : CoreRun f (out ∷ events_of s.between) g = (k.0, subst (λ (z : Core). CoreRun z (events_of s.between) g) k.1 (since_turn o u w Q s)) in
      let b = page_ready g e.number e.subject good left page s.coherent closing_g back.out (sends.number ∙ sym closer_g) m.0 in
      let wrote = wrote_next o v u w P Q out home good e.number t s t.says.0 s.says.1 (record { actor = refl; goes = refl; good = refl }) (meta_home e.number good left) sends.next hc (subst MaySettle (sym m.1) b)
      (λ y. subst (IsStoredSoFar encode) (sym m.1) (page_so_far encode f g (out ∷ events_of s.between) e.number e.subject good left page of_drive t.coherent ready.closing ready.none fg closer_g sends.number sends.bytes sends.clean back.out (so_far_at o v u P t acts hc p y))) failed in
      record {
        events = t.events ++ s.events;
        went = went_on v u w t.events s.events (went_turn C o v u P t) (went_turn C o u w Q s);
        says = on_says o v w good (t.events ++ s.events) wrote;
      }

  -- ---- no event

  none_step : (o : Snapshot (State D J)) (v u : View (Snapshot (State D J)) Event) (P : Core → List Event → Type 0) (why : Core → Type 0) → (t : Turn C o v u P) → t.events ≡ [] → why (core_after C o (v.seen ++ t.between)) → ActsFor C o v Closer → MaySettle (core_seen C o v) → Coherent (C o.value) → WroteNone seen o v u why t.events
  none_step o v u P why t is because acts p h =
      let f = core_after C o (v.seen ++ t.between) in
      let hc = coherent_before o v u P t h in
      let still : core_seen C o u ≡ f = subst (λ (es : List Event). CoreRun f es (core_seen C o u)) is t.run in
      record {
        are = is;
        because = subst why (sym still) because;
        ready = subst MaySettle (sym still) (ready_at o v u P t acts hc p);
        coherent = coherent_then o v u P t;
        stays = λ y. subst (IsStoredSoFar encode) (sym still) (so_far_at o v u P t acts hc p y);
        same = λ a. still ∙ still_alone o v u P t a;
      }

  pub waits_step : (o : Snapshot (State D J)) (v u : View (Snapshot (State D J)) Event) (page : Page) (die : ℕ) → ActsFor C o v Closer → MaySettle (core_seen C o v) → Coherent (C o.value) → Turn C o v u (NextSays {D = D} page (Busy die)) → Does v u (StepSays seen o v u (Ok Waits))
  waits_step o v u page die acts p h t =
      let P = NextSays {D = D} page (Busy die) in
      record { events = t.events; went = went_turn C o v u P t; says = none_step o v u P (λ c. (die : ℕ) × IsStopped die c) t t.says.0 (die, t.says.1) acts p h }

  -- the whole run of what was seen
  run_seen : (o : Snapshot (State D J)) (v u : View (Snapshot (State D J)) Event) (P : Core → List Event → Type 0) → (t : Turn C o v u P) → t.events ≡ [] → CoreRun (C o.value) (events_of u.seen) (core_seen C o u)
  run_seen o v u P t is =
      let end : u.seen ≡ v.seen ++ t.between = t.seen ∙ (ap (λ (es : List Event). (v.seen ++ t.between) ++ map (entry v.number) es) is ∙ append-nil (v.seen ++ t.between)) in
      subst (λ (h : List (Entry Event)). CoreRun (C o.value) (events_of h) (core_after C o h)) (sym end) t.begins

  pub done_step : (o : Snapshot (State D J)) (v u : View (Snapshot (State D J)) Event) (page : Page) → ActsFor C o v Closer → MaySettle (core_seen C o v) → Coherent (C o.value) → Turn C o v u (NextSays {D = D} page Stored) → Does v u (StepSays seen o v u (Ok Done))
  done_step o v u page acts p h t =
      let P = NextSays {D = D} page Stored in
      let wrote = none_step o v u P IsStored t t.says.0 t.says.1 acts p h in
      record {
        events = t.events;
        went = went_turn C o v u P t;
        says = (
          wrote,
          λ none ends.
              let events : events_of u.seen ≡ events_of ends.0 ++ ends.1.event ∷ [] = ap events_of ends.2 ∙ map-append (λ (z : Entry Event). z.event) ends.0 (ends.1 ∷ []) in
              opened_unfailed (events_of ends.0) (C o.value) (core_seen C o u) ends.1.event h none (subst (λ (es : List Event). CoreRun (C o.value) es (core_seen C o u)) events (run_seen o v u P t t.says.0)) ends.3 wrote.because,
        );
      }

  -- ---- where the turn is worn

  pub step_worn : (o : Snapshot (State D J)) (v w : View (Snapshot (State D J)) Event) (r : Result SettleStep Worn) → IsErr r → Went v w [] → Does v w (StepSays seen o v w r)
  step_worn o v w (Ok x) e went = absurd (cc)
  step_worn o v w (Err y) e went = record { events = []; went = went; says = (tt, omega arith) }

  pub home_worn : (o : Snapshot (State D J)) (v u w : View (Snapshot (State D J)) Event) (P : Core → List Event → Type 0) (out : Event) (r : Result SettleStep Worn) → IsErr r → (t : Turn C o v u P) → t.events ≡ out ∷ [] → actor_of out ≡ Closer → Went u w [] → Does v w (StepSays seen o v w r)
  home_worn o v u w P out (Ok x) e t is actor went = absurd (cc)
  home_worn o v u w P out (Err y) e t is actor went =
      record {
        events = t.events ++ [];
        went = went_on v u w t.events [] (went_turn C o v u P t) went;
        says = subst (λ (es : List Event). AreOf Closer es × (length es ≤ 1)) (sym (append-nil t.events ∙ is)) ((actor, tt), omega arith);
      }
