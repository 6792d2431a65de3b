-- One step of a `sync`: two turns, or one.
use Rattle.std.proofs.Common.{◌≡◌, ℕ, ◌+◌, ◌<◌, ◌≤◌, Bool, true, false, List, [], ◌∷◌, ◌++◌, Option, None, inl, inr, refl, sym, ap, ◌∙◌, subst, append-nil, arith}
use Rattle.std.specs.Prelude.{length, not, is_none, is_some, slice_get, option_map, Result, Ok, Err, IfOk, IfErr}
use Rattle.std.specs.List.{find}
use Rattle.std.specs.Result.{IsErr}
use Rattle.std.specs.declared.snapshot.Snapshot.{Snapshot}
use Rattle.page_base.specs.Drive.{meta_pages}
use Rattle.turn_cell.specs.declared.view.View.{View}
use Rattle.turn_cell.specs.declared.pass.Worn.{Worn}
use Rattle.turn_cell.specs.Events.{events_of}
use Rattle.flash_die.specs.Dies.{DieView}
use Rattle.dispatcher.specs.declared.side.Side.{Side}
use Rattle.index_lists.specs.Words.{one_if}
use Rattle.plain_files.specs.declared.calls.Numbered.{Numbered}
use Rattle.plain_files.specs.declared.calls.Request.{Request}
use Rattle.plain_files.specs.History.{Entry as CallEntry}
use Rattle.core_state.specs.declared.actor.Actor.TheVariants.{Lane}
use Rattle.core_state.specs.declared.event.Event.{Event}
use Rattle.core_state.specs.declared.event.Event.TheVariants.{Begin, DieOut, FlushOut, FlushIn, MetaIn, End}
use Rattle.core_state.specs.declared.event.Purpose.TheVariants.{Meta}
use Rattle.core_state.specs.State.{Page, Shape, ToMeta, Core}
use Rattle.core_state.specs.Contents.{die_of}
use Rattle.core_state.specs.Reach.{is_sync}
use Rattle.core_state.specs.DieEvents.{is_home, is_flushable, flush_of}
use Rattle.core_state.specs.Coherent.{Coherent}
use Rattle.core_state.specs.Happens.{HoldsNone, May, CoreRun, Happens, actor_of, after}
use Rattle.core_state.specs.History.{and_then, calls_of, entry_of, failures, is_failure}
use Rattle.core_solo.specs.Solo.{Steps, IsStep}
use Rattle.core_solo.specs.Alone.{IsAlone}
use Rattle.core_solo.proofs.Flights.{flush_there_of}
use Rattle.core_solo.proofs.Goes.{still_all}
use Rattle.core_solo.proofs.Nexts.{home_alone}
use Rattle.core_solo.proofs.Rooms.{AllHome}
use Rattle.system_state.specs.Cores.{core_of}
use Rattle.system_state.specs.declared.errand.Errand.{Errand}
use Rattle.system_state.specs.declared.not_yet.NotYet.{NotYet}
use Rattle.system_state.specs.declared.not_yet.NotYet.TheVariants.{Awaited, Conflict, FnInUse, NoRoom, DieBusy, Unfinished, QueueEmpty, NothingDirty, NoVictim}
use Rattle.system_state.specs.declared.state.State.{State}
use Rattle.system_dies.specs.Going.{flush_refusal}
use Rattle.system_metas.specs.Encode.{encode}
use Rattle.desk_turns.specs.Making.{AreOf}
use Rattle.desk_turns.specs.Passing.{ActsFor, IsItsOwn, core_after, core_seen, Turn, Went, Does}
use Rattle.desk_turns.proofs.Holding.{coherent_all, shapes_kept}
use Rattle.desk_turns.proofs.Later.{none_kept}
use Rattle.desk_turns.proofs.Went.{went_on, went_turn, found_turn}
use Rattle.quick_calls.specs.Flushing.{OutSays, HasFailed}
use Rattle.quick_calls.specs.MetaTurns.{MetaSays}
use Rattle.quick_calls.specs.BegunAnswer.{Begun}
use Rattle.quick_calls.specs.BegunAnswer.TheVariants.{Ended, Started}
use Rattle.quick_calls.specs.MetaAnswer.TheVariants.{Sent, Busy as MetaBusy, Unclean}
use Rattle.quick_calls.proofs.FlushSteps.{shape_at, acts_on, failed_on}
use Rattle.quick_calls.specs.Beginning.{BeginSays}
use Rattle.quick_calls.specs.Ending.{EndSays}
use Rattle.quick_calls.specs.Making.{IsFree}
use Rattle.quick_calls.proofs.Ending.{idle_at, found_alone}
use Rattle.sync_calls.specs.Writes.{BlockBack, PageBack}
use Rattle.sync_calls.specs.Stages.{IsInSync, AtStage, is_failed, quiet_left, HasGoneOn, HasWaited, HasReplied, AreSilent, IsAtEnd, EndedSays, StepSays, flushed, refused, stored}
use Rattle.sync_calls.specs.declared.stages.Stage.{Stage}
use Rattle.sync_calls.specs.declared.stages.Stage.TheVariants.{Idle, Flush, Store, Failed}
use Rattle.sync_calls.specs.declared.stages.SyncStep.{SyncStep}
use Rattle.sync_calls.specs.declared.stages.SyncStep.TheVariants.{On, Replied, Waits}
use Rattle.sync_calls.proofs.InSync.{own_in_sync, in_sync_kept, in_sync_out, block_lands, page_lands, free_end}
use Rattle.sync_calls.proofs.Nexts.{acts_in_sync, block_out_next, page_out_next, home_in_next, end_in_next}
use Rattle.sync_calls.proofs.Begins.{begun_in_sync, begin_steps, sync_not_refused, sync_not_waiting}

pub run_on : (es fs : List Event) (c d e : Core) → CoreRun c es d → CoreRun d fs e → CoreRun c (es ++ fs) e
run_on [] fs c d e r s = subst (λ (x : Core). CoreRun x fs e) r s
run_on (x ∷ xs) fs c d e r s = (r.0, run_on xs fs (after c x) d e r.1 s)

-- an event of the lane that ends no call
record IsInside (lane : ℕ) (failed : Bool) (e : Event) : Type 0 where
  pub actor : actor_of e ≡ Lane lane
  pub silent : entry_of e ≡ None
  pub fails : is_failure e ≡ failed

-- the stage after a write
after_write : Bool → Stage → Stage
after_write true next = next
after_write false next = Failed

failed_write : (good : Bool) (next : Stage) → is_failed next ≡ false → is_failed (after_write good next) ≡ not good
unfolding after_write
failed_write true next e = e
failed_write false next e = refl

count_two : (a b good : Bool) (next : Stage) → is_failed next ≡ false → a ≡ false → b ≡ not good → one_if a + (one_if b + 0) ≡ one_if (is_failed (after_write good next))
unfolding after_write
count_two a b true next e p q = (λ i. one_if (p i) + (one_if (q i) + 0)) ∙ ap one_if (sym e)
count_two a b false next e p q = λ i. one_if (p i) + (one_if (q i) + 0)

block_silent : (lane die b : ℕ) → IsInside lane false (FlushOut (Lane lane) die b)
block_silent lane die b = record { actor = refl; silent = refl; fails = refl }

page_silent : (lane die n : ℕ) (page : Page) → IsInside lane false (DieOut (Lane lane) die (Meta n page))
page_silent lane die n page = record { actor = refl; silent = refl; fails = refl }

block_home_silent : (lane die : ℕ) (good : Bool) (left : Page) → IsInside lane (not good) (FlushIn (Lane lane) die good left)
block_home_silent lane die good left = record { actor = refl; silent = refl; fails = refl }

page_home_silent : (lane die : ℕ) (good : Bool) (left : Page) → IsInside lane (not good) (MetaIn (Lane lane) die good left)
page_home_silent lane die good left = record { actor = refl; silent = refl; fails = refl }

-- ---- these answers end no call

abbrev pub step_ok : SyncStep → Result SyncStep Worn
step_ok r = Ok r

abbrev pub reply_ok : Numbered → Result Numbered Worn
reply_ok n = Ok n

same_step : (r s : SyncStep) → step_ok r ≡ step_ok s → r ≡ s
same_step r s e = cc

on_open : (next : Stage) (n : Numbered) → On next ≡ Replied n → ⊥
on_open next n e = absurd (cc)

flushed_open : (good : Bool) (n : Numbered) → flushed good ≡ Replied n → ⊥
flushed_open true n e = on_open Flush n e
flushed_open false n e = on_open Failed n e

stored_open : (good : Bool) (k : ℕ) (n : Numbered) → stored good k ≡ Replied n → ⊥
stored_open true k n e = on_open (Store k) n e
stored_open false k n e = on_open Failed n e

refused_open : (y : NotYet) (n : Numbered) → refused y ≡ Replied n → ⊥
refused_open (DieBusy die) n e = absurd (cc)
refused_open (Awaited lane ended) n e = on_open (Store 0) n e
refused_open (Conflict call) n e = on_open (Store 0) n e
refused_open (FnInUse call) n e = on_open (Store 0) n e
refused_open (NoRoom used need) n e = on_open (Store 0) n e
refused_open (Unfinished lane) n e = on_open (Store 0) n e
refused_open (QueueEmpty closing) n e = on_open (Store 0) n e
refused_open NothingDirty n e = on_open (Store 0) n e
refused_open (NoVictim copies) n e = on_open (Store 0) n e

pub flushed_told : (good : Bool) (r : SyncStep) (n : Numbered) → r ≡ flushed good → step_ok r ≡ step_ok (Replied n) → ⊥
flushed_told good r n is e = flushed_open good n (sym is ∙ same_step r (Replied n) e)

pub stored_told : (good : Bool) (k : ℕ) (r : SyncStep) (n : Numbered) → r ≡ stored good k → step_ok r ≡ step_ok (Replied n) → ⊥
stored_told good k r n is e = stored_open good k n (sym is ∙ same_step r (Replied n) e)

pub refused_told : (y : NotYet) (r : SyncStep) (n : Numbered) → r ≡ refused y → step_ok r ≡ step_ok (Replied n) → ⊥
refused_told y r n is e = refused_open y n (sym is ∙ same_step r (Replied n) e)

pub on_told : (next : Stage) (r : SyncStep) (n : Numbered) → r ≡ On next → step_ok r ≡ step_ok (Replied n) → ⊥
on_told next r n is e = on_open next n (sym is ∙ same_step r (Replied n) e)

same_reply : (m n : Numbered) → Replied m ≡ Replied n → m ≡ n
same_reply m n e = cc

-- the number of a call that ends by a step is that of its end
pub reply_told : (m n : Numbered) → step_ok (Replied m) ≡ step_ok (Replied n) → reply_ok m ≡ reply_ok n
reply_told m n e = ap reply_ok (same_reply m n (same_step (Replied m) (Replied n) e))

-- where nobody else acts, and the lane holds no die
pub home_of : (m : Bool) (c : Core) (lane : ℕ) (request : Request) (n : ℕ) → IsAlone c lane request → HoldsNone c (Lane lane) → IsInSync m c lane request n → AllHome c
home_of m c lane request n alone none p = home_alone c lane request alone (subst (HoldsNone c) (sym (acts_in_sync m c lane request n p)) none)

first_there : (c : Core) (lane : ℕ) → AllHome c → find (is_flushable c) c.unclean ≡ None → is_some (slice_get c.unclean 0) ≡ true → ⊥
first_there c lane home none some_are = flush_there_of c (Lane lane) home some_are (ap (λ (o : Option ℕ). option_map (λ b. FlushOut (Lane lane) (die_of c.shape b) b) o) none)

block_at : (alone : Bool) (d : Core) (lane : ℕ) (request : Request) (count : ℕ) (good : Bool) → HoldsNone d (Lane lane) → IsInSync (not good) d lane request 0 → AtStage alone d lane request count (after_write good Flush)
unfolding after_write
block_at alone d lane request count true none p = (none, p)
block_at alone d lane request count false none p = (none, (0, p))

page_at : (alone : Bool) (d : Core) (lane : ℕ) (request : Request) (count n : ℕ) (good : Bool) → HoldsNone d (Lane lane) → IsInSync (not good) d lane request (n + one_if good) → n + 1 ≤ count → (alone ≡ true → d.unclean ≡ []) → AtStage alone d lane request count (after_write good (Store (n + 1)))
unfolding after_write
page_at alone d lane request count n true none p most clean = (none, p, most, clean)
page_at alone d lane request count n false none p most clean = (none, (n + 0, p))

module _ {D J : Type 0} (seen : D → DieView) where
  abbrev C : State D J → Core
  C = core_of seen

  abbrev F : (o : Snapshot (State D J)) (v u : View (Snapshot (State D J)) Event) (P : Core → List Event → Type 0) → Turn C o v u P → Core
  F o v u P t = core_after C o (v.seen ++ t.between)

  -- what the core is that a turn of one event leaves, and that the event happened
  one_event : (o : Snapshot (State D J)) (v u : View (Snapshot (State D J)) Event) (P : Core → List Event → Type 0) (e : Event) → (t : Turn C o v u P) → t.events ≡ e ∷ [] → Happens (F o v u P t) e (after (F o v u P t) e) × (core_seen C o u ≡ after (F o v u P t) e)
  one_event o v u P e t is = subst (λ (es : List Event). CoreRun (F o v u P t) es (core_seen C o u)) is t.run

  -- and of one without
  none_event : (o : Snapshot (State D J)) (v u : View (Snapshot (State D J)) Event) (P : Core → List Event → Type 0) → (t : Turn C o v u P) → t.events ≡ [] → core_seen C o u ≡ F o v u P t
  none_event o v u P t is = subst (λ (es : List Event). CoreRun (F o v u P t) es (core_seen C o u)) is t.run

  coherent_then : (o : Snapshot (State D J)) (v u : View (Snapshot (State D J)) Event) (P : Core → List Event → Type 0) → Turn C o v u P → Coherent (core_seen C o u)
  coherent_then o v u P t = coherent_all t.events (F o v u P t) (core_seen C o u) t.coherent t.run

  alone_on : (o : Snapshot (State D J)) (v u : View (Snapshot (State D J)) Event) (P : Core → List Event → Type 0) → Turn C o v u P → v.alone ≡ true → u.alone ≡ true
  alone_on o v u P t a = ap (λ (z : View (Snapshot (State D J)) Event). z.alone) t.pass ∙ a

  -- the call is found as it was
  in_sync_at : (m : Bool) (o : Snapshot (State D J)) (v u : View (Snapshot (State D J)) Event) (lane : ℕ) (request : Request) (n : ℕ) (P : Core → List Event → Type 0) → (t : Turn C o v u P) → ActsFor C o v (Lane lane) → IsInSync m (core_seen C o v) lane request n → IsInSync m (F o v u P t) lane request n
  in_sync_at m o v u lane request n P t acts p =
      in_sync_kept m (core_seen C o v) (F o v u P t) lane request n (t.kept (Lane lane) acts (own_in_sync m (core_seen C o v) lane request n p)) (shape_at seen o (v.seen ++ t.between) v.seen) p

  none_at : (m : Bool) (o : Snapshot (State D J)) (v u : View (Snapshot (State D J)) Event) (lane : ℕ) (request : Request) (n : ℕ) (P : Core → List Event → Type 0) → (t : Turn C o v u P) → ActsFor C o v (Lane lane) → IsInSync m (core_seen C o v) lane request n → HoldsNone (core_seen C o v) (Lane lane) → HoldsNone (F o v u P t) (Lane lane)
  none_at m o v u lane request n P t acts p none =
      none_kept (core_seen C o v) (F o v u P t) (Lane lane) t.coherent (t.kept (Lane lane) acts (own_in_sync m (core_seen C o v) lane request n p)) (shape_at seen o (v.seen ++ t.between) v.seen) none

  -- ---- two turns

  wrote : (o : Snapshot (State D J)) (v u w : View (Snapshot (State D J)) Event) (lane : ℕ) (request : Request) (count : ℕ) (stage next : Stage) (P Q : Core → List Event → Type 0) (out home : Event) (good : Bool) (die : ℕ) → (t : Turn C o v u P) → (s : Turn C o u w Q) → t.events ≡ out ∷ [] → s.events ≡ home ∷ [] →
      IsInside lane false out → IsInside lane (not good) home → is_failed stage ≡ false → is_failed next ≡ false → AtStage v.alone (core_seen C o w) lane request count (after_write good next) →
      (v.alone ≡ true → IsStep encode lane request (core_seen C o v) out) → IsStep encode lane request (core_seen C o u) home → (good ≡ false → HasFailed seen o u w die) →
      HasGoneOn seen o v w lane request count stage (after_write good next) (t.events ++ s.events)
  wrote o v u w lane request count stage next P Q out home good die t s is then p q before fine at first second failed =
      let all : t.events ++ s.events ≡ out ∷ home ∷ [] = λ i. is i ++ then i in
      let k = one_event o v u P out t is in
      record {
        of = subst (λ (es : List Event). AreOf (Lane lane) es) (sym all) (p.actor, (q.actor, tt));
        silent = ap calls_of all ∙ (λ i. and_then (p.silent i) (and_then (q.silent i) []));
        unfailed = before;
        failures_are = ap failures all ∙ count_two (is_failure out) (is_failure home) good next fine p.fails q.fails;
        failed = λ bad. (die, failed_on seen o v u w die (went_turn C o v u P t).seen (failed (is_bad good (sym (failed_write good next fine) ∙ bad))));
        at = at;
        coherent = coherent_then o u w Q s;
        steps = λ a.
            subst (λ (es : List Event). Steps (IsStep encode lane request) (core_seen C o v) es) (sym all)
            (first a, (subst (λ (c : Core). IsStep encode lane request c home) (k.1 ∙ ap (λ (c : Core). after c out) (found_alone seen o v u P t a)) second, tt));
        run = λ a.
            run_on t.events s.events (core_seen C o v) (core_seen C o u) (core_seen C o w) (subst (λ (c : Core). CoreRun c t.events (core_seen C o u)) (found_alone seen o v u P t a) t.run)
            (subst (λ (c : Core). CoreRun c s.events (core_seen C o w)) (found_alone seen o u w Q s (alone_on o v u P t a)) s.run);
        goes = λ a. inl (λ e. let z = sym all ∙ e in absurd (cc));
      }
    where
      is_bad : (t : Bool) → not t ≡ true → t ≡ false
      is_bad true e = absurd (cc)
      is_bad false e = refl

  block_says : (o : Snapshot (State D J)) (v w : View (Snapshot (State D J)) Event) (lane : ℕ) (request : Request) (count : ℕ) (good : Bool) (es : List Event) → HasGoneOn seen o v w lane request count Flush (after_write good Flush) es → StepSays seen o v w lane request count Flush (Ok (flushed good)) es
  unfolding after_write
  block_says o v w lane request count true es p = p
  block_says o v w lane request count false es p = p

  page_says : (o : Snapshot (State D J)) (v w : View (Snapshot (State D J)) Event) (lane : ℕ) (request : Request) (count : ℕ) (stage : Stage) (good : Bool) (n : ℕ) (es : List Event) → HasGoneOn seen o v w lane request count stage (after_write good (Store n)) es → StepSays seen o v w lane request count stage (Ok (stored good n)) es
  unfolding after_write
  page_says o v w lane request count stage true n es p = p
  page_says o v w lane request count stage false n es p = p

  pub block_step : (o q : Snapshot (State D J)) (v u w : View (Snapshot (State D J)) Event) (lane : ℕ) (request : Request) (count : ℕ) (page : Page) (e : Errand D) (good : Bool) → q ≡ o → ActsFor C o v (Lane lane) → AtStage v.alone (core_seen C o v) lane request count Flush → Turn C o v u (OutSays (Lane lane) page (Ok e)) →
      Turn C q u w (BlockBack lane e good) → (good ≡ false → HasFailed seen q u w e.number) → Does v w (StepSays seen o v w lane request count Flush (Ok (flushed good)))
  block_step o q v u w lane request count page e good same acts at t s' failed' =
      let P = OutSays (Lane lane) page (Ok e) in
      let Q = BlockBack lane e good in
      let s : Turn C o u w Q = subst (λ (z : Snapshot (State D J)). Turn C z u w Q) same s' in
      let failed : good ≡ false → HasFailed seen o u w e.number = subst (λ (z : Snapshot (State D J)). good ≡ false → HasFailed seen z u w e.number) same failed' in
      let out = FlushOut (Lane lane) e.number e.subject in
      let left = s.says.0 in
      let home = FlushIn (Lane lane) e.number good left in
      let f = F o v u P t in
      let g = F o u w Q s in
      let acts_u = acts_on seen o v u (Lane lane) P t acts in
      let k = one_event o v u P out t t.says.0 in
      let m = one_event o u w Q home s s.says.1 in
      let in_f = in_sync_at false o v u lane request 0 P t acts at.1 in
      let in_u = subst (λ (c : Core). IsInSync false c lane request 0) (sym k.1) (in_sync_out false f lane request 0 (Lane lane) e.number (flush_of f e.subject) in_f) in
      let in_g = in_sync_at false o u w lane request 0 Q s acts_u in_u in
      let back = m.0.may in
      let lands = block_lands g lane request 0 e.number back.b back.version back.page left good s.coherent back.out in_g in
      let step = block_out_next f lane request 0 e.number e.subject t.coherent in_f t.says.1 k.0.may.on_die in
      record {
        events = t.events ++ s.events;
        went = went_on v u w t.events s.events (went_turn C o v u P t) (went_turn C o u w Q s);
        says = block_says o v w lane request count good (t.events ++ s.events)
            (wrote o v u w lane request count Flush Flush P Q out home good e.number t s t.says.0 s.says.1 (block_silent lane e.number e.subject) (block_home_silent lane e.number good left) refl refl
            (block_at v.alone (core_seen C o w) lane request count good (subst (λ (c : Core). HoldsNone c (Lane lane)) (sym m.1) lands.0) (subst (λ (c : Core). IsInSync (not good) c lane request 0) (sym m.1) lands.1))
            (λ a. subst (λ (c : Core). IsStep encode lane request c out) (found_alone seen o v u P t a) step)
            (home_in_next false (core_seen C o u) lane request 0 home in_u refl refl refl) failed);
      }

  pub page_step : (o q : Snapshot (State D J)) (v u w : View (Snapshot (State D J)) Event) (lane : ℕ) (request : Request) (count n : ℕ) (page : Page) (e : Errand D) (good : Bool) → q ≡ o → ActsFor C o v (Lane lane) → n < count → AtStage v.alone (core_seen C o v) lane request count (Store n) → Turn C o v u (MetaSays (Lane lane) n page (Sent e)) →
      Turn C q u w (PageBack lane e good) → (good ≡ false → HasFailed seen q u w e.number) → Does v w (StepSays seen o v w lane request count (Store n) (Ok (stored good (n + 1))))
  page_step o q v u w lane request count n page e good same acts below at t s' failed' =
      let P = MetaSays (Lane lane) n page (Sent e) in
      let Q = PageBack lane e good in
      let s : Turn C o u w Q = subst (λ (z : Snapshot (State D J)). Turn C z u w Q) same s' in
      let failed : good ≡ false → HasFailed seen o u w e.number = subst (λ (z : Snapshot (State D J)). good ≡ false → HasFailed seen z u w e.number) same failed' in
      let out = DieOut (Lane lane) e.number (Meta n page) in
      let left = s.says.0 in
      let home = MetaIn (Lane lane) e.number good left in
      let f = F o v u P t in
      let g = F o u w Q s in
      let acts_u = acts_on seen o v u (Lane lane) P t acts in
      let k = one_event o v u P out t t.says.0 in
      let m = one_event o u w Q home s s.says.1 in
      let in_f = in_sync_at false o v u lane request n P t acts at.1 in
      let in_u = subst (λ (c : Core). IsInSync false c lane request n) (sym k.1) (in_sync_out false f lane request n (Lane lane) e.number (ToMeta n page) in_f) in
      let in_g = in_sync_at false o u w lane request n Q s acts_u in_u in
      let back = m.0.may in
      let lands = page_lands g lane request n e.number back.number back.bytes left good s.coherent back.out in_g in
      let clean_f : v.alone ≡ true → f.unclean ≡ [] = λ a. ap (λ (c : Core). c.unclean) (found_alone seen o v u P t a) ∙ at.3 a in
      let clean_w : v.alone ≡ true → (core_seen C o w).unclean ≡ [] = λ a. ap (λ (c : Core). c.unclean) m.1 ∙ (lands.2 ∙ (ap (λ (c : Core). c.unclean) (found_alone seen o u w Q s (alone_on o v u P t a) ∙ k.1) ∙ clean_f a)) in
      let most : n + 1 ≤ count = omega arith in
      record {
        events = t.events ++ s.events;
        went = went_on v u w t.events s.events (went_turn C o v u P t) (went_turn C o u w Q s);
        says = page_says o v w lane request count (Store n) good (n + 1) (t.events ++ s.events)
            (wrote o v u w lane request count (Store n) (Store (n + 1)) P Q out home good e.number t s t.says.0 s.says.1 (page_silent lane e.number n page) (page_home_silent lane e.number good left) refl refl
            (page_at v.alone (core_seen C o w) lane request count n good (subst (λ (c : Core). HoldsNone c (Lane lane)) (sym m.1) lands.0) (subst (λ (c : Core). IsInSync (not good) c lane request (n + one_if good)) (sym m.1) lands.1) most clean_w)
            (λ a. subst (λ (c : Core). IsStep encode lane request c out) (found_alone seen o v u P t a) (page_out_next f lane request n e.number page t.coherent in_f k.0.may (clean_f a) t.says.2))
            (home_in_next false (core_seen C o u) lane request n home in_u refl refl refl) failed);
      }

  -- ---- one turn without an event

  quiet_on : (o : Snapshot (State D J)) (v u : View (Snapshot (State D J)) Event) (lane : ℕ) (request : Request) (count : ℕ) (stage next : Stage) (P : Core → List Event → Type 0) → (t : Turn C o v u P) → t.events ≡ [] → is_failed stage ≡ false → is_failed next ≡ false → AtStage v.alone (F o v u P t) lane request count next → (v.alone ≡ true → quiet_left next < quiet_left stage) → HasGoneOn seen o v u lane request count stage next t.events
  quiet_on o v u lane request count stage next P t is before fine at goes =
      record {
        of = subst (λ (es : List Event). AreOf (Lane lane) es) (sym is) tt;
        silent = ap calls_of is;
        unfailed = before;
        failures_are = ap failures is ∙ ap one_if (sym fine);
        failed = λ bad. absurd (cc);
        at = subst (λ (c : Core). AtStage v.alone c lane request count next) (sym (none_event o v u P t is)) at;
        coherent = coherent_then o v u P t;
        steps = λ a. subst (λ (es : List Event). Steps (IsStep encode lane request) (core_seen C o v) es) (sym is) tt;
        run = λ a. subst (λ (c : Core). CoreRun c t.events (core_seen C o u)) (found_alone seen o v u P t a) t.run;
        goes = λ a. inr (goes a);
      }

  waits_on : (o : Snapshot (State D J)) (v u : View (Snapshot (State D J)) Event) (lane : ℕ) (request : Request) (count : ℕ) (stage : Stage) (P : Core → List Event → Type 0) → (t : Turn C o v u P) → t.events ≡ [] → AtStage v.alone (F o v u P t) lane request count stage → (v.alone ≡ true → IsAlone (F o v u P t) lane request → ⊥) → HasWaited seen o v u lane request count stage t.events
  waits_on o v u lane request count stage P t is at never =
      record {
        are = is;
        at = subst (λ (c : Core). AtStage v.alone c lane request count stage) (sym (none_event o v u P t is)) at;
        coherent = coherent_then o v u P t;
        same = λ a. none_event o v u P t is ∙ found_alone seen o v u P t a;
        never = λ a alone. never a (subst (λ (c : Core). IsAlone c lane request) (sym (found_alone seen o v u P t a)) alone);
      }

  -- no block could go out
  refused_says : (o : Snapshot (State D J)) (v u : View (Snapshot (State D J)) Event) (lane : ℕ) (request : Request) (count : ℕ) (page : Page) (y : NotYet) (us : List ℕ) → (t : Turn C o v u (OutSays {D = D} (Lane lane) page (Err y))) → (F o v u (OutSays {D = D} (Lane lane) page (Err y)) t).unclean ≡ us →
      HoldsNone (F o v u (OutSays {D = D} (Lane lane) page (Err y)) t) (Lane lane) → IsInSync false (F o v u (OutSays {D = D} (Lane lane) page (Err y)) t) lane request 0 → StepSays seen o v u lane request count Flush (Ok (refused y)) t.events
  refused_says o v u lane request count page y [] t e none_f in_f =
      let P = OutSays {D = D} (Lane lane) page (Err y) in
      subst (λ (x : NotYet). StepSays seen o v u lane request count Flush (Ok (refused x)) t.events) (sym (t.says.2 ∙ ap (flush_refusal (F o v u P t)) e))
      (quiet_on o v u lane request count Flush (Store 0) P t t.says.0 refl refl (none_f, in_f, omega arith, λ a. e) (λ a. omega arith))
  refused_says o v u lane request count page y (b ∷ bs) t e none_f in_f =
      let P = OutSays {D = D} (Lane lane) page (Err y) in
      subst (λ (x : NotYet). StepSays seen o v u lane request count Flush (Ok (refused x)) t.events) (sym (t.says.2 ∙ ap (flush_refusal (F o v u P t)) e))
      (waits_on o v u lane request count Flush P t t.says.0 (none_f, in_f)
      (λ a alone. first_there (F o v u P t) lane (home_of false (F o v u P t) lane request 0 alone none_f in_f) t.says.1 (ap (λ (us : List ℕ). is_some (slice_get us 0)) e)))

  pub refused_step : (o : Snapshot (State D J)) (v u : View (Snapshot (State D J)) Event) (lane : ℕ) (request : Request) (count : ℕ) (page : Page) (y : NotYet) → ActsFor C o v (Lane lane) → AtStage v.alone (core_seen C o v) lane request count Flush → Turn C o v u (OutSays {D = D} (Lane lane) page (Err y)) → Does v u (StepSays seen o v u lane request count Flush (Ok (refused y)))
  refused_step o v u lane request count page y acts at t =
      let P = OutSays {D = D} (Lane lane) page (Err y) in
      let f = F o v u P t in
      record {
        events = t.events;
        went = went_turn C o v u P t;
        says = refused_says o v u lane request count page y f.unclean t refl (none_at false o v u lane request 0 P t acts at.1 at.0) (in_sync_at false o v u lane request 0 P t acts at.1);
      }

  -- no page could
  store_at : (o : Snapshot (State D J)) (v u : View (Snapshot (State D J)) Event) (lane : ℕ) (request : Request) (count n : ℕ) (P : Core → List Event → Type 0) → (t : Turn C o v u P) → ActsFor C o v (Lane lane) → AtStage v.alone (core_seen C o v) lane request count (Store n) → AtStage v.alone (F o v u P t) lane request count (Store n)
  store_at o v u lane request count n P t acts at = (
    none_at false o v u lane request n P t acts at.1 at.0,
    in_sync_at false o v u lane request n P t acts at.1,
    at.2,
    λ a. ap (λ (c : Core). c.unclean) (found_alone seen o v u P t a) ∙ at.3 a,
  )

  pub busy_step : (o : Snapshot (State D J)) (v u : View (Snapshot (State D J)) Event) (lane : ℕ) (request : Request) (count n : ℕ) (page : Page) (die : ℕ) → ActsFor C o v (Lane lane) → AtStage v.alone (core_seen C o v) lane request count (Store n) → Turn C o v u (MetaSays {D = D} (Lane lane) n page (MetaBusy die)) → Does v u (StepSays seen o v u lane request count (Store n) (Ok Waits))
  busy_step o v u lane request count n page die acts at t =
      let P = MetaSays {D = D} (Lane lane) n page (MetaBusy die) in
      let f = F o v u P t in
      let here = store_at o v u lane request count n P t acts at in
      record {
        events = t.events;
        went = went_turn C o v u P t;
        says = waits_on o v u lane request count (Store n) P t t.says.0 here
            (λ a alone. let away = t.says.1.away in let home : is_home (f.dies die) ≡ true = ap is_none (home_of false f lane request n alone here.0 here.1 die) in absurd (cc));
      }

  pub unclean_step : (o : Snapshot (State D J)) (v u : View (Snapshot (State D J)) Event) (lane : ℕ) (request : Request) (count n : ℕ) (page : Page) → ActsFor C o v (Lane lane) → AtStage v.alone (core_seen C o v) lane request count (Store n) → Turn C o v u (MetaSays {D = D} (Lane lane) n page Unclean) → Does v u (StepSays seen o v u lane request count (Store n) (Ok (On Flush)))
  unclean_step o v u lane request count n page acts at t =
      let P = MetaSays {D = D} (Lane lane) n page Unclean in
      let here = store_at o v u lane request count n P t acts at in
      let why = t.says.1 in
      record {
        events = t.events;
        went = went_turn C o v u P t;
        says = quiet_on o v u lane request count (Store n) Flush P t t.says.0 refl refl (here.0, subst (λ (k : ℕ). IsInSync false (F o v u P t) lane request k) why.first here.1) (λ a. absurd (why.some_are (here.3 a)));
      }

  -- ---- it begins

  begun_step : (o : Snapshot (State D J)) (v u : View (Snapshot (State D J)) Event) (lane : ℕ) (request : Request) (count : ℕ) (picked side : Side) (span : ℕ) → ActsFor C o v (Lane lane) → is_sync request.call ≡ true → AtStage v.alone (core_seen C o v) lane request count Idle → Turn C o v u (BeginSays lane request picked (Ok (Started side span))) →
      Does v u (StepSays seen o v u lane request count Idle (Ok (On Flush)))
  begun_step o v u lane request count picked side span acts sync free t =
      let P = BeginSays lane request picked (Ok (Started side span)) in
      let f = F o v u P t in
      let e = Begin lane request side in
      let k = one_event o v u P e t t.says.0 in
      let begun = begun_in_sync f lane request side sync (idle_at seen false o v u lane P t acts free) in
      record {
        events = t.events;
        went = went_turn C o v u P t;
        says = record {
          of = subst (λ (es : List Event). AreOf (Lane lane) es) (sym t.says.0) (refl, tt);
          silent = ap calls_of t.says.0;
          unfailed = refl;
          failures_are = ap failures t.says.0;
          failed = λ bad. absurd (cc);
          at = subst (λ (c : Core). AtStage v.alone c lane request count Flush) (sym k.1) begun;
          coherent = coherent_then o v u P t;
          steps = λ a. subst (λ (es : List Event). Steps (IsStep encode lane request) (core_seen C o v) es) (sym t.says.0) (subst (λ (c : Core). IsStep encode lane request c e) (found_alone seen o v u P t a) (begin_steps f lane request side k.0.may), tt);
          run = λ a. subst (λ (c : Core). CoreRun c t.events (core_seen C o u)) (found_alone seen o v u P t a) t.run;
          goes = λ a. inl (λ z. let y = sym t.says.0 ∙ z in absurd (cc));
        };
      }

  pub ended_not : (o : Snapshot (State D J)) (v u : View (Snapshot (State D J)) Event) (lane : ℕ) (request : Request) (picked : Side) (n : Numbered) (r : Result Begun NotYet) → r ≡ Ok (Ended n) → is_sync request.call ≡ true → Turn C o v u (BeginSays lane request picked r) → ⊥
  ended_not o v u lane request picked n r is sync t' =
      let t = subst (λ (x : Result Begun NotYet). Turn C o v u (BeginSays lane request picked x)) is t' in
      sync_not_refused (F o v u (BeginSays lane request picked (Ok (Ended n))) t) request n.reply sync t.says.1

  begun_says : (o : Snapshot (State D J)) (v u : View (Snapshot (State D J)) Event) (lane : ℕ) (request : Request) (count : ℕ) (picked : Side) (b : Begun) → ActsFor C o v (Lane lane) → is_sync request.call ≡ true → AtStage v.alone (core_seen C o v) lane request count Idle → Turn C o v u (BeginSays lane request picked (Ok b)) →
      Does v u (StepSays seen o v u lane request count Idle (Ok (On Flush)))
  begun_says o v u lane request count picked (Started side span) acts sync free t = begun_step o v u lane request count picked side span acts sync free t
  begun_says o v u lane request count picked (Ended n) acts sync free t = absurd (ended_not o v u lane request picked n (Ok (Ended n)) refl sync t)

  pub started_step : (o : Snapshot (State D J)) (v u : View (Snapshot (State D J)) Event) (lane : ℕ) (request : Request) (count : ℕ) (picked : Side) (b : Begun) (r : Result Begun NotYet) → r ≡ Ok b → ActsFor C o v (Lane lane) → is_sync request.call ≡ true → AtStage v.alone (core_seen C o v) lane request count Idle → Turn C o v u (BeginSays lane request picked r) →
      Does v u (StepSays seen o v u lane request count Idle (Ok (On Flush)))
  started_step o v u lane request count picked b r is acts sync free t = begun_says o v u lane request count picked b acts sync free (subst (λ (x : Result Begun NotYet). Turn C o v u (BeginSays lane request picked x)) is t)

  pub waits_step : (o : Snapshot (State D J)) (v u : View (Snapshot (State D J)) Event) (lane : ℕ) (request : Request) (count : ℕ) (picked : Side) (y : NotYet) (r : Result Begun NotYet) → r ≡ Err y → ActsFor C o v (Lane lane) → is_sync request.call ≡ true → AtStage v.alone (core_seen C o v) lane request count Idle → Turn C o v u (BeginSays lane request picked r) →
      Does v u (StepSays seen o v u lane request count Idle (Ok Waits))
  waits_step o v u lane request count picked y r is acts sync free t' =
      let P = BeginSays lane request picked (Err y) in
      let t : Turn C o v u P = subst (λ (x : Result Begun NotYet). Turn C o v u (BeginSays lane request picked x)) is t' in
      let f = F o v u P t in
      let here = idle_at seen false o v u lane P t acts free in
      record {
        events = t.events;
        went = went_turn C o v u P t;
        says = waits_on o v u lane request count Idle P t t.says.0 here
            (λ a alone. sync_not_waiting f request y t.coherent sync alone.awaited (still_all f lane alone.others here.idle.idle) t.says.1);
      }

  -- ---- it ends

  pub end_step : (o : Snapshot (State D J)) (v u : View (Snapshot (State D J)) Event) (lane : ℕ) (request : Request) (fault : Bool) (n : Numbered) → ActsFor C o v (Lane lane) → IsAtEnd v.alone (core_seen C o v) lane request fault → Turn C o v u (EndSays lane request fault n) → Does v u (EndedSays seen o v u lane request fault (Ok n))
  end_step o v u lane request fault n acts at t =
      let none = at.none in
      let number = at.number in
      let p = at.call in
      let P = EndSays lane request fault n in
      let f = F o v u P t in
      let e = End lane request n.reply in
      let k = one_event o v u P e t t.says.are in
      let in_f = in_sync_at fault o v u lane request number P t acts p in
      let none_f = none_at fault o v u lane request number P t acts p none in
      let went = went_turn C o v u P t in
      let number_is : u.number ≡ v.number = ap (λ (z : View (Snapshot (State D J)) Event). z.number) went.pass in
      record {
        events = t.events;
        went = went;
        says = record {
          ended = record {
            are = t.says.are;
            found = found_turn C o v u u P e (λ c. May c e) t t.says.are k.0.may ([], sym (append-nil u.seen)) number_is;
            after = subst (λ (c : Core). IsFree c lane) (sym k.1) (free_end fault f lane request number n.reply none_f in_f);
            coherent = coherent_then o v u P t;
            run = λ a. subst (λ (c : Core). CoreRun c t.events (core_seen C o u)) (found_alone seen o v u P t a) t.run;
          };
          reply_is = t.says.reply_is;
          next = λ a.
              let same = found_alone seen o v u P t a in
              end_in_next fault (core_seen C o v) lane request number n.reply (subst Coherent same t.coherent) p (λ ok. (at.clean a ok, at.all ok)) t.says.reply_is;
        };
      }

  pub end_says : (o : Snapshot (State D J)) (v w : View (Snapshot (State D J)) Event) (lane : ℕ) (request : Request) (fault : Bool) (r : Result Numbered Worn) → ActsFor C o v (Lane lane) → IsAtEnd v.alone (core_seen C o v) lane request fault → IfErr r (λ _. Went v w []) → IfOk r (λ n. Turn C o v w (EndSays lane request fault n)) → Does v w (EndedSays seen o v w lane request fault r)
  end_says o v w lane request fault (Ok n) acts at went did = end_step o v w lane request fault n acts at did
  end_says o v w lane request fault (Err x) acts at went did = record { events = []; went = went; says = refl }

  -- an end as a step
  pub replied : (o : Snapshot (State D J)) (v w : View (Snapshot (State D J)) Event) (lane : ℕ) (request : Request) (count : ℕ) (stage : Stage) (fault : Bool) (n : Numbered) → is_failed stage ≡ fault → Does v w (EndedSays seen o v w lane request fault (Ok n)) → Does v w (StepSays seen o v w lane request count stage (Ok (Replied n)))
  replied o v w lane request count stage fault n is p =
      record { events = p.events; went = p.went; says = subst (λ (t : Bool). HasReplied seen o v w lane request t n p.events) (sym is) p.says }

  pub replied_worn : (o : Snapshot (State D J)) (v w : View (Snapshot (State D J)) Event) (lane : ℕ) (request : Request) (count : ℕ) (stage : Stage) (fault : Bool) (x : Worn) (r : Result SyncStep Worn) → IsErr r → Does v w (EndedSays seen o v w lane request fault (Err x)) → Does v w (StepSays seen o v w lane request count stage r)
  replied_worn o v w lane request count stage fault x (Ok y) e p = absurd (cc)
  replied_worn o v w lane request count stage fault x (Err y) e p = record { events = p.events; went = p.went; says = subst (λ (es : List Event). AreSilent lane es × (length es ≤ 1)) (sym p.says) ((tt, refl), omega arith) }

  -- ---- where the turn is worn

  pub step_worn : (o : Snapshot (State D J)) (v w : View (Snapshot (State D J)) Event) (lane : ℕ) (request : Request) (count : ℕ) (stage : Stage) (r : Result SyncStep Worn) → IsErr r → Went v w [] → Does v w (StepSays seen o v w lane request count stage r)
  step_worn o v w lane request count stage (Ok x) e went = absurd (cc)
  step_worn o v w lane request count stage (Err y) e went = record { events = []; went = went; says = ((tt, refl), omega arith) }

  pub home_worn : (o : Snapshot (State D J)) (v u w : View (Snapshot (State D J)) Event) (lane : ℕ) (request : Request) (count : ℕ) (stage : Stage) (P : Core → List Event → Type 0) (out : Event) (r : Result SyncStep Worn) → IsErr r → (t : Turn C o v u P) → t.events ≡ out ∷ [] → actor_of out ≡ Lane lane → entry_of out ≡ None → Went u w [] → Does v w (StepSays seen o v w lane request count stage r)
  home_worn o v u w lane request count stage P out (Ok x) e t is actor silent went = absurd (cc)
  home_worn o v u w lane request count stage P out (Err y) e t is actor silent went =
      record {
        events = t.events ++ [];
        went = went_on v u w t.events [] (went_turn C o v u P t) went;
        says = subst (λ (es : List Event). AreSilent lane es × (length es ≤ 1)) (sym (append-nil t.events ∙ is)) (((actor, tt), ap (λ (x : Option CallEntry). and_then x []) silent), omega arith);
      }

  -- while a die is out the call is the lane's own
  pub out_own : (o : Snapshot (State D J)) (v u : View (Snapshot (State D J)) Event) (lane : ℕ) (request : Request) (n : ℕ) (P : Core → List Event → Type 0) (die b : ℕ) → (t : Turn C o v u P) → t.events ≡ FlushOut (Lane lane) die b ∷ [] → ActsFor C o v (Lane lane) → IsInSync false (core_seen C o v) lane request n → IsItsOwn (core_seen C o u) (Lane lane)
  out_own o v u lane request n P die b t is acts p =
      let f = F o v u P t in
      let k = one_event o v u P (FlushOut (Lane lane) die b) t is in
      own_in_sync false (core_seen C o u) lane request n (subst (λ (c : Core). IsInSync false c lane request n) (sym k.1) (in_sync_out false f lane request n (Lane lane) die (flush_of f b) (in_sync_at false o v u lane request n P t acts p)))

  pub page_own : (o : Snapshot (State D J)) (v u : View (Snapshot (State D J)) Event) (lane : ℕ) (request : Request) (n : ℕ) (P : Core → List Event → Type 0) (die : ℕ) (page : Page) → (t : Turn C o v u P) → t.events ≡ DieOut (Lane lane) die (Meta n page) ∷ [] → ActsFor C o v (Lane lane) → IsInSync false (core_seen C o v) lane request n → IsItsOwn (core_seen C o u) (Lane lane)
  page_own o v u lane request n P die page t is acts p =
      let f = F o v u P t in
      let k = one_event o v u P (DieOut (Lane lane) die (Meta n page)) t is in
      own_in_sync false (core_seen C o u) lane request n (subst (λ (c : Core). IsInSync false c lane request n) (sym k.1) (in_sync_out false f lane request n (Lane lane) die (ToMeta n page) (in_sync_at false o v u lane request n P t acts p)))

  -- ---- at a stage

  pub stage_told : (o : Snapshot (State D J)) (v w : View (Snapshot (State D J)) Event) (lane : ℕ) (request : Request) (count k : ℕ) (stage at : Stage) (r : Result SyncStep Worn) → count ≡ k → stage ≡ at → Does v w (StepSays seen o v w lane request k at r) → Does v w (StepSays seen o v w lane request count stage r)
  stage_told o v w lane request count k stage at r same is p = subst (λ (z : ℕ × Stage). Does v w (StepSays seen o v w lane request z.0 z.1 r)) (λ i. (sym same i, sym is i)) p

  -- all pages of the meta data are written
  pub all_stored : (o : Snapshot (State D J)) (v : View (Snapshot (State D J)) Event) (number count : ℕ) → number ≤ count → count ≤ number → count ≡ meta_pages o.value.sizes.blocks → number ≡ meta_pages (core_seen C o v).shape.blocks
  all_stored o v number count most least is =
      let blocks : (core_seen C o v).shape.blocks ≡ o.value.sizes.blocks = ap (λ (z : Shape). z.blocks) (shapes_kept (events_of v.seen) (C o.value)) in
      let same : number ≡ count = omega arith in
      same ∙ (is ∙ ap meta_pages (sym blocks))
