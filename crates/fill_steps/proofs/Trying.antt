-- One page of a call: one turn, or two with the die's work between.
use Rattle.std.proofs.Common.{◌≡◌, ℕ, ◌<◌, ◌≤◌, Bool, true, false, List, [], ◌∷◌, ◌++◌, length, Option, Some, None, refl, sym, ap, ◌∙◌, subst, append-nil, arith}
use Rattle.std.specs.Prelude.{Result, Ok, Err, not}
use Rattle.std.specs.Result.{IsErr}
use Rattle.std.specs.declared.snapshot.Snapshot.{Snapshot}
use Rattle.turn_cell.specs.declared.book.Entry.{Entry}
use Rattle.turn_cell.specs.declared.view.View.{View}
use Rattle.turn_cell.specs.declared.pass.Worn.{Worn}
use Rattle.flash_die.specs.Dies.{DieView}
use Rattle.core_state.specs.declared.actor.Actor.{Actor}
use Rattle.core_state.specs.declared.event.Event.{Event}
use Rattle.core_state.specs.declared.event.Event.TheVariants.{Copy, Take, DieOut, FillIn}
use Rattle.core_state.specs.declared.event.Purpose.TheVariants.{Fill}
use Rattle.core_state.specs.State.{Page, Claim, Mode, Shared, Exclusive, Flight, Core}
use Rattle.core_state.specs.Dies.{owner}
use Rattle.core_state.specs.Coherent.{Coherent}
use Rattle.core_state.specs.Happens.{HoldsNone, CoreRun, actor_of, after}
use Rattle.core_state.specs.History.{entry_of, and_then, calls_of}
use Rattle.core_solo.specs.Solo.{Steps, IsStep, gather_event}
use Rattle.system_state.specs.Cores.{core_of}
use Rattle.system_state.specs.declared.errand.Errand.{Errand}
use Rattle.system_state.specs.declared.not_yet.NotYet.{NotYet}
use Rattle.system_state.specs.declared.state.State.{State}
use Rattle.system_pages.specs.Ways.{way}
use Rattle.system_pages.specs.declared.ways.Way.TheVariants.{ByPage, ByDie, Busy}
use Rattle.system_pages.specs.Events.{copy_event, take_event}
use Rattle.desk_turns.specs.Making.{AreOf}
use Rattle.desk_turns.specs.Passing.{ActsFor, core_after, core_seen, Turn, Went, Does}
use Rattle.desk_turns.proofs.Later.{none_kept}
use Rattle.desk_turns.proofs.Went.{went_on, went_turn, found_turn}
use Rattle.event_turns.specs.Flushing.{HasFailed}
use Rattle.event_turns.specs.PageTurns.{MayGather, GatherSays, block_at}
use Rattle.event_turns.proofs.FlushSteps.{shape_at, leaves, acts_on, failed_on}
use Rattle.event_turns.proofs.Keeping.{at_flight, own_flying}
use Rattle.fill_steps.specs.Gathering.{call_at, IsOwned, IsBetween, IsSameBut, IsInTurn, IsNextGather, is_away}
use Rattle.fill_steps.specs.Pages.{IsAtPage, IsRead, AreNext, Tried, IsPutIn, PageSays, put_in, lent}
use Rattle.fill_steps.specs.declared.page.FillStep.{FillStep}
use Rattle.fill_steps.specs.declared.page.FillStep.TheVariants.{Next, Waits}
use Rattle.fill_steps.proofs.Calls.{but_on, owned_kept, but_kept, copy_leaves, take_leaves, out_leaves, failed_leaves, shared_leaves, lent_leaves, away_of, put_in_there, copy_event_is, take_event_is, out_event_is, next_gather, next_home, lowest_kept, gathers_next}

pub run_on : (es fs : List Event) (c d e : Core) → CoreRun c es d → CoreRun d fs e → CoreRun c (es ++ fs) e
run_on [] fs c d e r s = subst (λ (x : Core). CoreRun x fs e) r s
run_on (x ∷ xs) fs c d e r s = (r.0, run_on xs fs (after c x) d e r.1 s)

-- what is known before a page is gathered
record Before (c : Core) (a : Actor) (lane i : ℕ) (mode : Mode) : Type 0 where
  pub between : IsBetween false c a lane
  pub within : i < (call_at c lane).claim.reach.pages
  pub missing : (call_at c lane).gathered i ≡ None
  pub mode_is : (call_at c lane).claim.reach.mode ≡ mode

before : (c : Core) (a : Actor) (lane i : ℕ) (mode : Mode) → MayGather c a lane i mode → Before c a lane i mode
before c a lane i mode p =
    let at = sym (at_flight c.calls lane p.call p.wants.flies) in
    record {
      between = record {
        owned = record {
          flies = p.wants.flies ∙ ap (λ (f : Flight). Some f) at;
          owns = subst (λ (f : Flight). owner lane f.phase ≡ Some a) at p.wants.owns;
          mark = p.wants.unmarked;
        };
        none = p.none;
      };
      within = subst (λ (f : Flight). i < f.claim.reach.pages) at p.wants.within;
      missing = subst (λ (f : Flight). f.gathered i ≡ None) at p.wants.missing;
      mode_is = subst (λ (f : Flight). f.claim.reach.mode ≡ mode) at p.mode_is;
    }

-- what the events of a fill leave, by the mode of the call and whether the read succeeded
abbrev with_page : Mode → Bool → Page → Option Page
with_page Shared good page = None
with_page Exclusive true page = Some page
with_page Exclusive false page = None

home_leaves : (mode : Mode) (good : Bool) (c : Core) (a : Actor) (n lane i : ℕ) (page : Page) (es : List Event) → Coherent c → IsRead a lane i n page good c es → IsOwned false c a lane → (call_at c lane).claim.reach.mode ≡ mode → (call_at c lane).gathered i ≡ None →
    IsBetween (not good) (after c (FillIn a n good)) a lane × IsSameBut c (after c (FillIn a n good)) lane i (with_page mode good page)
home_leaves Shared true c a n lane i page es h r p mode missing = shared_leaves c a n lane i None h r.out p mode missing
home_leaves Shared false c a n lane i page es h r p mode missing = failed_leaves c a n lane i None h r.out p missing
home_leaves Exclusive false c a n lane i page es h r p mode missing = failed_leaves c a n lane i None h r.out p missing
home_leaves Exclusive true c a n lane i page es h r p mode missing =
    subst (λ (z : Page). IsBetween false (after c (FillIn a n true)) a lane × IsSameBut c (after c (FillIn a n true)) lane i (Some z)) (sym (r.lent refl mode)) (lent_leaves c a n lane i h r.out p mode)

module _ {D J : Type 0} (seen : D → DieView) where
  abbrev C : State D J → Core
  C = core_of seen

  -- where the pass is alone nothing was made between
  pub still_alone : (o : Snapshot (State D J)) (v u : View (Snapshot (State D J)) Event) (P : Core → List Event → Type 0) → (t : Turn C o v u P) → v.alone ≡ true → core_after C o (v.seen ++ t.between) ≡ core_seen C o v
  still_alone o v u P t a = ap (λ (h : List (Entry Event)). core_after C o h) (ap (λ (x : List (Entry Event)). v.seen ++ x) (t.alone a) ∙ append-nil v.seen)

  alone_on : (o : Snapshot (State D J)) (v u : View (Snapshot (State D J)) Event) (P : Core → List Event → Type 0) → Turn C o v u P → v.alone ≡ true → u.alone ≡ true
  alone_on o v u P t a = ap (λ (z : View (Snapshot (State D J)) Event). z.alone) t.pass ∙ a

  found_owned : (o : Snapshot (State D J)) (v u : View (Snapshot (State D J)) Event) (P : Core → List Event → Type 0) (a : Actor) (lane i : ℕ) (x : Option Page) → (t : Turn C o v u P) → ActsFor C o v a → IsOwned false (core_seen C o v) a lane → i < (call_at (core_seen C o v) lane).claim.reach.pages → (call_at (core_seen C o v) lane).gathered i ≡ x →
      IsOwned false (core_after C o (v.seen ++ t.between)) a lane × IsSameBut (core_seen C o v) (core_after C o (v.seen ++ t.between)) lane i x
  found_owned o v u P a lane i x t acts p within page =
      let c = core_seen C o v in
      let c2 = core_after C o (v.seen ++ t.between) in
      let same = t.kept a acts (own_flying c a lane (call_at c lane) p.flies p.owns) in
      (owned_kept false c c2 a lane same p, but_kept false c c2 a lane i x same p within page)

  found_none : (o : Snapshot (State D J)) (v u : View (Snapshot (State D J)) Event) (P : Core → List Event → Type 0) (a : Actor) (lane : ℕ) → (t : Turn C o v u P) → ActsFor C o v a → IsBetween false (core_seen C o v) a lane → HoldsNone (core_after C o (v.seen ++ t.between)) a
  found_none o v u P a lane t acts p =
      let c = core_seen C o v in
      none_kept c (core_after C o (v.seen ++ t.between)) a t.coherent (t.kept a acts (own_flying c a lane (call_at c lane) p.owned.flies p.owned.owns)) (shape_at seen o (v.seen ++ t.between) v.seen) p.none

  run_alone : (o : Snapshot (State D J)) (v u : View (Snapshot (State D J)) Event) (P : Core → List Event → Type 0) → (t : Turn C o v u P) → v.alone ≡ true → CoreRun (core_seen C o v) t.events (core_seen C o u)
  run_alone o v u P t a = subst (λ (c : Core). CoreRun c t.events (core_seen C o u)) (still_alone o v u P t a) t.run

  number_on : (o : Snapshot (State D J)) (v u : View (Snapshot (State D J)) Event) (P : Core → List Event → Type 0) → Turn C o v u P → u.number ≡ v.number
  number_on o v u P t = ap (λ (z : View (Snapshot (State D J)) Event). z.number) t.pass

  -- ---- one turn

  one_tried : (o : Snapshot (State D J)) (v u : View (Snapshot (State D J)) Event) (P : Core → List Event → Type 0) (a : Actor) (lane i : ℕ) (mode : Mode) (e : Event) (x : Option Page) → ActsFor C o v a → IsAtPage (core_seen C o v) a lane i mode → (t : Turn C o v u P) → t.events ≡ e ∷ [] → actor_of e ≡ a → entry_of e ≡ None →
      (IsBetween false (core_after C o (v.seen ++ t.between)) a lane → IsBetween false (after (core_after C o (v.seen ++ t.between)) e) a lane × IsSameBut (core_after C o (v.seen ++ t.between)) (after (core_after C o (v.seen ++ t.between)) e) lane i x) →
      (IsSameBut (core_seen C o v) (core_after C o (v.seen ++ t.between)) lane i None → gather_event (core_after C o (v.seen ++ t.between)) a lane (call_at (core_after C o (v.seen ++ t.between)) lane) i (block_at (core_after C o (v.seen ++ t.between)) lane i) ≡ e) →
      (v.alone ≡ true → IsInTurn (call_at (core_seen C o v) lane) → (encode : Core → ℕ → Page) → IsStep encode lane (call_at (core_seen C o v) lane).claim.request (core_seen C o v) e) →
      Tried seen o v u a lane i false x t.events
  one_tried o v u P a lane i mode e x acts p t is mine ends leave event step =
      let c = core_seen C o v in
      let c2 = core_after C o (v.seen ++ t.between) in
      let b = before c a lane i mode p.may in
      let k = found_owned o v u P a lane i None t acts b.between.owned b.within b.missing in
      let l = leave (record { owned = k.0; none = found_none o v u P a lane t acts b.between }) in
      let to = sym (leaves seen o v u P e t is) in
      record {
        of = subst (AreOf a) (sym is) (mine, tt);
        open_still = ap calls_of is ∙ ap (λ o. and_then o []) ends;
        next = subst (AreNext seen o v u a lane) (sym is) ((λ no. found_turn C o v u u P e (IsNextGather a lane e) t is (gathers_next c2 a lane i e k.0 (lowest_kept c c2 lane i k.1 b.missing p.lowest) (event k.1)) ([], sym (append-nil u.seen)) (number_on o v u P t)), tt);
        between = subst (λ (d : Core). IsBetween false d a lane) to l.0;
        same = subst (λ (d : Core). IsSameBut c d lane i x) to (but_on c c2 (after c2 e) lane i None x k.1 l.1);
        run = run_alone o v u P t;
        solo = λ al turn encode. subst (λ (es : List Event). Steps (IsStep encode lane (call_at c lane).claim.request) c es) (sym is) (step al turn encode, tt);
      }

  pub copied_page : (o : Snapshot (State D J)) (v u : View (Snapshot (State D J)) Event) (a : Actor) (lane i : ℕ) (old page : Page) → ActsFor C o v a → IsAtPage (core_seen C o v) a lane i Shared → Turn C o v u (GatherSays {D = D} (copy_event a lane i) lane i old page (Ok None)) → Does v u (PageSays seen o v u a lane i page (Ok Next))
  copied_page o v u a lane i old page acts p t =
      let P = GatherSays {D = D} (copy_event a lane i) lane i old page (Ok None) in
      let c = core_seen C o v in
      let c2 = core_after C o (v.seen ++ t.between) in
      let b = before c a lane i Shared p.may in
      let got = t.says.1 in
      record {
        events = t.events;
        went = went_turn C o v u P t;
        says = one_tried o v u P a lane i Shared (Copy a lane i) (Some page) acts p t t.says.0 refl refl
            (λ k. let l = copy_leaves c2 a lane i k in (l.0, subst (λ (z : Page). IsSameBut c2 (after c2 (Copy a lane i)) lane i (Some z)) (sym (got.page_is refl)) l.1))
            (λ q. copy_event_is c2 a lane i (call_at c2 lane) (block_at c2 lane i) (ap (λ (z : Claim). z.reach.mode) q.call.claim ∙ b.mode_is) got.way_is)
            (λ al turn encode.
            let here = subst (λ (z : Core). way z lane i ≡ ByPage) (still_alone o v u P t al) got.way_is in
            next_gather encode c a lane i (Copy a lane i) b.between.owned turn p.lowest (copy_event_is c a lane i (call_at c lane) (block_at c lane i) b.mode_is here) refl);
      }

  pub taken_page : (o : Snapshot (State D J)) (v u : View (Snapshot (State D J)) Event) (a : Actor) (lane i : ℕ) (old page : Page) → ActsFor C o v a → IsAtPage (core_seen C o v) a lane i Exclusive → Turn C o v u (GatherSays {D = D} (take_event a lane i) lane i old page (Ok None)) → Does v u (PageSays seen o v u a lane i page (Ok Next))
  taken_page o v u a lane i old page acts p t =
      let P = GatherSays {D = D} (take_event a lane i) lane i old page (Ok None) in
      let c = core_seen C o v in
      let c2 = core_after C o (v.seen ++ t.between) in
      let b = before c a lane i Exclusive p.may in
      let got = t.says.1 in
      record {
        events = t.events;
        went = went_turn C o v u P t;
        says = one_tried o v u P a lane i Exclusive (Take a lane i) (Some page) acts p t t.says.0 refl refl
            (λ k. let l = take_leaves c2 a lane i k in (l.0, subst (λ (z : Page). IsSameBut c2 (after c2 (Take a lane i)) lane i (Some z)) (sym (got.page_is refl)) l.1))
            (λ q. take_event_is c2 a lane i (call_at c2 lane) (block_at c2 lane i) (ap (λ (z : Claim). z.reach.mode) q.call.claim ∙ b.mode_is) got.way_is)
            (λ al turn encode.
            let here = subst (λ (z : Core). way z lane i ≡ ByPage) (still_alone o v u P t al) got.way_is in
            next_gather encode c a lane i (Take a lane i) b.between.owned turn p.lowest (take_event_is c a lane i (call_at c lane) (block_at c lane i) b.mode_is here) refl);
      }

  -- ---- no event

  pub waits_page : (o : Snapshot (State D J)) (v u : View (Snapshot (State D J)) Event) (event : Option (Errand D) → Event) (a : Actor) (lane i : ℕ) (mode : Mode) (old page : Page) (y : NotYet) → ActsFor C o v a → IsAtPage (core_seen C o v) a lane i mode → Turn C o v u (GatherSays {D = D} event lane i old page (Err y)) → Does v u (PageSays seen o v u a lane i page (Ok Waits))
  waits_page o v u event a lane i mode old page y acts p t =
      let P = GatherSays {D = D} event lane i old page (Err y) in
      let c = core_seen C o v in
      let c2 = core_after C o (v.seen ++ t.between) in
      let b = before c a lane i mode p.may in
      let k = found_owned o v u P a lane i None t acts b.between.owned b.within b.missing in
      let is = t.says.0 in
      let still : c2 ≡ core_seen C o u = sym (subst (λ (es : List Event). CoreRun c2 es (core_seen C o u)) is t.run) in
      record {
        events = t.events;
        went = went_turn C o v u P t;
        says = (
          record {
            of = subst (AreOf a) (sym is) tt;
            open_still = ap calls_of is;
            next = subst (AreNext seen o v u a lane) (sym is) tt;
            between = subst (λ (d : Core). IsBetween false d a lane) still (record { owned = k.0; none = found_none o v u P a lane t acts b.between });
            same = subst (λ (d : Core). IsSameBut c d lane i None) still k.1;
            run = run_alone o v u P t;
            solo = λ al turn encode. subst (λ (es : List Event). Steps (IsStep encode lane (call_at c lane).claim.request) c es) (sym is) tt;
          },
          is,
          (t.says.2.0, subst (λ (d : Core). way d lane i ≡ Busy t.says.2.0) still t.says.2.1),
        );
      }

  -- ---- two turns

  -- the actor still owns the call while its die is out
  sent_owned : (o : Snapshot (State D J)) (v u : View (Snapshot (State D J)) Event) (P : Core → List Event → Type 0) (a : Actor) (lane i n : ℕ) (mode : Mode) → ActsFor C o v a → IsAtPage (core_seen C o v) a lane i mode → (t : Turn C o v u P) → t.events ≡ DieOut a n (Fill lane i) ∷ [] → IsOwned false (core_seen C o u) a lane × IsSameBut (core_seen C o v) (core_seen C o u) lane i None
  sent_owned o v u P a lane i n mode acts p t is =
      let c = core_seen C o v in
      let c2 = core_after C o (v.seen ++ t.between) in
      let out = DieOut a n (Fill lane i) in
      let b = before c a lane i mode p.may in
      let k = found_owned o v u P a lane i None t acts b.between.owned b.within b.missing in
      let l = out_leaves c2 a n lane i None k.0 k.1.page in
      let to = sym (leaves seen o v u P out t is) in
      (subst (λ (d : Core). IsOwned false d a lane) to l.0, subst (λ (d : Core). IsSameBut c d lane i None) to (but_on c c2 (after c2 out) lane i None None k.1 l.1))

  fill_tried : (o : Snapshot (State D J)) (v u w : View (Snapshot (State D J)) Event) (P : Core → List Event → Type 0) (a : Actor) (lane i n : ℕ) (mode : Mode) (page : Page) (good : Bool) → ActsFor C o v a → IsAtPage (core_seen C o v) a lane i mode → (t : Turn C o v u P) → t.events ≡ DieOut a n (Fill lane i) ∷ [] →
      way (core_after C o (v.seen ++ t.between)) lane i ≡ ByDie n → (s : Turn C o u w (IsRead a lane i n page good)) → Tried seen o v w a lane i (not good) (with_page mode good page) (t.events ++ s.events)
  fill_tried o v u w P a lane i n mode page good acts p t is way_is s =
      let Q = IsRead a lane i n page good in
      let c = core_seen C o v in
      let x = core_seen C o u in
      let c2 = core_after C o (v.seen ++ t.between) in
      let c3 = core_after C o (u.seen ++ s.between) in
      let out = DieOut a n (Fill lane i) in
      let home = FillIn a n good in
      let b = before c a lane i mode p.may in
      let first = found_owned o v u P a lane i None t acts b.between.owned b.within b.missing in
      let k = sent_owned o v u P a lane i n mode acts p t is in
      let acts_u = acts_on seen o v u a P t acts in
      let within = subst (λ (z : Claim). i < z.reach.pages) (sym k.1.call.claim) b.within in
      let m = found_owned o u w Q a lane i None s acts_u k.0 within k.1.page in
      let so_far = but_on c x c3 lane i None None k.1 m.1 in
      let r = s.says in
      let l = home_leaves mode good c3 a n lane i page s.events s.coherent r m.0 (ap (λ (z : Claim). z.reach.mode) so_far.call.claim ∙ b.mode_is) so_far.page in
      let to = sym (leaves seen o u w Q home s r.are) in
      let es : t.events ++ s.events ≡ out ∷ home ∷ [] = λ j. is j ++ r.are j in
      record {
        of = subst (AreOf a) (sym es) (refl, (refl, tt));
        open_still = ap calls_of es;
        next = subst (AreNext seen o v w a lane) (sym es) ((λ no. found_turn C o v u w P out (IsNextGather a lane out) t is (gathers_next c2 a lane i out first.0 (lowest_kept c c2 lane i first.1 b.missing p.lowest) (out_event_is c2 a lane i n (call_at c2 lane) (block_at c2 lane i) way_is)) (went_turn C o u w Q s).seen (number_on o u w Q s ∙ number_on o v u P t)), ((λ no. absurd (cc)), tt));
        between = subst (λ (d : Core). IsBetween (not good) d a lane) to l.0;
        same = subst (λ (d : Core). IsSameBut c d lane i (with_page mode good page)) to (but_on c c3 (after c3 home) lane i None (with_page mode good page) so_far l.1);
        run = λ al. run_on t.events s.events c x (core_seen C o w) (run_alone o v u P t al) (run_alone o u w Q s (alone_on o v u P t al));
        solo = λ al turn encode.
            let here = subst (λ (z : Core). way z lane i ≡ ByDie n) (still_alone o v u P t al) way_is in
            let one = next_gather encode c a lane i out b.between.owned turn p.lowest (out_event_is c a lane i n (call_at c lane) (block_at c lane i) here) refl in
            let d = after c out in
            let then = next_home encode d a lane n good (out_leaves c a n lane i None b.between.owned b.missing).0 in
            subst (λ (fs : List Event). Steps (IsStep encode lane (call_at c lane).claim.request) c fs) (sym es) (one, (then, tt));
      }

  put_in_page : (o : Snapshot (State D J)) (v u w : View (Snapshot (State D J)) Event) (P : Core → List Event → Type 0) (a : Actor) (lane i n : ℕ) (page : Page) → ActsFor C o v a → IsAtPage (core_seen C o v) a lane i Shared → (t : Turn C o v u P) → t.events ≡ DieOut a n (Fill lane i) ∷ [] →
      way (core_after C o (v.seen ++ t.between)) lane i ≡ ByDie n → Turn C o u w (IsRead a lane i n page true) → IsPutIn seen o v w lane i
  put_in_page o v u w P a lane i n page acts p t is way_is s =
      let Q = IsRead a lane i n page true in
      let c = core_seen C o v in
      let c3 = core_after C o (u.seen ++ s.between) in
      let b = before c a lane i Shared p.may in
      let k = sent_owned o v u P a lane i n Shared acts p t is in
      let within = subst (λ (z : Claim). i < z.reach.pages) (sym k.1.call.claim) b.within in
      let m = found_owned o u w Q a lane i None s (acts_on seen o v u a P t acts) k.0 within k.1.page in
      let mode = ap (λ (z : Claim). z.reach.mode) (m.1.call.claim ∙ k.1.call.claim) ∙ b.mode_is in
      record {
        was = λ al. away_of c (block_at c lane i) n (subst (λ (z : Core). way z lane i ≡ ByDie n) (still_alone o v u P t al) way_is);
        now = λ al. ap (λ (d : Core). is_away d lane i) (leaves seen o u w Q (FillIn a n true) s s.says.are) ∙ put_in_there c3 a n lane i s.says.out m.0 mode;
      }

  -- a page that is shared was read
  pub shared_page : (o q : Snapshot (State D J)) (v u w : View (Snapshot (State D J)) Event) (a : Actor) (lane i : ℕ) (old mid page : Page) (e : Errand D) (good : Bool) → q ≡ o → ActsFor C o v a → IsAtPage (core_seen C o v) a lane i Shared → Turn C o v u (GatherSays (copy_event a lane i) lane i old mid (Ok (Some e))) →
      Turn C q u w (IsRead a lane i e.number page good) → (good ≡ false → HasFailed seen q u w e.number) → Does v w (PageSays seen o v w a lane i page (Ok (put_in good)))
  shared_page o q v u w a lane i old mid page e good same acts p t s' failed' =
      let P = GatherSays (copy_event a lane i) lane i old mid (Ok (Some e)) in
      let s : Turn C o u w (IsRead a lane i e.number page good) = subst (λ (z : Snapshot (State D J)). Turn C z u w (IsRead a lane i e.number page good)) same s' in
      let failed : good ≡ false → HasFailed seen o u w e.number = subst (λ (z : Snapshot (State D J)). good ≡ false → HasFailed seen z u w e.number) same failed' in
      let went = went_turn C o v u P t in
      record {
        events = t.events ++ s.events;
        went = went_on v u w t.events s.events went (went_turn C o u w (IsRead a lane i e.number page good) s);
        says = by good s failed (fill_tried o v u w P a lane i e.number Shared page good acts p t t.says.0 t.says.1.way_is s);
      }
    where
      by : (g : Bool) → (s : Turn C o u w (IsRead a lane i e.number page g)) → (g ≡ false → HasFailed seen o u w e.number) → Tried seen o v w a lane i (not g) (with_page Shared g page) (t.events ++ s.events) → PageSays seen o v w a lane i page (Ok (put_in g)) (t.events ++ s.events)
      by true s f k = (k, put_in_page o v u w (GatherSays (copy_event a lane i) lane i old mid (Ok (Some e))) a lane i e.number page acts p t t.says.0 t.says.1.way_is s)
      by false s f k = (k, (e.number, failed_on seen o v u w e.number (went_turn C o v u (GatherSays (copy_event a lane i) lane i old mid (Ok (Some e))) t).seen (f refl)))

  -- one that a call has alone was read
  pub lent_page : (o q : Snapshot (State D J)) (v u w : View (Snapshot (State D J)) Event) (a : Actor) (lane i : ℕ) (old mid page : Page) (e : Errand D) (good : Bool) → q ≡ o → ActsFor C o v a → IsAtPage (core_seen C o v) a lane i Exclusive → Turn C o v u (GatherSays (take_event a lane i) lane i old mid (Ok (Some e))) →
      Turn C q u w (IsRead a lane i e.number page good) → (good ≡ false → HasFailed seen q u w e.number) → Does v w (PageSays seen o v w a lane i page (Ok (lent good)))
  lent_page o q v u w a lane i old mid page e good same acts p t s' failed' =
      let P = GatherSays (take_event a lane i) lane i old mid (Ok (Some e)) in
      let s : Turn C o u w (IsRead a lane i e.number page good) = subst (λ (z : Snapshot (State D J)). Turn C z u w (IsRead a lane i e.number page good)) same s' in
      let failed : good ≡ false → HasFailed seen o u w e.number = subst (λ (z : Snapshot (State D J)). good ≡ false → HasFailed seen z u w e.number) same failed' in
      let went = went_turn C o v u P t in
      record {
        events = t.events ++ s.events;
        went = went_on v u w t.events s.events went (went_turn C o u w (IsRead a lane i e.number page good) s);
        says = by good (t.events ++ s.events) failed (fill_tried o v u w P a lane i e.number Exclusive page good acts p t t.says.0 t.says.1.way_is s);
      }
    where
      by : (g : Bool) (es : List Event) → (g ≡ false → HasFailed seen o u w e.number) → Tried seen o v w a lane i (not g) (with_page Exclusive g page) es → PageSays seen o v w a lane i page (Ok (lent g)) es
      by true es f k = k
      by false es f k = (k, (e.number, failed_on seen o v u w e.number (went_turn C o v u (GatherSays (take_event a lane i) lane i old mid (Ok (Some e))) t).seen (f refl)))

  -- ---- where the turn is worn

  pub page_worn : (o : Snapshot (State D J)) (v w : View (Snapshot (State D J)) Event) (a : Actor) (lane i : ℕ) (page : Page) (r : Result FillStep Worn) → IsErr r → Went v w [] → Does v w (PageSays seen o v w a lane i page r)
  page_worn o v w a lane i page (Ok x) e went = absurd (cc)
  page_worn o v w a lane i page (Err y) e went = record { events = []; went = went; says = (tt, refl, omega arith) }

  pub home_worn : (o : Snapshot (State D J)) (v u w : View (Snapshot (State D J)) Event) (P : Core → List Event → Type 0) (a : Actor) (lane i n : ℕ) (page : Page) (r : Result FillStep Worn) → IsErr r → (t : Turn C o v u P) → t.events ≡ DieOut a n (Fill lane i) ∷ [] → Went u w [] → Does v w (PageSays seen o v w a lane i page r)
  home_worn o v u w P a lane i n page (Ok x) e t is went = absurd (cc)
  home_worn o v u w P a lane i n page (Err y) e t is went =
      let es : t.events ++ [] ≡ DieOut a n (Fill lane i) ∷ [] = append-nil t.events ∙ is in
      record { events = t.events ++ []; went = went_on v u w t.events [] (went_turn C o v u P t) went; says = (subst (AreOf a) (sym es) (refl, tt), ap calls_of es, subst (λ (fs : List Event). length fs ≤ 1) (sym es) (omega arith)) }
