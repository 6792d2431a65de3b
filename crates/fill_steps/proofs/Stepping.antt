-- One step at a page of a call, with its job.
use Rattle.std.proofs.Common.{◌≡◌, ℕ, zero, suc, ◌+◌, ◌*◌, ◌^◌, ◌<◌, ◌≤◌, Bool, true, false, List, [], length, Option, Some, None, refl, sym, ap, ◌∙◌, subst, ⊎_elim, arith}
use Rattle.std.specs.Prelude.{◌≢◌, ◌==◌, ◌&&◌, ◌/◌, ◌-◌, nat_lt, min, is_some, is_none, if◌then◌else◌, IfOk, Result, Ok, Err}
use Rattle.std.proofs.lemmas.Bool.Decides.{nat_tests}
use Rattle.std.specs.declared.snapshot.Snapshot.{Snapshot}
use Rattle.page_base.specs.Bytes.{Pages}
use Rattle.index_lists.proofs.Counts.{same_or_not}
use Rattle.plain_files.specs.declared.calls.Call.{Call}
use Rattle.plain_files.specs.declared.calls.Call.TheVariants.{Read, Write, Append, Trunc, Readl, Writel}
use Rattle.turn_cell.specs.declared.view.View.{View}
use Rattle.turn_cell.specs.declared.pass.Worn.{Worn}
use Rattle.flash_die.specs.Dies.{DieView}
use Rattle.core_state.specs.declared.actor.Actor.{Actor}
use Rattle.core_state.specs.declared.event.Event.{Event}
use Rattle.core_state.specs.Words.{or_else, first_to}
use Rattle.core_state.specs.State.{Page, Claim, Mode, Shared, Exclusive, Reach, Core}
use Rattle.core_state.specs.Reach.{is_exclusive, gathers, range_end, no_reach, read_reach, write_reach, reach_of}
use Rattle.system_state.specs.Cores as cores
use Rattle.system_state.specs.Cores.{core_of}
use Rattle.system_state.specs.declared.state.State.{State}
use Rattle.call_job.specs.Lending.{with_page}
use Rattle.call_job.specs.Suits.{IsReady, Suits}
use Rattle.call_job.specs.declared.job.Job.{Job}
use Rattle.call_job.proofs.Executed.{pool_has}
use Rattle.desk_turns.specs.Passing.{core_seen, Does}
use Rattle.desk_turns.proofs.Went.{went_none}
use Rattle.fill_steps.specs.Gathering.{call_at, told_at, IsBetween, IsGathering, IsSameBut}
use Rattle.fill_steps.specs.Pages.{IsAtPage, Tried, PageSays}
use Rattle.fill_steps.specs.Spans.{Gathers, StepSays}
use Rattle.fill_steps.specs.declared.page.FillStep.{FillStep}
use Rattle.fill_steps.specs.declared.page.FillStep.TheVariants.{Next, Again, Failed, Waits}
use Rattle.fill_steps.proofs.Suiting.{suits_page}

-- ---- the lowest page

first_clear : (n : ℕ) (test : ℕ → Bool) → ((j : ℕ) → j < n → test j ≡ false) → first_to n test ≡ None
unfolding first_to
first_clear zero test none = refl
first_clear (suc n) test none =
    let rest = first_clear n test (λ j l. none j (omega arith)) in
    let here : test n ≡ false = none n (omega arith) in
    ap (λ (o : Option ℕ). or_else o (if test n then Some n else None)) rest ∙ ap (λ (t : Bool). if t then Some n else None) here

first_is : (n : ℕ) (test : ℕ → Bool) (i : ℕ) → i < n → test i ≡ true → ((j : ℕ) → j < i → test j ≡ false) → first_to n test ≡ Some i
unfolding first_to
first_is zero test i l t none = absurd (omega arith)
first_is (suc n) test i l t none =
    ⊎_elim
    (λ (e : i ≡ n).
    let rest = first_clear n test (λ j m. none j (subst (λ (k : ℕ). j < k) (sym e) m)) in
    let here : test n ≡ true = ap test (sym e) ∙ t in
    ap (λ (o : Option ℕ). or_else o (if test n then Some n else None)) rest ∙ (ap (λ (b : Bool). if b then Some n else None) here ∙ ap (λ (k : ℕ). Some k) (sym e)))
    (λ (d : i ≢ n). let m : i < n = less i n l d in ap (λ (o : Option ℕ). or_else o (if test n then Some n else None)) (first_is n test i m t none))
    (same_or_not i n)
  where
    less : (i n : ℕ) → i < suc n → i ≢ n → i < n
    less i n l d = grind (arith, nat_tests)

-- ---- what the job tells

abbrev write_as : ℕ → ℕ → ℕ → Bool → Reach
write_as off n len z = if z then no_reach else record { mode = Exclusive; from = if nat_lt len (off + n) then min (off / 4096) (len / 4096) else off / 4096; to = Pages (off + n); first = off / 4096; pages = Pages (off + n) - off / 4096; begin = off; end = off + n }

abbrev read_as : ℕ → ℕ → ℕ → Bool → Reach
read_as off n len z = if z then no_reach else record { mode = Shared; from = off / 4096; to = min (Pages (off + n)) range_end; first = off / 4096; pages = min (Pages (off + n)) (Pages len) - off / 4096; begin = off; end = off + n }

write_low : (off n len : ℕ) → 4096 * (write_reach off n len).first ≤ (write_reach off n len).end
write_low off n len = go (n == 0)
  where
    go : (z : Bool) → 4096 * (write_as off n len z).first ≤ (write_as off n len z).end
    go true = omega arith
    go false = omega arith

write_gathers : (off n len i : ℕ) → (write_reach off n len).mode ≡ Shared → i < (write_reach off n len).pages → ⊥
write_gathers off n len i = go (n == 0)
  where
    go : (z : Bool) → (write_as off n len z).mode ≡ Shared → i < (write_as off n len z).pages → ⊥
    go true e l = absurd (omega arith)
    go false e l = absurd (cc)

-- a call that shares its pages gathers all of them
shared_gathers : (call : Call) (len i : ℕ) → (reach_of call len).mode ≡ Shared → i < (reach_of call len).pages → gathers call (reach_of call len) i ≡ true
shared_gathers (Write name off bytes) len i e l = absurd (write_gathers off (length bytes) len i e l)
shared_gathers (Append name bytes) len i e l = absurd (write_gathers len (length bytes) len i e l)
shared_gathers call len i e l = refl

-- the pages of a call that has them alone lie low
read_shared : (off n len : ℕ) → (read_reach off n len).mode ≡ Exclusive → ⊥
read_shared off n len = go (n == 0)
  where
    go : (z : Bool) → (read_as off n len z).mode ≡ Exclusive → ⊥
    go true e = absurd (cc)
    go false e = absurd (cc)

first_low : (call : Call) (len : ℕ) → (reach_of call len).mode ≡ Exclusive → 4096 * (reach_of call len).first ≤ (reach_of call len).end
first_low (Read name off n) len e = absurd (read_shared off n len e)
first_low (Readl file off n function fuel cap param) len e = absurd (read_shared off n len e)
first_low (Write name off bytes) len e = write_low off (length bytes) len
first_low (Append name bytes) len e = write_low len (length bytes) len
first_low (Writel file off n function fuel param input) len e = write_low off n len
first_low (Trunc name n) len e = omega arith
first_low call len e = omega arith

exclusive_is : (m : Mode) → is_exclusive m ≡ true → m ≡ Exclusive
exclusive_is Shared e = absurd (cc)
exclusive_is Exclusive e = refl

shared_is : (m : Mode) → is_exclusive m ≡ false → m ≡ Shared
shared_is Shared e = refl
shared_is Exclusive e = absurd (cc)

low_of : (first k : ℕ) → 4096 * first ≤ k → k ≤ 2 ^ 28 → first < 2 ^ 62
low_of first k l m = omega arith

pub low_first : (job : Job) → IsReady job → is_exclusive (cores.reach_of job.reach).mode ≡ true → job.reach.first < 2 ^ 62
low_first job r e =
    let m = exclusive_is (cores.reach_of job.reach).mode e in
    let l = first_low job.request.call r.len (ap (λ (x : Reach). x.mode) (sym r.reach) ∙ m) in
    let k : 4096 * job.reach.first ≤ job.reach.end = subst (λ (x : Reach). 4096 * x.first ≤ x.end) (sym r.reach) l in
    low_of job.reach.first job.reach.end k (r.low e)

pub place_there : (job : Job) (i : ℕ) → IsReady job → i < job.reach.pages → i < length job.pages.items
place_there job i r l = let a = pool_has job r in omega arith

-- ---- at a page

module _ (c : Core) (a : Actor) (lane i : ℕ) (job : Job) (p : IsGathering c a lane i job) (within : i < job.reach.pages) where
  pub span_within : i < (call_at c lane).claim.reach.pages
  span_within = subst (λ (x : Reach). i < x.pages) p.suits.reach within

  pub at_page : (mode : Mode) → (cores.reach_of job.reach).mode ≡ mode → gathers job.request.call (cores.reach_of job.reach) i ≡ true → IsAtPage c a lane i mode
  at_page mode is wanted =
      let f = call_at c lane in
      let want : gathers f.claim.request.call f.claim.reach i ≡ true = (λ k. gathers (sym p.suits.request k).call (sym p.suits.reach k) i) ∙ wanted in
      let missing = p.to.above i (omega arith) span_within in
      record {
        may = record {
          none = p.between.none;
          call = f;
          wants = record { flies = p.between.owned.flies; owns = p.between.owned.owns; unmarked = p.between.owned.mark; within = span_within; wanted = want; missing = missing };
          mode_is = ap (λ (x : Reach). x.mode) (sym p.suits.reach) ∙ is;
        };
        lowest = first_is f.claim.reach.pages (λ j. gathers f.claim.request.call f.claim.reach j && is_none (f.gathered j)) i span_within (both (gathers f.claim.request.call f.claim.reach i) (f.gathered i) want missing)
            (λ j l. gone (gathers f.claim.request.call f.claim.reach j) (f.gathered j) (λ w. p.to.below j l (let b = span_within in omega arith) w));
      }
    where
      both : (t : Bool) (o : Option Page) → t ≡ true → o ≡ None → (t && is_none o) ≡ true
      both true o e n = ap is_none n
      both false o e n = absurd (cc)

      gone : (t : Bool) (o : Option Page) → (t ≡ true → is_some o ≡ true) → (t && is_none o) ≡ false
      gone false o k = refl
      gone true (Some x) k = refl
      gone true None k = let z = k refl in absurd (cc)

  pub shared_page : is_exclusive (cores.reach_of job.reach).mode ≡ false → IsAtPage c a lane i Shared
  shared_page e =
      let m = shared_is (cores.reach_of job.reach).mode e in
      let r = p.suits.ready in
      let l : i < (reach_of job.request.call r.len).pages = subst (λ (x : Reach). i < x.pages) r.reach within in
      at_page Shared m (ap (λ (x : Reach). gathers job.request.call x i) r.reach ∙ shared_gathers job.request.call r.len i (ap (λ (x : Reach). x.mode) (sym r.reach) ∙ m) l)

  pub lent_page : is_exclusive (cores.reach_of job.reach).mode ≡ true → gathers job.request.call (cores.reach_of job.reach) i ≡ true → IsAtPage c a lane i Exclusive
  lent_page e wanted = at_page Exclusive (exclusive_is (cores.reach_of job.reach).mode e) wanted

  -- a page that isn't gathered
  pub passed_over : gathers job.request.call (cores.reach_of job.reach) i ≡ false → IsGathering c a lane (i + 1) job
  passed_over unwanted =
      let f = call_at c lane in
      let not_wanted : gathers f.claim.request.call f.claim.reach i ≡ false = (λ k. gathers (sym p.suits.request k).call (sym p.suits.reach k) i) ∙ unwanted in
      record {
        between = p.between;
        to = record {
          below = λ j l m w.
              ⊎_elim (λ (s : j ≡ i). let z : gathers f.claim.request.call f.claim.reach i ≡ true = ap (λ (k : ℕ). gathers f.claim.request.call f.claim.reach k) (sym s) ∙ w in absurd (cc))
              (λ (d : j ≢ i). p.to.below j (less j i l d) m w) (same_or_not j i);
          above = λ j l m. p.to.above j (omega arith) m;
        };
        suits = p.suits;
        fresh = p.fresh;
      }
    where
      less : (j i : ℕ) → j < i + 1 → j ≢ i → j < i
      less j i l d = grind (arith, nat_tests)

  -- the page is gathered, or not yet
  module _ (d : Core) (w : Page) (x : Option Page) (after : IsBetween false d a lane) (s : IsSameBut c d lane i x) (has : (q : Page) → x ≡ Some q → w ≡ q) where
    still_below : (j : ℕ) → j < i → j < (call_at d lane).claim.reach.pages → gathers (call_at d lane).claim.request.call (call_at d lane).claim.reach j ≡ true → is_some ((call_at d lane).gathered j) ≡ true
    still_below j l m want =
        let n : j < (call_at c lane).claim.reach.pages = subst (λ (z : Claim). j < z.reach.pages) s.call.claim m in
        ap (λ (o : Option Page). is_some o) (s.others j (less j i l) n) ∙ p.to.below j l n (subst (λ (z : Claim). gathers z.request.call z.reach j ≡ true) s.call.claim want)
      where
        less : (j i : ℕ) → j < i → j ≢ i
        less j i l = λ e. absurd (omega (arith, e))

    still_above : (j : ℕ) → i < j → j < (call_at d lane).claim.reach.pages → (call_at d lane).gathered j ≡ None
    still_above j l m =
        let n : j < (call_at c lane).claim.reach.pages = subst (λ (z : Claim). j < z.reach.pages) s.call.claim m in
        s.others j (more j i l) n ∙ p.to.above j (omega arith) n
      where
        more : (j i : ℕ) → i < j → j ≢ i
        more j i l = λ e. absurd (omega (arith, e))

    suits_now : Suits (with_page job i w) (told_at d lane)
    suits_now =
        suits_page job i w (told_at c lane) (told_at d lane) p.fresh (place_there job i p.suits.ready within) s.call.claim s.call.phase s.code s.readable (λ q e. has q (sym s.page ∙ e)) s.others p.suits

    pub still_at : x ≡ None → IsGathering d a lane i (with_page job i w)
    still_at none =
        record {
          between = after;
          to = record {
            below = still_below;
            above = λ j l m.
                ⊎_elim (λ (e : j ≡ i). ap (call_at d lane).gathered e ∙ (s.page ∙ none)) (λ (n : j ≢ i). still_above j (more j i l n) m) (same_or_not j i);
          };
          suits = suits_now;
          fresh = p.fresh;
        }
      where
        more : (j i : ℕ) → i ≤ j → j ≢ i → i < j
        more j i l n = grind (arith, nat_tests)

    pub gone_on : is_some x ≡ true → IsGathering d a lane (i + 1) (with_page job i w)
    gone_on some =
        record {
          between = after;
          to = record {
            below = λ j l m want.
                ⊎_elim (λ (e : j ≡ i). ap (λ (k : ℕ). is_some ((call_at d lane).gathered k)) e ∙ (ap (λ (o : Option Page). is_some o) s.page ∙ some)) (λ (n : j ≢ i). still_below j (less j i l n) m want) (same_or_not j i);
            above = λ j l m. still_above j (omega arith) m;
          };
          suits = suits_now;
          fresh = p.fresh;
        }
      where
        less : (j i : ℕ) → j < i + 1 → j ≢ i → j < i
        less j i l d = grind (arith, nat_tests)

module _ {D J : Type 0} (seen : D → DieView) where
  abbrev C : State D J → Core
  C = core_of seen

  gathers_as : (o : Snapshot (State D J)) (v w : View (Snapshot (State D J)) Event) (a : Actor) (lane i : ℕ) (m : Bool) (x : Option Page) (P : Core → Type 0) (es : List Event) → Tried seen o v w a lane i m x es → P (core_seen C o w) → Gathers seen o v w a lane P es
  gathers_as o v w a lane i m x P es t p = record { of = t.of; open_still = t.open_still; next = t.next; call = t.same.call; says = p; run = t.run; solo = t.solo }

  pub step_says : (o : Snapshot (State D J)) (v w : View (Snapshot (State D J)) Event) (a : Actor) (lane i : ℕ) (job : Job) (page : Page) (r : Result FillStep Worn) (es : List Event) → IsGathering (core_seen C o v) a lane i job → i < job.reach.pages → PageSays seen o v w a lane i page r es → StepSays seen o v w a lane i (with_page job i page) r es
  step_says o v w a lane i job page (Err y) es p l s = s
  step_says o v w a lane i job page (Ok Next) es p l s =
      gathers_as o v w a lane i false (Some page) (λ d. IsGathering d a lane (i + 1) (with_page job i page)) es s (gone_on (core_seen C o v) a lane i job p l (core_seen C o w) page (Some page) s.between s.same (λ q e. let z : page ≡ q = cc in z) refl)
  step_says o v w a lane i job page (Ok Again) es p l s =
      (gathers_as o v w a lane i false None (λ d. IsGathering d a lane i (with_page job i page)) es s.0 (still_at (core_seen C o v) a lane i job p l (core_seen C o w) page None s.0.between s.0.same (λ q e. absurd (cc)) refl), s.1)
  step_says o v w a lane i job page (Ok Failed) es p l s = (gathers_as o v w a lane i true None (λ d. IsBetween true d a lane) es s.0 s.0.between, s.1)
  step_says o v w a lane i job page (Ok Waits) es p l s =
      (gathers_as o v w a lane i false None (λ d. IsGathering d a lane i (with_page job i page)) es s.0 (still_at (core_seen C o v) a lane i job p l (core_seen C o w) page None s.0.between s.0.same (λ q e. absurd (cc)) refl), s.1, s.2)

  pub step_does : (o : Snapshot (State D J)) (v w : View (Snapshot (State D J)) Event) (a : Actor) (lane i : ℕ) (job : Job) (page : Page) (r : Result FillStep Worn) → IsGathering (core_seen C o v) a lane i job → i < job.reach.pages → Does v w (PageSays seen o v w a lane i page r) → Does v w (StepSays seen o v w a lane i (with_page job i page) r)
  step_does o v w a lane i job page r p l s = record { events = s.events; went = s.went; says = step_says o v w a lane i job page r s.events p l s.says }

  -- the job still suits the call where a read failed
  pub step_left : (o : Snapshot (State D J)) (v w : View (Snapshot (State D J)) Event) (a : Actor) (lane i : ℕ) (job : Job) (page : Page) (r : Result FillStep Worn) → IsGathering (core_seen C o v) a lane i job → i < job.reach.pages → Does v w (PageSays seen o v w a lane i page r) →
      IfOk r (λ step. step ≡ Failed → Suits (with_page job i page) (told_at (core_seen C o w) lane))
  step_left o v w a lane i job page (Err y) p l s = tt
  step_left o v w a lane i job page (Ok Failed) p l s =
      let b = s.says.0.same in
      λ e. suits_page job i page (told_at (core_seen C o v) lane) (told_at (core_seen C o w) lane) p.fresh (place_there job i p.suits.ready l) b.call.claim b.call.phase b.code b.readable (λ q k. let z : None ≡ Some q = sym b.page ∙ k in absurd (cc)) b.others p.suits
  step_left o v w a lane i job page (Ok Next) p l s = λ e. absurd (cc)
  step_left o v w a lane i job page (Ok Again) p l s = λ e. absurd (cc)
  step_left o v w a lane i job page (Ok Waits) p l s = λ e. absurd (cc)

  -- no turn was needed
  pub passed_step : (o : Snapshot (State D J)) (v : View (Snapshot (State D J)) Event) (a : Actor) (lane i : ℕ) (job : Job) → IsGathering (core_seen C o v) a lane i job → i < job.reach.pages → gathers job.request.call (cores.reach_of job.reach) i ≡ false → Does v v (StepSays seen o v v a lane i job (Ok Next))
  passed_step o v a lane i job p l unwanted =
      record {
        events = [];
        went = went_none v;
        says = record { of = tt; open_still = refl; next = tt; call = record { claim = refl; phase = refl }; says = passed_over (core_seen C o v) a lane i job p l unwanted; run = λ al. refl; solo = λ al turn encode. tt };
      }
