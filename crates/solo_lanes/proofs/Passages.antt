-- What the core is once some lanes have entered, or left.
use Rattle.std.proofs.Common.{◌≡◌, ℕ, zero, suc, ◌+◌, ◌<◌, ◌≤◌, refl, sym, ap, ◌∙◌, subst, Option, arith}
use Rattle.std.specs.Prelude.{◌≢◌, map}
use Rattle.std.specs.List.{range_with_len}
use Rattle.page_base.specs.Drive.{meta_pages}
use Rattle.index_lists.proofs.Puts.{put-other, put-each}
use Rattle.core_state.specs.declared.actor.Actor.{Actor}
use Rattle.core_state.specs.declared.actor.Actor.TheVariants.{Lane, Closer}
use Rattle.core_state.specs.declared.event.Event.TheVariants.{Enter, Leave}
use Rattle.core_state.specs.State.{Shape, Inside, Gone, LaneState, Flight, DieState, Core}
use Rattle.core_state.specs.Happens.{HoldsNone, IsClosing, CoreRun, after, after_all}
use Rattle.core_state.specs.LaneEvents.{MayEnter, MayLeave}
use Rattle.core_state.proofs.Runs.{leads_to}
use Rattle.core_solo.specs.Solo.{enters, leaves}
use Rattle.core_solo.specs.Alone.{IsAtRest}
use Rattle.core_solo.proofs.Rests.{shape_all}
use Rattle.core_solo.proofs.Whole.{entered_all, left_all}
use Rattle.core_closing.specs.Kept.{MaySettle}
use Rattle.solo_lanes.specs.Lanes.{AreHome, IsUnentered, MayAllLeave, KeepsLanes}

-- ---- lanes that come are as they were but for their stage, and those above them as they were

record ComesTo (c d : Core) (a n : ℕ) : Type 0 where
  pub above : (l : ℕ) → a + n ≤ l → d.lanes l ≡ c.lanes l
  pub mark : (l : ℕ) → (d.lanes l).mark ≡ (c.lanes l).mark
  pub ended : (l : ℕ) → (d.lanes l).ended ≡ (c.lanes l).ended

come : (n a : ℕ) (c : Core) → ComesTo c (after_all c (map (λ lane. Enter lane) (range_with_len a n))) a n
come zero a c = record { above = λ l p. refl; mark = λ l. refl; ended = λ l. refl }
come (suc n) a c =
    let k = come n (a + 1) (after c (Enter a)) in
    let x = record (c.lanes a) { stage = Inside } in
    record {
      above = λ l p. let d : l ≢ a = omega arith in k.above l (omega arith) ∙ put-other c.lanes a x l d;
      mark = λ l. k.mark l ∙ put-each (λ (j : ℕ) (w : LaneState). w.mark ≡ (c.lanes j).mark) c.lanes a x refl (λ j d. refl) l;
      ended = λ l. k.ended l ∙ put-each (λ (j : ℕ) (w : LaneState). w.ended ≡ (c.lanes j).ended) c.lanes a x refl (λ j d. refl) l;
    }

-- ---- the next lane may enter

pub next_enters : (c d : Core) (n : ℕ) → IsUnentered c → CoreRun c (enters n) d → n < c.shape.lanes → MayEnter d n
next_enters c d n p run low =
    let is = leads_to (enters n) c d run in
    let k = come n 0 c in
    subst (λ (x : Core). MayEnter x n) (sym is) (record {
      within = subst (λ (s : Shape). n < s.lanes) (sym (shape_all (enters n) c)) low;
      outside = ap (λ (w : LaneState). w.stage) (k.above n (omega arith)) ∙ p.outside n low;
    })

-- ---- all have entered

pub all_rest : (c d : Core) (n : ℕ) → IsUnentered c → CoreRun c (enters n) d → n ≡ c.shape.lanes → IsAtRest d
all_rest c d n p run all =
    let is = leads_to (enters n) c d run in
    let e = entered_all n 0 c in
    subst IsAtRest (sym is) (record {
      inside = λ l q. let r : l < c.shape.lanes = subst (λ (s : Shape). l < s.lanes) (shape_all (enters n) c) q in e.moved l (omega arith) (omega arith);
      still = λ l. ap (λ (w : ℕ → Option Flight). w l) e.calls ∙ p.still l;
      home = λ die. ap (λ (w : ℕ → DieState). (w die).out) e.dies ∙ p.home die;
    })

pub all_kept : (c d : Core) (n : ℕ) → CoreRun c (enters n) d → KeepsLanes c d
all_kept c d n run =
    let is = leads_to (enters n) c d run in
    let k = come n 0 c in
    subst (λ (x : Core). KeepsLanes c x) (sym is) (record { mark = k.mark; ended = k.ended })

-- ---- lanes that go

-- where all dies are at home nobody holds one
none_out : (c : Core) (a : Actor) → AreHome c → HoldsNone c a
none_out c a home die out e = let n = home die in absurd (cc)

gone_above : (n a : ℕ) (c : Core) (l : ℕ) → a + n ≤ l → (after_all c (map (λ lane. Leave lane) (range_with_len a n))).lanes l ≡ c.lanes l
gone_above zero a c l p = refl
gone_above (suc n) a c l p = let d : l ≢ a = omega arith in gone_above n (a + 1) (after c (Leave a)) l (omega arith) ∙ put-other c.lanes a (record (c.lanes a) { stage = Gone }) l d

-- the dies are at home still
pub still_home : (c d : Core) (n : ℕ) → AreHome c → CoreRun c (leaves n) d → AreHome d
still_home c d n home run =
    subst AreHome (sym (leads_to (leaves n) c d run)) (λ die. ap (λ (w : ℕ → DieState). (w die).out) (left_all n 0 c).dies ∙ home die)

pub next_free : (c d : Core) (n : ℕ) → AreHome c → CoreRun c (leaves n) d → HoldsNone d (Lane n)
next_free c d n home run = none_out d (Lane n) (still_home c d n home run)

-- the next lane may leave
pub next_leaves : (c d : Core) (n : ℕ) → MayAllLeave c → CoreRun c (leaves n) d → n < c.shape.lanes → MayLeave d n
next_leaves c d n p run low =
    let is = leads_to (leaves n) c d run in
    let k = gone_above n 0 c n (omega arith) in
    subst (λ (x : Core). MayLeave x n) (sym is) (record {
      idle = record {
        within = subst (λ (s : Shape). n < s.lanes) (sym (shape_all (leaves n) c)) low;
        inside = ap (λ (w : LaneState). w.stage) k ∙ p.rest.inside n low;
        idle = ap (λ (w : ℕ → Option Flight). w n) (left_all n 0 c).calls ∙ p.rest.still n;
      };
      unmarked = ap (λ (w : LaneState). w.mark) k ∙ p.unmarked n low;
    })

-- all have left
pub all_gone : (c d : Core) (n : ℕ) → IsAtRest c → CoreRun c (leaves n) d → n ≡ c.shape.lanes → IsClosing d
all_gone c d n rest run all =
    let is = leads_to (leaves n) c d run in
    let e = left_all n 0 c in
    subst IsClosing (sym is) (record {
      left = λ l q. let r : l < c.shape.lanes = subst (λ (s : Shape). l < s.lanes) (shape_all (leaves n) c) q in e.moved l (omega arith) (omega arith);
      none = λ l. ap (λ (w : ℕ → Option Flight). w l) e.calls ∙ rest.still l;
    })

pub ready_then : (c d : Core) (n : ℕ) → IsAtRest c → CoreRun c (leaves n) d → n ≡ c.shape.lanes → c.closer ≤ meta_pages c.shape.blocks → MaySettle d
ready_then c d n rest run all low =
    let is = leads_to (leaves n) c d run in
    record {
      closing = all_gone c d n rest run all;
      none = none_out d Closer (still_home c d n rest.home run);
      most = subst (λ (x : Core). x.closer ≤ meta_pages x.shape.blocks) (sym is)
          (subst (λ (k : ℕ). k ≤ meta_pages (after_all c (leaves n)).shape.blocks) (sym (left_all n 0 c).closer) (subst (λ (s : Shape). c.closer ≤ meta_pages s.blocks) (sym (shape_all (leaves n) c)) low));
    }
