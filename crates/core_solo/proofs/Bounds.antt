-- A call that is alone makes at most 2,384 events.
use Rattle.std.proofs.Common.{◌≡◌, ℕ, ◌+◌, ◌<◌, ◌≤◌, Bool, true, false, List, [], ◌∷◌, ◌++◌, Option, Some, None, length, refl, sym, ap, subst, ⊎_elim, arith, lit≤, length-append}
use Rattle.std.specs.Prelude.{◌&&◌, not, is_some, if◌then◌else◌}
use Rattle.page_base.specs.Drive.{meta_pages, IsDrive}
use Rattle.index_lists.specs.Words.{put, one_if}
use Rattle.index_lists.proofs.Counts.{count-append}
use Rattle.plain_files.specs.declared.calls.Request.{Request}
use Rattle.core_state.specs.declared.event.Event.{Event}
use Rattle.core_state.specs.State.{Page, Block, DieState, Flight, Out, Core}
use Rattle.core_state.specs.Contents.{is_unclean}
use Rattle.core_state.specs.Coherent.{Coherent}
use Rattle.core_state.specs.Happens.{CoreRun, Happens, after}
use Rattle.core_state.specs.Happens.{after_all}
use Rattle.core_solo.specs.Solo.{Steps, IsStep, SoloCall}
use Rattle.core_solo.specs.Alone.{OpeningFrames, IsAlone, room_left, dies_out}
use Rattle.core_solo.proofs.Words.{not_longer}
use Rattle.core_solo.proofs.Rooms.{AllHome}
use Rattle.core_solo.proofs.Goes.{home_or_out, out_low}
use Rattle.core_solo.proofs.Keeps.{home_again}
use Rattle.core_solo.proofs.Steps.{alone_after, fits_of}
use Rattle.core_solo.specs.Left.{solo_left, left_of, call_left}
use Rattle.core_solo.proofs.Falls.{outs_home, outs_in}
use Rattle.core_solo.proofs.Costs.{falls_after}
use Rattle.core_stores.proofs.Folds.{run_keeps}

-- what a step leaves, and how much less
pub record HasStepped (c : Core) (lane : ℕ) (request : Request) (n : ℕ) (c1 : Core) : Type 0 where
  pub coherent : Coherent c1
  pub alone : IsAlone c1 lane request
  pub falls : n + call_left c1 lane + dies_out c ≤ call_left c lane + dies_out c1

pub stepped : (encode : Core → ℕ → Page) (es : List Event) (c c1 : Core) (lane : ℕ) (request asked : Request) → Coherent c → IsAlone c lane request → Steps (IsStep encode lane asked) c es → CoreRun c es c1 → HasStepped c lane request (length es) c1
stepped encode [] c c1 lane request asked h alone steps run = subst (HasStepped c lane request 0) (sym run) (record { coherent = h; alone = alone; falls = omega arith })
stepped encode (e ∷ es) c c1 lane request asked h alone steps run =
    let fit = fits_of encode c lane asked e steps.0.next in
    let alone2 = alone_after e c lane request h alone fit run.0 steps.0.open_still in
    let less = falls_after e c lane request h alone fit run.0 steps.0.open_still in
    let h2 = run_keeps c (after c e) (e ∷ []) h (run.0, refl) in
    let rest = stepped encode es (after c e) c1 lane request asked h2 alone2 steps.1 run.1 in
    let more = rest.falls in
    record { coherent = rest.coherent; alone = rest.alone; falls = omega arith }

-- at most one die is out
pub outs_most : (c : Core) (lane : ℕ) (request : Request) → Coherent c → IsAlone c lane request → dies_out c ≤ 1
outs_most c lane request h alone = ⊎_elim (λ (home : AllHome c). let z = outs_home c home in omega arith) (λ o. one o.0 o.1 o.2) (home_or_out c h)
  where
    one : (die : ℕ) (out : Out) → (c.dies die).out ≡ Some out → dies_out c ≤ 1
    one die out e =
        let x : DieState = record { out = None; fills = 0; writes = 0; failed = 0 } in
        let k = outs_in c (record c { dies = put c.dies die x }) die out x e (out_low c h die out e) refl refl refl (home_again c lane request h alone die out e x refl) in
        let a = k.0 in
        omega arith

-- ---- how much there can be to do

once_of : (t : Bool) → one_if t < 2
once_of true = lit≤ tt
once_of false = lit≤ tt

copies_most : (x : Block) → one_if (is_unclean x) ≤ one_if (is_some x.host) + one_if (is_some x.drive)
copies_most x = go x.clean x.host x.drive
  where
    go : (t : Bool) (p q : Option Page) → one_if (not t && (if is_some p then true else is_some q)) ≤ one_if (is_some p) + one_if (is_some q)
    go true p q = omega arith
    go false None None = lit≤ tt
    go false (Some p) q = omega arith
    go false None (Some q) = lit≤ tt

pub uncleans_most : (c : Core) → Coherent c → length c.unclean ≤ length c.host_order + length c.drive_order
uncleans_most c h =
    let k = not_longer c.unclean (c.host_order ++ c.drive_order)
    (λ b. let o = h.orders.ordered.unclean b in let t = once_of (is_unclean (c.blocks b)) in omega arith)
    (λ b. let o = h.orders.ordered.unclean b in let p = h.orders.ordered.host b in let q = h.orders.ordered.drive b in let m = copies_most (c.blocks b) in omega (arith, count-append b c.host_order c.drive_order)) in
    omega (arith, length-append c.host_order c.drive_order)

pub meta_most : (blocks dies : ℕ) → IsDrive blocks dies → meta_pages blocks ≤ 387
meta_most blocks dies d = let m = d.most_blocks in omega arith

pub room_most : (c : Core) → OpeningFrames c.shape → Coherent c → room_left c ≤ 1408
room_most c f h =
    let a = h.frames.host in
    let b = h.frames.drive in
    let u = uncleans_most c h in
    let p = f.host in
    let q = f.drive in
    omega arith

pub left_most_idle : (c : Core) (lane : ℕ) → OpeningFrames c.shape → Coherent c → c.calls lane ≡ None → call_left c lane ≤ 2382
left_most_idle c lane f h idle = subst (λ (o : Option Flight). left_of c (c.lanes lane).mark o ≤ 2382) (sym idle) (go (c.lanes lane).mark)
  where
    go : (t : Bool) → left_of c t None ≤ 2382
    go true = lit≤ tt
    go false = let r = room_most c f h in let m = meta_most c.shape.blocks c.shape.dies h.placed.drive in omega arith

-- a beginning of a run
pub run_begins : (xs ys : List Event) (c c1 : Core) → CoreRun c (xs ++ ys) c1 → CoreRun c xs (after_all c xs) × CoreRun (after_all c xs) ys c1
run_begins [] ys c c1 run = (refl, run)
run_begins (x ∷ xs) ys c c1 run = let k = run_begins xs ys (after c x) c1 run.1 in ((run.0, k.0), k.1)

pub steps_short : (encode : Core → ℕ → Page) (es : List Event) (c c1 : Core) (lane : ℕ) (request asked : Request) → OpeningFrames c.shape → Coherent c → IsAlone c lane request → c.calls lane ≡ None → Steps (IsStep encode lane asked) c es → CoreRun c es c1 → length es ≤ 2383
steps_short encode es c c1 lane request asked f h alone idle steps run =
    let k = stepped encode es c c1 lane request asked h alone steps run in
    let a = k.falls in
    let b = outs_most c1 lane request k.coherent k.alone in
    let m = left_most_idle c lane f h idle in
    omega arith

pub call_short : (encode : Core → ℕ → Page) (es : List Event) (c c1 : Core) (lane : ℕ) (request asked : Request) → OpeningFrames c.shape → Coherent c → IsAlone c lane request → c.calls lane ≡ None → SoloCall encode c lane asked es → CoreRun c es c1 → length es ≤ 2384
call_short encode es c c1 lane request asked f h alone idle call run =
    let parts = run_begins call.most (call.last ∷ []) c c1 (subst (λ (xs : List Event). CoreRun c xs c1) call.whole run) in
    let k = steps_short encode call.most c (after_all c call.most) lane request asked f h alone idle call.steps parts.0 in
    let l = ap length call.whole in
    omega (arith, length-append call.most (call.last ∷ []))

-- ---- the measure

pub solo_falls : (encode : Core → ℕ → Page) (c c2 : Core) (lane : ℕ) (request : Request) (e : Event) → Coherent c → IsAlone c lane request → IsStep encode lane request c e → Happens c e c2 → solo_left c2 lane < solo_left c lane
solo_falls encode c c2 lane request e h alone step s =
    let k = stepped encode (e ∷ []) c c2 lane request request h alone (step, tt) (record { hands = s.hands; closing = s.closing; may = s.may; leaves = refl }, s.leaves) in
    let a = k.falls in
    let b = outs_most c2 lane request k.coherent k.alone in
    let d = outs_most c lane request h alone in
    omega arith

pub solo_most : (c : Core) (lane : ℕ) → OpeningFrames c.shape → Coherent c → c.calls lane ≡ None → solo_left c lane ≤ 2383
solo_most c lane f h idle = let m = left_most_idle c lane f h idle in omega arith
