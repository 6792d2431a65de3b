-- Calls take few frames.
use Rattle.std.proofs.Common.{◌≡◌, ℕ, zero, suc, ◌+◌, ◌*◌, ◌<◌, ◌≤◌, Bool, true, false, Option, Some, None, get_or, refl, ap, subst, arith}
use Rattle.std.specs.Prelude.{if◌then◌else◌, [], List}
use Rattle.dispatcher.specs.declared.side.Side.{Side}
use Rattle.dispatcher.specs.declared.side.Side.TheVariants.{Host, Drive}
use Rattle.coherence.specs.Paired.{by_side}
use Rattle.flash_die.specs.Dies.{DieView}
use Rattle.core_state.specs.Words.{sum_to}
use Rattle.core_state.specs.State.{Page, Frame, NoFrame, Reserved, OnLoan, Flight}
use Rattle.core_state.specs.Frames.{weight, is_side, frames_of}
use Rattle.system_state.specs.Jobs.{JobView}
use Rattle.system_state.specs.Cores.{core_of, flight_of, frames_of as row_frames}
use Rattle.system_state.specs.Kept.{IsKept}
use Rattle.system_state.specs.declared.lanes.Call.{Call}
use Rattle.system_state.specs.declared.state.State.{State}

sum_most : (n m : ℕ) (f : ℕ → ℕ) → ((l : ℕ) → f l ≤ m) → sum_to n f ≤ n * m
unfolding sum_to
sum_most zero m f h = omega arith
sum_most (suc n) m f h =
    let a = sum_most n m f h in
    let b = h n in
    let c : suc n * m ≡ n * m + m = omega arith in
    omega arith

weight_most : (f : Frame) → weight f ≤ 1
weight_most NoFrame = omega arith
weight_most Reserved = omega arith
weight_most OnLoan = omega arith

frames_most : (side : Side) (o : Option Call) (gathered : List (Option Page)) → ((x : Call) → o ≡ Some x → x.claim.reach.pages ≤ 65) → frames_of side (flight_of o gathered) ≤ 65
frames_most side None gathered h = omega arith
frames_most side (Some x) gathered h = go (is_side side x.claim.side)
  where
    go : (t : Bool) → (if t then sum_to x.claim.reach.pages (λ i. weight (row_frames x.frames i)) else 0) ≤ 65
    go false = omega arith
    go true = let a = sum_most x.claim.reach.pages 1 (λ i. weight (row_frames x.frames i)) (λ i. weight_most (row_frames x.frames i)) in let b = h x refl in omega arith

module _ {D J : Type 0} (seen : D → DieView) (suits : J → JobView → Type 0) (s : State D J) where
  few : IsKept seen suits s → (side : Side) (l : ℕ) → frames_of side ((core_of seen s).calls l) ≤ 65
  few k side l = frames_most side (get_or s.calls.items l None) (get_or s.told.value.gathered l []) (k.calls.few l)

  -- 32 lanes of at most 65 pages
  pub few_taken : IsKept seen suits s → (side : Side) → by_side side s.taken.host s.taken.drive ≤ 2080
  few_taken k Host =
      let a = sum_most s.sizes.lanes 65 (λ l. frames_of Host ((core_of seen s).calls l)) (few k Host) in
      let b = k.taken.host in
      let c = k.sizes.lanes in
      omega arith
  few_taken k Drive =
      let a = sum_most s.sizes.lanes 65 (λ l. frames_of Drive ((core_of seen s).calls l)) (few k Drive) in
      let b = k.taken.drive in
      let c = k.sizes.lanes in
      omega arith
