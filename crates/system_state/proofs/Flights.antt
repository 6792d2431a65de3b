-- The row of a call in flight, and how few pages and frames calls have.
use Rattle.std.proofs.Common.{◌≡◌, ℕ, zero, suc, ◌+◌, ◌*◌, ◌<◌, ◌≤◌, Bool, true, false, List, [], length, get_or, set, Option, Some, None, refl, sym, ap, ◌∙◌, subst, arith}
use Rattle.std.specs.Prelude.{is_some, if◌then◌else◌}
use Rattle.std.proofs.lemmas.List.{length-set}
use Rattle.dispatcher.specs.declared.side.Side.{Side}
use Rattle.dispatcher.specs.declared.side.Side.TheVariants.{Host, Drive}
use Rattle.coherence.specs.Paired.{by_side}
use Rattle.flash_die.specs.Dies.{DieView}
use Rattle.core_state.specs.Words.{sum_to}
use Rattle.core_state.specs.State.{Page, Frame, NoFrame, Reserved, OnLoan, Flight}
use Rattle.core_state.specs.Frames.{weight, is_side, frames_of}
use Rattle.core_state.specs.Reach.{function_word}
use Rattle.system_state.specs.Cores.{core_of, flight_of}
use Rattle.system_state.specs.Jobs.{JobView}
use Rattle.system_state.specs.Kept.{IsKept, AreCalls}
use Rattle.system_state.specs.declared.lanes.Call.{Call}
use Rattle.system_state.specs.declared.lanes.Claim.{Claim}
use Rattle.system_state.specs.declared.state.Sizes.{Sizes}
use Rattle.system_state.specs.declared.state.State.{State}
use Rattle.system_state.proofs.Entries.{set-each}

-- ---- the row of a call in flight

pub record IsRow (o : Option Call) (g : List (Option Page)) (call : Flight) : Type 0 where
  pub row : Call
  pub is : o ≡ Some row
  pub flight : flight_of (Some row) g ≡ Some call

pub row_of : (o : Option Call) (g : List (Option Page)) (call : Flight) → flight_of o g ≡ Some call → IsRow o g call
row_of None g call e = absurd (cc)
row_of (Some x) g call e = record { row = x; is = refl; flight = e }

pub row_there : (o : Option Call) (g : List (Option Page)) (call : Flight) → flight_of o g ≡ Some call → is_some o ≡ true
row_there o g call e = ap (λ (w : Option Call). is_some w) (row_of o g call e).is

-- ---- a row changes up to its claim

pub record IsClaimed (old new : Call) : Type 0 where
  pub frames : length new.frames ≡ length old.frames
  pub claim : new.claim ≡ old.claim

-- where there is a new row, it is the old one up to its claim
abbrev pub AreClaimedRows : Option Call → Option Call → Type 0
AreClaimedRows old new = (call : Call) → new ≡ Some call → (was : Call) × (old ≡ Some was) × IsClaimed was call

pub rows_put : (z : Sizes) (calls : List (Option Call)) (lane : ℕ) (new : Option Call) → lane < length calls → AreClaimedRows (get_or calls lane None) new → AreCalls z calls → AreCalls z (set calls lane new)
rows_put z calls lane new l same k = record {
  count = length-set calls lane new ∙ k.count;
  frames = set-each (λ (j : ℕ) (w : Option Call). (call : Call) → w ≡ Some call → length call.frames ≡ 65) calls lane new None l
      (λ call is. let o = same call is in o.2.frames ∙ k.frames lane o.0 o.1) (λ j n. k.frames j);
  few = set-each (λ (j : ℕ) (w : Option Call). (call : Call) → w ≡ Some call → call.claim.reach.pages ≤ 65) calls lane new None l
      (λ call is. let o = same call is in subst (λ (x : Claim). x.reach.pages ≤ 65) (sym o.2.claim) (k.few lane o.0 o.1)) (λ j n. k.few j);
  function = set-each (λ (j : ℕ) (w : Option Call). (call : Call) → w ≡ Some call → call.claim.function ≡ function_word call.claim.request.value.call) calls lane new None l
      (λ call is. let o = same call is in subst (λ (x : Claim). x.function ≡ function_word x.request.value.call) (sym o.2.claim) (k.function lane o.0 o.1)) (λ j n. k.function j);
}

-- ---- calls have few pages, and take few frames

sum_most : (n m : ℕ) (f : ℕ → ℕ) → ((l : ℕ) → f l ≤ m) → sum_to n f ≤ n * m
unfolding sum_to
sum_most zero m f h = omega arith
sum_most (suc n) m f h =
    let a = sum_most n m f h in
    let b = h n in
    let c : suc n * m ≡ n * m + m = omega arith in
    omega arith

weight_most : (f : Frame) → weight f ≤ 1
weight_most NoFrame = omega arith
weight_most Reserved = omega arith
weight_most OnLoan = omega arith

frames_most : (side : Side) (o : Option Flight) → ((x : Flight) → o ≡ Some x → x.claim.reach.pages ≤ 65) → frames_of side o ≤ 65
frames_most side None h = omega arith
frames_most side (Some x) h = go (is_side side x.claim.side)
  where
    go : (t : Bool) → (if t then sum_to x.claim.reach.pages (λ i. weight (x.frame i)) else 0) ≤ 65
    go false = omega arith
    go true = let a = sum_most x.claim.reach.pages 1 (λ i. weight (x.frame i)) (λ i. weight_most (x.frame i)) in let b = h x refl in omega arith

module _ {D J : Type 0} (seen : D → DieView) (suits : J → JobView → Type 0) (s : State D J) (k : IsKept seen suits s) where
  pub few_pages : (l : ℕ) (x : Flight) → (core_of seen s).calls l ≡ Some x → x.claim.reach.pages ≤ 65
  few_pages l x e =
      let r = row_of (get_or s.calls.items l None) (get_or s.told.value.gathered l []) x e in
      subst (λ (n : ℕ). n ≤ 65) (ap (λ (o : Option Flight). pages_or o) r.flight) (k.calls.few l r.row r.is)
    where
      pages_or : Option Flight → ℕ
      pages_or None = 0
      pages_or (Some f) = f.claim.reach.pages

  -- a place of the span of a call in flight
  pub span_within : (l i : ℕ) (x : Flight) → (core_of seen s).calls l ≡ Some x → i < x.claim.reach.pages → i < 65
  span_within l i x e w = let a = few_pages l x e in omega arith

  pub few_taken : (side : Side) → by_side side s.taken.host s.taken.drive ≤ 2080
  few_taken Host =
      let a = sum_most s.sizes.lanes 65 (λ l. frames_of Host ((core_of seen s).calls l)) (λ l. frames_most Host ((core_of seen s).calls l) (few_pages l)) in
      let b = k.taken.host in
      let c = k.sizes.lanes in
      omega arith
  few_taken Drive =
      let a = sum_most s.sizes.lanes 65 (λ l. frames_of Drive ((core_of seen s).calls l)) (λ l. frames_most Drive ((core_of seen s).calls l) (few_pages l)) in
      let b = k.taken.drive in
      let c = k.sizes.lanes in
      omega arith
