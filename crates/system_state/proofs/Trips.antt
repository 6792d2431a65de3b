-- The slot of a die that is at home, or out.
use Rattle.std.proofs.Common.{◌≡◌, ℕ, zero, suc, ◌<◌, true, List, [], ◌∷◌, length, Option, Some, None, refl, sym, ap, ◌∙◌, arith}
use Rattle.std.specs.Prelude.{is_none, slice_get}
use Rattle.core_state.specs.State.{Errand as Purpose, ToFill, Out}
use Rattle.system_state.specs.Slots.{errand_of, out_of}
use Rattle.system_state.specs.declared.dies.Slot.{Slot}
use Rattle.system_state.specs.declared.dies.Slot.TheVariants.{Home, Away}
use Rattle.system_state.specs.declared.dies.Trip.{Trip}

-- a die that is at home stands in its slot
pub home_there : {D : Type 0} (slots : List (Slot D)) (d : ℕ) → d < length slots → out_of (slice_get slots d) ≡ None → (x : D) × (slice_get slots d ≡ Some (Home x))
home_there [] d l e = absurd (omega arith)
home_there (Home x ∷ slots) zero l e = (x, refl)
home_there (Away t ∷ slots) zero l e = absurd (cc)
home_there (s ∷ slots) (suc d) l e = home_there slots d (omega arith) e

-- by the test that code makes
pub none_out : (o : Option Out) → is_none o ≡ true → o ≡ None
none_out None e = refl
none_out (Some o) e = absurd (cc)

-- a die that is out has what was kept of it in its slot
pub away_is : {D : Type 0} (slot : Option (Slot D)) (o : Out) → out_of slot ≡ Some o → (t : Trip D) × (slot ≡ Some (Away t))
away_is None o e = absurd (cc)
away_is (Some (Home d)) o e = absurd (cc)
away_is (Some (Away t)) o e = (t, refl)

abbrev purpose_or : Option Out → Purpose
purpose_or None = ToFill 0 0
purpose_or (Some o) = o.errand

-- with what it is out for
pub errand_is : {D : Type 0} (slot : Option (Slot D)) (t : Trip D) (o : Out) → slot ≡ Some (Away t) → out_of slot ≡ Some o → errand_of t.to ≡ o.errand
errand_is slot t o e f = ap purpose_or (sym (ap out_of e) ∙ f)
